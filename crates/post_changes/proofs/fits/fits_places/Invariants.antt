use Rattle.std.proofs.Common.{◌≡◌, ◌↔◌, drop, length}
use Rattle.std.specs.Prelude.{All}
use Rattle.board_layout.proofs.BasePlaces.{IsBase}
use Rattle.board_layout.specs.Renewed.{contents_of}
use Rattle.post_changes.specs.Posted.{all_posted}
use Rattle.post_changes.proofs.fits.fits_places.Given as goal

-- the bases so far fit, so the others decide
abbrev pub invariant-loop-place : goal.invariant-loop-place
invariant-loop-place l = record {
  left : All IsBase (all_posted l.board l.posts l.place (drop l.place (contents_of l.board))) ↔ All IsBase (all_posted l.board l.posts 0 (contents_of l.board));
  all : l.base-items ≡ contents_of l.board;
  end : l.place-end ≡ length (contents_of l.board);
}
