use Rattle.std.proofs.Common.{◌≡◌, true≢false, ℕ, ◌+◌, List, [], drop, sym, ap, ◌∙◌, subst, refl, arith}
use Rattle.std.specs.Prelude.{All}
use Rattle.std.proofs.lemmas.List.{drop_all}
use Rattle.std.proofs.lemmas.List.Elements.{All-nil}
use Rattle.slot_changes.proofs.board_changes.MemberLaws.{place_small}
use Rattle.board_layout.proofs.BasePlaces.{IsBase}
use Rattle.board_layout.specs.Board.{Board}
use Rattle.board_layout.specs.Renewed.{contents_of}
use Rattle.board_layout.specs.jam_base.Contents.{Contents}
use Rattle.jam_records.specs.declared.message.Message.{Message}
use Rattle.post_changes.proofs.FitLaws.{all_first, all_more}
use Rattle.post_changes.proofs.PlacePosts.{base_here, bases_left}
use Rattle.post_changes.specs.Posted.{all_posted, posted_in}
use Rattle.post_changes.proofs.fits.fits_places.Goals as goal

pub overflow_cast-place : goal.overflow_cast-place
overflow_cast-place c =
    let here = base_here c.args.board.now c.bases-base-items.result.now c.loop-place.place c.base-item.result c.bases-base-items.ensures.contents (omega arith) c.base-item.is in
    omega (arith, place_small c.args.board.now c.loop-place.place c.base-item.result c.bases-base-items.ensures.board here)

pub fits_place-requires-clause-base : goal.fits_place-requires-clause-base
fits_place-requires-clause-base c = base_here c.args.board.now c.bases-base-items.result.now c.loop-place.place c.base-item.result c.bases-base-items.ensures.contents (omega arith) c.base-item.is

pub returns-then-not-fits_place-clause-fits : goal.returns-then-not-fits_place-clause-fits
returns-then-not-fits_place-clause-fits c =
    let b : Board = c.args.board.now in
    let posts : List (ℕ × Message) = c.args.posts.now in
    let place : ℕ = c.loop-place.place in
    let base : Contents = c.base-item.result in
    let bases : List Contents = contents_of b in
    let left = bases_left b c.bases-base-items.result.now place base c.bases-base-items.ensures.contents (omega arith) c.base-item.is in (
      λ no. absurd (true≢false (sym no)),
      λ all. sym c.if-not-fits_place.true
          ∙ c.fits_place.ensures.1 (all_first IsBase (All IsBase (all_posted b posts 0 bases)) (all_posted b posts place (drop place bases)) (all_posted b posts (place + 1) (drop (place + 1) bases)) (posted_in b posts place base)
          (ap (all_posted b posts place) left) c.loop-place.invariant.left all),
    )

pub loop-place-preserved : goal.loop-place-preserved
loop-place-preserved c =
    let b : Board = c.args.board.now in
    let posts : List (ℕ × Message) = c.args.posts.now in
    let place : ℕ = c.loop-place.place in
    let base : Contents = c.base-item.result in
    let bases : List Contents = contents_of b in
    let v = c.loop-place.invariant in
    let left = bases_left b c.bases-base-items.result.now place base c.bases-base-items.ensures.contents (omega arith) c.base-item.is in
    record {
      left = all_more IsBase (All IsBase (all_posted b posts 0 bases)) (all_posted b posts place (drop place bases)) (all_posted b posts (place + 1) (drop (place + 1) bases)) (posted_in b posts place base)
          (ap (all_posted b posts place) left) v.left (c.fits_place.ensures.0 c.if-not-fits_place.false);
      all = v.all;
      end = v.end;
    }

pub returns-clause-fits : goal.returns-clause-fits
returns-clause-fits c =
    let b : Board = c.args.board.now in
    let posts : List (ℕ × Message) = c.args.posts.now in
    let place : ℕ = c.loop-place.place in
    let v = c.loop-place.invariant in
    let none : drop place (contents_of b) ≡ [] = drop_all place (contents_of b) (omega (arith, v.end)) in (
      λ yes. v.left.0 (subst (λ (bases : List Contents). All IsBase (all_posted b posts place bases)) (sym none) (All-nil IsBase)),
      λ all. refl,
    )
