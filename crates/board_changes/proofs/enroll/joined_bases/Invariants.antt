use Rattle.std.proofs.Common.{◌≡◌, take, length}
use Rattle.board_changes.specs.Changed.{with_member}
use Rattle.board_changes.specs.Outlined.{GatheredEach}
use Rattle.board_layout.specs.Renewed.{contents_of, renewed}
use Rattle.board_changes.proofs.enroll.joined_bases.Given as goal

-- the bases of the places so far are those of the next board, and their patches were gathered
abbrev pub invariant-loop-place : goal.invariant-loop-place
invariant-loop-place l = record {
  bases : renewed (take l.place (contents_of l.board)) l.bases ≡ take l.place (contents_of (with_member l.user l.board));
  counted : length l.bases ≡ l.place;
  gathered : GatheredEach l.board (with_member l.user) l.place l.intent;
  all : l.base-items ≡ contents_of l.board;
  end : l.place-end ≡ length (contents_of l.board);
}
