use Rattle.std.proofs.Common.{◌≡◌, take, length}
use Rattle.board_changes.specs.Outlined.{GatheredEach}
use Rattle.board_layout.specs.Renewed.{contents_of, renewed}
use Rattle.offer_changes.specs.Changed.{read_offer}
use Rattle.offer_changes.proofs.acknowledge.bases_read.Given as goal

-- the bases of the places so far are those of the next board, and their patches were gathered
abbrev pub invariant-loop-place : goal.invariant-loop-place
invariant-loop-place l = record {
  bases : renewed (take l.place (contents_of l.board)) l.bases ≡ take l.place (contents_of (read_offer l.id l.now l.user l.offer l.board));
  counted : length l.bases ≡ l.place;
  gathered : GatheredEach l.board (read_offer l.id l.now l.user l.offer) l.place l.intent;
  all : l.base-items ≡ contents_of l.board;
  end : l.place-end ≡ length (contents_of l.board);
}
