use Rattle.std.proofs.Common.{◌≡◌, length}
use Rattle.board_layout.specs.Renewed.{contents_of}
use Rattle.post_changes.specs.Posting.{Posting}
use Rattle.post_changes.proofs.post.add_bases.Given as goal

-- the change has the bases of the places so far, and its ledger stays
abbrev pub invariant-loop-place : goal.invariant-loop-place
invariant-loop-place l = record {
  ledger : l.change.ledger ≡ l.initial.change.ledger;
  so_far : Posting l.board l.posts l.place l.change;
  all : l.base-items ≡ contents_of l.board;
  end : l.place-end ≡ length (contents_of l.board);
}
