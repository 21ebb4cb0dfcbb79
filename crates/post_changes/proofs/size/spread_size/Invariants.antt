use Rattle.std.proofs.Common.{◌≡◌, ◌+◌, ◌≤◌, drop, length, min}
use Rattle.board_layout.specs.Renewed.{contents_of}
use Rattle.post_changes.proofs.SizeLaws.{all_bytes}
use Rattle.post_changes.proofs.size.spread_size.Given as goal

-- the size so far, with the places that are left
abbrev pub invariant-loop-place : goal.invariant-loop-place
invariant-loop-place l = record {
  so_far : min (l.size + all_bytes l.board l.posts l.place (drop l.place (contents_of l.board))) 18446744073709551615 ≡ min (l.initial.size + all_bytes l.board l.posts 0 (contents_of l.board)) 18446744073709551615;
  small : l.size ≤ 18446744073709551615;
  all : l.base-items ≡ contents_of l.board;
  end : l.place-end ≡ length (contents_of l.board);
}
