use Rattle.std.proofs.Common.{◌≡◌, ◌≤◌}
use Rattle.board_changes.specs.Enrolling.{joined_count as joined_count_of}
use Rattle.board_changes.proofs.size.joined_count.Given as goal

-- the places so far are counted
abbrev pub invariant-loop-place : goal.invariant-loop-place
invariant-loop-place l = record {
  counted : l.joined ≡ joined_count_of l.members 0 l.place;
  few : l.joined ≤ l.place;
}
