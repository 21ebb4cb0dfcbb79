use Rattle.std.proofs.Common.{◌≡◌, ◌*◌, ◌≤◌, length, take}
use Rattle.std.specs.List.{flat_map}
use Rattle.board_ledger.specs.Conferences.{conference_text}
use Rattle.board_ledger.proofs.size.conferences_size.Given as goal

-- the length of the records so far
abbrev pub invariant-loop-conference : goal.invariant-loop-conference
invariant-loop-conference l = record {
  so_far : l.size ≡ length (flat_map conference_text (take l.conference-index l.conferences));
  small : l.size ≤ 19 * l.conference-index;
}
