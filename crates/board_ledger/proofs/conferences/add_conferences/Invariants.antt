use Rattle.std.proofs.Common.{◌≡◌, ◌++◌, take}
use Rattle.std.specs.List.{flat_map}
use Rattle.board_ledger.specs.Conferences.{conference_text}
use Rattle.board_ledger.proofs.conferences.add_conferences.Given as goal

-- the records so far were added
abbrev pub invariant-loop-conference : goal.invariant-loop-conference
invariant-loop-conference l = l.out ≡ l.initial.out ++ flat_map (conference_text) (take l.conference-index l.conferences)
