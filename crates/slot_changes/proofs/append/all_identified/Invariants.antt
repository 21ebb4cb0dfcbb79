use Rattle.std.proofs.Common.{◌≡◌, ◌+◌, ◌++◌, drop}
use Rattle.slot_changes.specs.Msgids.{all_identified, generated}
use Rattle.slot_changes.proofs.append.all_identified.Given as goal

-- the copies so far, and those of the messages that are left
abbrev pub invariant-loop-index : goal.invariant-loop-index
invariant-loop-index l = l.copies ++ all_identified (generated l.conference l.bbsid) (l.first + l.index) (drop l.index l.messages) ≡ all_identified (generated l.conference l.bbsid) l.first l.messages
