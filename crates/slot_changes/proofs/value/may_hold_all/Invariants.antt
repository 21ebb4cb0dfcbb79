use Rattle.std.proofs.Common.{take}
use Rattle.std.specs.Prelude.{All}
use Rattle.slot_changes.specs.Values.{MayHold}
use Rattle.slot_changes.proofs.value.may_hold_all.Given as goal

-- the conference may hold the messages so far
abbrev pub invariant-loop-message : goal.invariant-loop-message
invariant-loop-message l = All (MayHold l.kind) (take l.message-index l.messages)
