use Rattle.std.proofs.Common.{take}
use Rattle.std.specs.Prelude.{All}
use Rattle.jam_layout.specs.Messages.{IsSlot}
use Rattle.slot_changes.proofs.slots.may_stand_all.Given as goal

-- the conference may have the slots so far
abbrev pub invariant-loop-slot : goal.invariant-loop-slot
invariant-loop-slot l = All (IsSlot l.kind) (take l.slot-index l.slots)
