use Rattle.std.proofs.Common.{◌≡◌, take}
use Rattle.slot_changes.specs.Packed.{deleted_count}
use Rattle.jam_pack.proofs.counting.deleted_count.Given as goal

-- those among the slots so far
abbrev pub invariant-loop-before : goal.invariant-loop-before
invariant-loop-before l = l.count ≡ deleted_count (take l.before l.base.conference.slots)
