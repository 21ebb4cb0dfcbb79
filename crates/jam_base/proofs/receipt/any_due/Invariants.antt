use Rattle.std.proofs.Common.{◌≡◌, ◌+◌, drop}
use Rattle.jam_base.specs.Slots.{any_due}
use Rattle.jam_base.proofs.receipt.any_due.Given as goal

abbrev pub invariant-loop-place : goal.invariant-loop-place
invariant-loop-place l = any_due l.name l.receipt (l.place + 1) (drop l.place l.slots) ≡ any_due l.name l.receipt 1 l.slots
