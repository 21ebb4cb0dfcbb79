use Rattle.std.proofs.Common.{◌≡◌, ◌-◌, ◌^◌, length, min, sum_by, take}
use Rattle.jam_writing.proofs.bodies.room_for.Given as goal

-- the bytes of the bodies so far
abbrev pub invariant-loop-message : goal.invariant-loop-message
invariant-loop-message l = l.count ≡ min (sum_by (λ m. length m.body) (take l.message-index l.messages)) (2 ^ 64 - 1)
