use Rattle.std.proofs.Common.{◌≡◌, take}
use Rattle.std.specs.List.{flat_map}
use Rattle.jam_writing.proofs.bodies.write_bodies.Given as goal

-- the bodies so far
abbrev pub invariant-loop-message : goal.invariant-loop-message
invariant-loop-message l = l.text ≡ flat_map (λ m. m.body) (take l.message-index l.messages)
