use Rattle.std.proofs.Common.{◌≡◌, take}
use Rattle.offered_packets.specs.Control.{listed}
use Rattle.offered_packets.proofs.control.listed.Given as goal

-- the conferences so far
abbrev pub invariant-loop-place : goal.invariant-loop-place
invariant-loop-place l = l.listed ≡ listed (take l.place l.conferences) l.user
