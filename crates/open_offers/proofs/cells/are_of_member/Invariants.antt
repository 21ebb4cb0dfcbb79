use Rattle.std.proofs.Common.{◌≡◌, drop}
use Rattle.open_offers.specs.Offers.{are_of_member}
use Rattle.open_offers.proofs.cells.are_of_member.Given as goal

-- the highs so far are those of a member, so that all are where those from here on are
abbrev pub invariant-loop-place : goal.invariant-loop-place
invariant-loop-place l = are_of_member l.members l.place (drop l.place l.highs) ≡ are_of_member l.members 0 l.highs
