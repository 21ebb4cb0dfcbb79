use Rattle.std.proofs.Common.{◌≡◌, drop}
use Rattle.open_offers.specs.Offers.{are_of_member}
use Rattle.offer_changes.proofs.fits.are_of_member.Given as goal

-- the highs so far are right, so the others decide
abbrev pub invariant-loop-place : goal.invariant-loop-place
invariant-loop-place l = are_of_member l.user.members l.place (drop l.place l.highs) ≡ are_of_member l.user.members 0 l.highs
