use Rattle.std.proofs.Common.{◌≡◌}
use Rattle.open_offers.specs.Texts.{u16s_at}
use Rattle.open_offers.proofs.texts.u16s_at.Given as goal

-- the numbers so far
abbrev pub invariant-loop-i : goal.invariant-loop-i
invariant-loop-i l = l.numbers ≡ u16s_at l.place l.i l.bytes
