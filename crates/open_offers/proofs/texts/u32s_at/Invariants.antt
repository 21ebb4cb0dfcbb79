use Rattle.std.proofs.Common.{◌≡◌, length}
use Rattle.open_offers.specs.Texts.{u32s_at}
use Rattle.open_offers.proofs.texts.u32s_at.Given as goal

-- the numbers so far
abbrev pub invariant-loop-i : goal.invariant-loop-i
invariant-loop-i l = record {
  so_far : l.numbers ≡ u32s_at l.place l.i l.bytes;
  count : length l.numbers ≡ l.i;
}
