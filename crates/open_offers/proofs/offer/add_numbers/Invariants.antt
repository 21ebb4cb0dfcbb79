use Rattle.std.proofs.Common.{◌≡◌, ◌++◌, take}
use Rattle.record_numbers.specs.Numbers.{u32s_text}
use Rattle.open_offers.proofs.offer.add_numbers.Given as goal

-- the numbers so far were added
abbrev pub invariant-loop-number : goal.invariant-loop-number
invariant-loop-number l = l.out ≡ l.initial.out ++ u32s_text (take l.number-index l.numbers)
