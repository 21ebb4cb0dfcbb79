use Rattle.std.proofs.Common.{◌≡◌, ◌++◌, replicate}
use Rattle.record_numbers.specs.Numbers.{u32s_text}
use Rattle.open_offers.proofs.cells.add_zeros.Given as goal

-- the zeros so far were added
abbrev pub invariant-loop : goal.invariant-loop
invariant-loop l = l.out ≡ l.initial.out ++ u32s_text (replicate l.counter 0)
