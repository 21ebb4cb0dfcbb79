use Rattle.std.proofs.Common.{◌≡◌, ◌-◌, ◌++◌}
use Rattle.board_ledger.specs.Apart.{digest_numbers}
use Rattle.board_ledger.proofs.apart.numbers_of.Given as goal

-- the numbers so far, and those of the records that are left, are those of all
abbrev pub invariant-loop : goal.invariant-loop
invariant-loop l = l.numbers.items ++ digest_numbers (l.count - l.counter) l.rest ≡ digest_numbers l.count l.bytes
