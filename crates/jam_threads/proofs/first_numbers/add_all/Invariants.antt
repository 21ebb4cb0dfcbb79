use Rattle.std.proofs.Common.{◌≡◌, ℕ, List, take}
use Rattle.std.specs.Prelude.{fold}
use Rattle.jam_threads.specs.FirstNumbers.{number_or}
use Rattle.id_numbers.specs.Numbers.{mapped_number}
use Rattle.jam_threads.proofs.first_numbers.add_all.Given as goal

-- the newer ids so far were added
abbrev pub invariant-loop-one : goal.invariant-loop-one
invariant-loop-one l = (id : List ℕ) → mapped_number l.numbers id ≡ fold (number_or id) (mapped_number l.fn.numbers id) (take l.one-index l.newer)
