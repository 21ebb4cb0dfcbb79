use Rattle.std.proofs.Common.{◌≡◌, take}
use Rattle.std.specs.Prelude.{fold}
use Rattle.jam_threads.specs.FirstNumbers.{number_or}
use Rattle.jam_threads.proofs.first_numbers.newer_number.Given as goal

abbrev pub invariant-loop-one : goal.invariant-loop-one
invariant-loop-one l = l.number ≡ fold (number_or l.id) l.found (take l.one-index l.newer)
