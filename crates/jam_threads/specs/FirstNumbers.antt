-- What a value of `FirstNumbers` shows.
use Rattle.std.specs.Prelude.{ℕ, List, Option, None, Some, fold, ◌==◌, ◌&&◌, if◌then◌else◌}
use Rattle.std.specs.Str.{bytes_eq}
use Rattle.id_numbers.specs.Numbers.{mapped_number}
use Rattle.jam_threads.specs.declared.first_numbers.FirstNumbers.{FirstNumbers}
use Rattle.jam_threads.specs.declared.first_numbers.IdNumber.{IdNumber}
use Rattle.id_numbers.specs.declared.numbers.IdNumbers.{IdNumbers}

-- the number that is kept for an id among the older ones, 0 for none
abbrev pub older_number : Option IdNumbers → List ℕ → ℕ
older_number None id = 0
older_number (Some numbers) id = mapped_number numbers id

-- the number for an id that was found so far, or 0, once one id more was looked at
abbrev pub number_or : List ℕ → ℕ → IdNumber → ℕ
number_or id found one = if found == 0 && bytes_eq one.id id then one.number else found

-- the number that is kept for an id, 0 for none: among the older ones, or the first of the newer ones
unfoldable pub kept_number : FirstNumbers → List ℕ → ℕ
kept_number firsts id = fold (number_or id) (older_number firsts.older id) firsts.newer
