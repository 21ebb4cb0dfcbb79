-- The number that a value of `IdNumbers` has for an id.
use Rattle.std.specs.Prelude.{ℕ, List, Option, None, Some, unwrap_or, ◌==◌, if◌then◌else◌}
use Rattle.std.specs.BTreeMap.{get, get_by}
use Rattle.std.specs.Cmp.Lexicographic.{slice_cmp}
use Rattle.std.specs.Ordering.{nat_cmp}
use Rattle.std.specs.Str.{bytes_eq}
use Rattle.id_numbers.specs.Mix.{mix_of}
use Rattle.id_numbers.specs.declared.numbers.IdNumbers.{IdNumbers}
use Rattle.id_numbers.specs.declared.numbers.MixedId.{MixedId}

-- the number of an id at the first id of its mix, 0 where that is another
abbrev pub number_here : List ℕ → Option MixedId → ℕ
number_here id None = 0
number_here id (Some first) = if bytes_eq first.id.items id then first.number else 0

-- the number of an id by that among other ids, or else by that at the first of its mix
abbrev pub either_number : ℕ → ℕ → ℕ
either_number other here = if other == 0 then here else other

-- the number that is kept for an id, 0 for none
unfoldable pub mapped_number : IdNumbers → List ℕ → ℕ
mapped_number ids id =
    either_number (unwrap_or (get_by (λ key. slice_cmp nat_cmp id key.items) ids.others) 0) (number_here id (get nat_cmp ids.firsts (mix_of id)))
