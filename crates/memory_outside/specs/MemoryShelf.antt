-- What a shelf in memory shows.
use Rattle.std.specs.Prelude.{ℕ, refl}
use Rattle.std.specs.Coded.{Coded, code_by, coded×, coded_ℕ, coded_list}
use Rattle.std.specs.FinMap as map
use Rattle.memory_outside.specs.Plan.{PlanCounts, counts_code}
use Rattle.door_outside.specs.Shelf.{ShelfFiles}

pub record Shelved : Type 0 where
  pub files : ShelfFiles
  -- how many calls failed
  pub faults : ℕ
  pub counts : PlanCounts

-- it is stored as the pair of its parts
abbrev pub shelved_code : Coded Shelved
shelved_code =
    code_by (ShelfFiles × (ℕ × PlanCounts)) (coded× (map.code (coded_list coded_ℕ) (coded_list coded_ℕ)) (coded× coded_ℕ counts_code))
    (λ s. (s.files, (s.faults, s.counts))) (λ p. record { files = p.0; faults = p.1.0; counts = p.1.1 }) (λ _. refl)
