-- Records one after the other.
use Rattle.std.specs.Prelude.{ℕ, zero, suc, ◌-◌, List, [], ◌∷◌, Result, Ok}
use Rattle.damage_rules.specs.Rules.{◌>>=◌}
use Rattle.jam_records.specs.declared.damage.Damage.{Damage}

-- What a step reads at the front: a value, the size of its record, and the state behind it.
pub record WalkStep (S A : Type 0) : Type 0 where
  pub value : A
  pub size : ℕ
  pub next : S

-- The values of the records, and the state behind the last. `left` bytes still belong to the record before.
unfoldable pub walk_from : {S A : Type 0} → (S → List ℕ → Result (WalkStep S A) Damage) → ℕ → S → List ℕ → Result (List A × S) Damage
walk_from step left s [] = Ok ([], s)
walk_from step (suc left) s (b ∷ bytes) = walk_from step left s bytes
walk_from step zero s (b ∷ bytes) = do
  first ← step s (b ∷ bytes)
  others ← walk_from step (first.size - 1) first.next bytes
  Ok (first.value ∷ others.0, others.1)

abbrev pub walk : {S A : Type 0} → (S → List ℕ → Result (WalkStep S A) Damage) → S → List ℕ → Result (List A × S) Damage
walk step s bytes = walk_from step 0 s bytes
