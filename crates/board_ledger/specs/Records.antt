-- Records one after the other, as many as are counted.
use Rattle.std.specs.Prelude.{ℕ, zero, suc, List, [], ◌∷◌, ◌++◌, drop, Result, Ok}
use Rattle.jam_records.specs.declared.damage.Damage.{Damage}
use Rattle.damage_rules.specs.Rules.{◌>>=◌}

-- So many records behind those before, and the bytes behind the last. `read` gives, behind the records before,
-- the value of the record at the front and its length.
unfoldable pub records_at : {A : Type 0} → (List A → List ℕ → Result (A × ℕ) Damage) → ℕ → List A → List ℕ → Result (List A × List ℕ) Damage
records_at read zero before bytes = Ok (before, bytes)
records_at read (suc n) before bytes = do
  one ← read before bytes
  records_at read n (before ++ one.0 ∷ []) (drop one.1 bytes)

-- each item is right behind those before it
abbrev pub EachBehind : {A : Type 0} → (List A → A → Type 0) → List A → List A → Type 0
EachBehind right before [] = Unit {0}
EachBehind right before (x ∷ xs) = right before x × EachBehind right (before ++ x ∷ []) xs
