-- Records that are walked are tested as their flat list says.
use Rattle.std.proofs.Common.{◌≡◌, ℕ, zero, suc, ◌-◌, List, [], ◌∷◌, ◌++◌, length, Result, Ok, refl, sym, ap, ◌∙◌, append_assoc}
use Rattle.std.specs.Prelude.{map}
use Rattle.std.proofs.lemmas.List.{append-nil}
use Rattle.jam_records.specs.declared.damage.Damage.{Damage}
use Rattle.damage_rules.specs.Rules.{◌>>=◌}
use Rattle.damage_rules.specs.Tests.{Tests, for_each, records_from}
use Rattle.damage_rules.specs.Walk.{WalkStep, walk_from}
use Rattle.damage_rules.proofs.TestLists.{by_tests, then_listed, value_listed}

-- the values of records, each by those before it
abbrev pub values : {A : Type 0} → (List (List ℕ) → List ℕ → A) → List (List ℕ) → List (List ℕ) → List A
values value before [] = []
values value before (x ∷ xs) = value before x ∷ values value (before ++ x ∷ []) xs

pub length-values : {A : Type 0} (value : List (List ℕ) → List ℕ → A) (before xs : List (List ℕ)) → length (values value before xs) ≡ length xs
length-values value before [] = refl
length-values value before (x ∷ xs) = ap suc (length-values value (before ++ x ∷ []) xs)

pub values-map : {A : Type 0} (value : List ℕ → A) (before xs : List (List ℕ)) → values (λ seen here. value here) before xs ≡ map value xs
values-map value before [] = refl
values-map value before (x ∷ xs) = ap (λ others. value x ∷ others) (values-map value (before ++ x ∷ []) xs)

abbrev pub walk_step : {S A : Type 0} → A → ℕ → S → WalkStep S A
walk_step value size next = record { value = value; size = size; next = next }

abbrev ended : {S A : Type 0} → S → Result (List A × S) Damage
ended s = Ok ([], s)

abbrev with_first : {S A : Type 0} → A → List A × S → List A × S
with_first x others = (x ∷ others.0, others.1)

pub walk_listed : {S A : Type 0} (step : S → List ℕ → Result (WalkStep S A) Damage) (state : List (List ℕ) → S) (value : List (List ℕ) → List ℕ → A) (size : List ℕ → ℕ) (tests : List (List ℕ) → List ℕ → Tests)
    → ((before : List (List ℕ)) (here : List ℕ) → step (state before) here ≡ by_tests (tests before here) (walk_step (value before here) (size here) (state (before ++ here ∷ []))))
    → (bytes : List ℕ) (left : ℕ) (before : List (List ℕ))
    → walk_from step left (state before) bytes ≡ by_tests (for_each tests before (records_from size left bytes)) (values value before (records_from size left bytes), state (before ++ records_from size left bytes))
unfolding walk_from
walk_listed {A = A} step state value size tests one [] zero before = ap (λ (xs : List (List ℕ)). ended {A = A} (state xs)) (sym (append-nil before))
walk_listed {A = A} step state value size tests one [] (suc left) before = ap (λ (xs : List (List ℕ)). ended {A = A} (state xs)) (sym (append-nil before))
walk_listed step state value size tests one (b ∷ bytes) (suc left) before = walk_listed step state value size tests one bytes left before
walk_listed {S = S} {A = A} step state value size tests one (b ∷ bytes) zero before =
    let here : List ℕ = b ∷ bytes in
    let seen : List (List ℕ) = before ++ here ∷ [] in
    let rest : List (List ℕ) = records_from size (size here - 1) bytes in
    let others : Tests = for_each tests seen rest in
    let first : WalkStep S A = walk_step (value before here) (size here) (state seen) in
    let next = λ (f : WalkStep S A). walk_from step (f.size - 1) f.next bytes >>= λ (found : List A × S). Ok (with_first f.value found) in
    let tail : next first ≡ by_tests others (value before here ∷ values value seen rest, state (before ++ here ∷ rest)) =
    ap (λ (r : Result (List A × S) Damage). r >>= λ (found : List A × S). Ok (with_first (value before here) found)) (walk_listed step state value size tests one bytes (size here - 1) seen)
    ∙ (value_listed others (values value seen rest, state (seen ++ rest)) (with_first (value before here))
    ∙ ap (λ (xs : List (List ℕ)). by_tests others (value before here ∷ values value seen rest, state xs)) (append_assoc before (here ∷ []) rest)) in
    ap (λ (r : Result (WalkStep S A) Damage). r >>= next) (one before here)
    ∙ then_listed (tests before here) others first next (value before here ∷ values value seen rest, state (before ++ here ∷ rest)) (λ held. tail)
