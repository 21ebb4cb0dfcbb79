-- Reading records one after the other: one more, the first that fails, and the end.
use Rattle.std.proofs.Common.{◌≡◌, ℕ, zero, suc, ◌-◌, ◌<◌, List, [], ◌∷◌, ◌++◌, length, drop, Option, Result, Ok, Err, refl, sym, ap, ◌∙◌, subst, arith, append_assoc}
use Rattle.std.proofs.lemmas.List.{append-nil}
use Rattle.jam_records.specs.declared.damage.Damage.{Damage}
use Rattle.damage_rules.specs.Rules.{◌>>=◌, Stops}
use Rattle.damage_rules.specs.Walk.{WalkStep, walk_from, walk}
use Rattle.damage_rules.proofs.KeptRules.{step_fails}

-- bytes that belong to the record before are passed over
pub passed : {S A : Type 0} (step : S → List ℕ → Result (WalkStep S A) Damage) (left : ℕ) (s : S) (bytes : List ℕ) → walk_from step left s bytes ≡ walk step s (drop left bytes)
unfolding walk_from
passed step zero s bytes = refl
passed step (suc left) s [] = refl
passed step (suc left) s (b ∷ bytes) = passed step left s bytes

-- the values behind a first one
abbrev pub behind_first : {S A : Type 0} → A → Result (List A × S) Damage → Result (List A × S) Damage
behind_first x read = read >>= λ found. Ok (x ∷ found.0, found.1)

pub drop_one : (n b : ℕ) (bytes : List ℕ) → 0 < n → drop (n - 1) bytes ≡ drop n (b ∷ bytes)
drop_one zero b bytes lt = absurd (omega arith)
drop_one (suc n) b bytes lt = ap (λ k. drop k bytes) (omega arith)

-- one record, and those behind it
pub walk_more : {S A : Type 0} (step : S → List ℕ → Result (WalkStep S A) Damage) (s : S) (bytes : List ℕ) (x : WalkStep S A) → 0 < length bytes → step s bytes ≡ Ok x → 0 < x.size
    → walk step s bytes ≡ behind_first x.value (walk step x.next (drop x.size bytes))
unfolding walk_from
walk_more step s [] x some is size = absurd (omega arith)
walk_more step s (b ∷ bytes) x some is size =
    ap (λ r. r >>= λ first. walk_from step (first.size - 1) first.next bytes >>= λ others. Ok (first.value ∷ others.0, others.1)) is
    ∙ ap (behind_first x.value) (passed step (x.size - 1) x.next bytes ∙ ap (walk step x.next) (drop_one x.size b bytes size))

pub walk_fails : {S A : Type 0} (step : S → List ℕ → Result (WalkStep S A) Damage) (s : S) (bytes : List ℕ) (e : Option Damage) → 0 < length bytes → Stops e (step s bytes) → Stops e (walk step s bytes)
unfolding walk_from
walk_fails step s [] e some h = absurd (omega arith)
walk_fails step s (b ∷ bytes) e some h = step_fails e (step s (b ∷ bytes)) (λ first. walk_from step (first.size - 1) first.next bytes >>= λ others. Ok (first.value ∷ others.0, others.1)) h

pub walk_done : {S A : Type 0} (step : S → List ℕ → Result (WalkStep S A) Damage) (s : S) (bytes : List ℕ) → length bytes ≡ 0 → walk step s bytes ≡ Ok ([], s)
unfolding walk_from
walk_done step s [] e = refl
walk_done step s (b ∷ bytes) e = absurd (omega arith)

-- ---- a loop: what was read before, and what is still read
abbrev pub walk_behind : {S A : Type 0} → List A → Result (List A × S) Damage → Result (List A × S) Damage
walk_behind front read = read >>= λ found. Ok (front ++ found.0, found.1)

regroup : {S A : Type 0} (front : List A) (x : A) (read : Result (List A × S) Damage) → walk_behind front (behind_first x read) ≡ walk_behind (front ++ x ∷ []) read
regroup front x (Ok found) = ap (λ ys. Ok (ys, found.1)) (sym (append_assoc front (x ∷ []) found.0))
regroup front x (Err f) = refl

pub goes_on : {S A : Type 0} (step : S → List ℕ → Result (WalkStep S A) Damage) (s : S) (bytes rest : List ℕ) (front new : List A) (x : WalkStep S A) (total : Result (List A × S) Damage)
    → 0 < length bytes → step s bytes ≡ Ok x → 0 < x.size → rest ≡ drop x.size bytes → new ≡ front ++ x.value ∷ []
    → walk_behind front (walk step s bytes) ≡ total → walk_behind new (walk step x.next rest) ≡ total
goes_on step s bytes rest front new x total some is size r n so_far =
    let a : walk_behind front (walk step s bytes) ≡ walk_behind (front ++ x.value ∷ []) (walk step x.next (drop x.size bytes)) = ap (walk_behind front) (walk_more step s bytes x some is size) ∙ regroup front x.value (walk step x.next (drop x.size bytes)) in
    rw (r, n) (sym a ∙ so_far)

pub ends : {S A : Type 0} (step : S → List ℕ → Result (WalkStep S A) Damage) (s : S) (bytes : List ℕ) (front : List A) (e : Option Damage) (total : Result (List A × S) Damage)
    → 0 < length bytes → Stops e (step s bytes) → walk_behind front (walk step s bytes) ≡ total → Stops e total
ends step s bytes front e total some h so_far = subst (Stops e) so_far (step_fails e (walk step s bytes) (λ found. Ok (front ++ found.0, found.1)) (walk_fails step s bytes e some h))

pub is_done : {S A : Type 0} (step : S → List ℕ → Result (WalkStep S A) Damage) (s : S) (bytes : List ℕ) (front : List A) (total : Result (List A × S) Damage)
    → length bytes ≡ 0 → walk_behind front (walk step s bytes) ≡ total → total ≡ Ok (front, s)
is_done step s bytes front total none so_far = sym so_far ∙ ap (walk_behind front) (walk_done step s bytes none) ∙ ap (λ xs. Ok (xs, s)) (append-nil front)
