-- The pointer of a user among readers, reader by reader.
use Rattle.std.proofs.Common.{◌≡◌, ◌≢◌, ◌⊎◌, ℕ, suc, ◌+◌, ◌<◌, Bool, true, false, cond, not, eqb, ltb, List, [], ◌∷◌, ◌++◌, length, Option, Some, None, refl, sym, ap, ◌∙◌, subst, inl, inr, arith}
use Rattle.std.specs.Prelude.{All, option_and_then, option_map, position, slice_get}
use Rattle.std.specs.List.{position_or_len}
use Rattle.std.proofs.lemmas.Bool.{cases_lt, cond-false, cond-true, eqb-true, ne_eqb, le-ltb, lt-ltb}
use Rattle.std.proofs.lemmas.List.Elements.{All-head, All-tail}
use Rattle.std.proofs.lemmas.Option.{none-some}
use Rattle.jam_base.specs.Contents.{pointer_of, pointers_with, reader_place}
use Rattle.jam_layout.specs.declared.reader.Reader.{Reader}

-- ---- the first of a list that passes
position_more : {X : Type 0} (p : X → Bool) (x : X) (xs : List X) → position p (x ∷ xs) ≡ cond (p x) (Some 0) (option_map suc (position p xs))
position_more {X} p x xs = by (p x)
  where
    over : (n m : ℕ) → cond (ltb (suc n) (suc m)) (Some (suc n)) None ≡ option_map suc (cond (ltb n m) (Some n) None)
    over n m = elim (cases_lt n m) [
      | inl less ↦ cond-true (ltb (suc n) (suc m)) (Some (suc n)) None (lt-ltb (suc n) (suc m) (omega (arith, less))) ∙ ap (option_map suc) (sym (cond-true (ltb n m) (Some n) None (lt-ltb n m less)))
      | inr more ↦ cond-false (ltb (suc n) (suc m)) (Some (suc n)) None (le-ltb (suc n) (suc m) (omega (arith, more))) ∙ ap (option_map suc) (sym (cond-false (ltb n m) (Some n) None (le-ltb n m more)))
    ]

    one_more : (n : ℕ) → 1 + n ≡ suc n
    one_more n = omega arith

    by : (b : Bool) → cond (ltb (cond (not b) (1 + position_or_len p xs) 0) (suc (length xs))) (Some (cond (not b) (1 + position_or_len p xs) 0)) None ≡ cond b (Some 0) (option_map suc (position p xs))
    by true = cond-true (ltb 0 (suc (length xs))) (Some 0) None (lt-ltb 0 (suc (length xs)) (omega arith))
    by false = ap (λ (k : ℕ). cond (ltb k (suc (length xs))) (Some k) None) (one_more (position_or_len p xs)) ∙ over (position_or_len p xs) (length xs)

-- ---- the pointer of a user
-- the pointer that stands beside the first reader of an id
abbrev pub found : ℕ → List Reader → List ℕ → Option ℕ
found user [] pointers = None
found user (r ∷ readers) [] = None
found user (r ∷ readers) (p ∷ pointers) = cond (eqb r.id user) (Some p) (found user readers pointers)

pub pointer_found : (user : ℕ) (readers : List Reader) (pointers : List ℕ) → pointer_of user readers pointers ≡ found user readers pointers
pointer_found user [] pointers = refl
pointer_found user (r ∷ readers) [] = ap (option_and_then (slice_get [])) (position_more (λ (q : Reader). eqb q.id user) r readers) ∙ nothing (cond (eqb r.id user) (Some 0) (option_map suc (reader_place user readers)))
  where
    nothing : (o : Option ℕ) → option_and_then (slice_get {X = ℕ} []) o ≡ None
    nothing None = refl
    nothing (Some k) = refl
pointer_found user (r ∷ readers) (p ∷ pointers) = ap (option_and_then (slice_get (p ∷ pointers))) (position_more (λ (q : Reader). eqb q.id user) r readers) ∙ by (eqb r.id user) (pointer_found user readers pointers)
  where
    behind : (o : Option ℕ) → option_and_then (slice_get (p ∷ pointers)) (option_map suc o) ≡ option_and_then (slice_get pointers) o
    behind None = refl
    behind (Some k) = refl

    by : (b : Bool) → pointer_of user readers pointers ≡ found user readers pointers
        → option_and_then (slice_get (p ∷ pointers)) (cond b (Some 0) (option_map suc (reader_place user readers))) ≡ cond b (Some p) (found user readers pointers)
    by true rest = refl
    by false rest = behind (reader_place user readers) ∙ rest

-- ---- a reader more
-- the pointer is what it was, or there was none and it is 0; then P holds
abbrev pub PointerFollows : Type 0 → Option ℕ → Option ℕ → Type 0
PointerFollows P old new = (new ≡ old) ⊎ ((old ≡ None) × (new ≡ Some 0) × P)

found_more : (user : ℕ) (readers : List Reader) (pointers : List ℕ) (r : Reader) → length pointers ≡ length readers → PointerFollows (r.id ≡ user) (found user readers pointers) (found user (readers ++ r ∷ []) (pointers ++ 0 ∷ []))
found_more user [] [] r even = by (eqb r.id user) refl
  where
    by : (b : Bool) → eqb r.id user ≡ b → PointerFollows (r.id ≡ user) None (cond b (Some 0) None)
    by true is = inr (refl, refl, eqb-true r.id user is)
    by false is = inl refl
found_more user [] (p ∷ pointers) r even = absurd (omega (arith, even))
found_more user (q ∷ readers) [] r even = absurd (omega (arith, even))
found_more user (q ∷ readers) (p ∷ pointers) r even = by (eqb q.id user) (found_more user readers pointers r (omega (arith, even)))
  where
    by : (b : Bool) → PointerFollows (r.id ≡ user) (found user readers pointers) (found user (readers ++ r ∷ []) (pointers ++ 0 ∷ []))
        → PointerFollows (r.id ≡ user) (cond b (Some p) (found user readers pointers)) (cond b (Some p) (found user (readers ++ r ∷ []) (pointers ++ 0 ∷ [])))
    by true rest = inl refl
    by false rest = rest

pub pointer_more : (user : ℕ) (readers : List Reader) (pointers : List ℕ) (r : Reader) → length pointers ≡ length readers
    → PointerFollows (r.id ≡ user) (pointer_of user readers pointers) (pointer_of user (readers ++ r ∷ []) (pointers ++ 0 ∷ []))
pointer_more user readers pointers r even =
    subst (λ (o : Option ℕ). PointerFollows (r.id ≡ user) o (pointer_of user (readers ++ r ∷ []) (pointers ++ 0 ∷ []))) (sym (pointer_found user readers pointers))
    (subst (PointerFollows (r.id ≡ user) (found user readers pointers)) (sym (pointer_found user (readers ++ r ∷ []) (pointers ++ 0 ∷ []))) (found_more user readers pointers r even))

-- ---- the ids of readers
found_below : (user most : ℕ) (readers : List Reader) (pointers : List ℕ) (p : ℕ) → All (λ r. r.id < most) readers → found user readers pointers ≡ Some p → user < most
found_below user most [] pointers p below is = absurd (none-some p is)
found_below user most (r ∷ readers) [] p below is = absurd (none-some p is)
found_below user most (r ∷ readers) (q ∷ pointers) p below is = by (found_below user most readers pointers p (All-tail (λ (r : Reader). r.id < most) r readers below)) (eqb r.id user) refl is
  where
    by : (found user readers pointers ≡ Some p → user < most) → (b : Bool) → eqb r.id user ≡ b → cond b (Some q) (found user readers pointers) ≡ Some p → user < most
    by rest true test is = omega (arith, eqb-true r.id user test, All-head (λ (r : Reader). r.id < most) r readers below)
    by rest false test is = rest is

-- a user who has a pointer has an id below what is above the ids of all readers
pub pointer_below : (user most : ℕ) (readers : List Reader) (pointers : List ℕ) (p : ℕ) → All (λ r. r.id < most) readers → pointer_of user readers pointers ≡ Some p → user < most
pointer_below user most readers pointers p below is = found_below user most readers pointers p below (sym (pointer_found user readers pointers) ∙ is)

pub no_pointer : (user : ℕ) (pointers : List ℕ) → pointer_of user [] pointers ≡ None
no_pointer user pointers = pointer_found user [] pointers

-- ---- a pointer moved
abbrev moved : ℕ → List Reader → ℕ → List ℕ → List ℕ
moved user [] number pointers = pointers
moved user (r ∷ readers) number [] = []
moved user (r ∷ readers) number (p ∷ pointers) = cond (eqb r.id user) (number ∷ pointers) (p ∷ moved user readers number pointers)

pointers_moved : (user : ℕ) (readers : List Reader) (number : ℕ) (pointers : List ℕ) → pointers_with (reader_place user readers) number pointers ≡ moved user readers number pointers
pointers_moved user [] number pointers = refl
pointers_moved user (r ∷ readers) number [] = nothing (reader_place user (r ∷ readers))
  where
    nothing : (o : Option ℕ) → pointers_with o number [] ≡ []
    nothing None = refl
    nothing (Some k) = refl
pointers_moved user (r ∷ readers) number (p ∷ pointers) = ap (λ (o : Option ℕ). pointers_with o number (p ∷ pointers)) (position_more (λ (q : Reader). eqb q.id user) r readers) ∙ by (eqb r.id user) (pointers_moved user readers number pointers)
  where
    behind : (o : Option ℕ) → pointers_with (option_map suc o) number (p ∷ pointers) ≡ p ∷ pointers_with o number pointers
    behind None = refl
    behind (Some k) = refl

    by : (b : Bool) → pointers_with (reader_place user readers) number pointers ≡ moved user readers number pointers
        → pointers_with (cond b (Some 0) (option_map suc (reader_place user readers))) number (p ∷ pointers) ≡ cond b (number ∷ pointers) (p ∷ moved user readers number pointers)
    by true rest = refl
    by false rest = behind (reader_place user readers) ∙ ap (λ (ps : List ℕ). p ∷ ps) rest

found_other : (user other : ℕ) (readers : List Reader) (number : ℕ) (pointers : List ℕ) → user ≢ other → found user readers (moved other readers number pointers) ≡ found user readers pointers
found_other user other [] number pointers apart = refl
found_other user other (r ∷ readers) number [] apart = refl
found_other user other (r ∷ readers) number (p ∷ pointers) apart = by (eqb r.id other) refl (found_other user other readers number pointers apart)
  where
    by : (b : Bool) → eqb r.id other ≡ b → found user readers (moved other readers number pointers) ≡ found user readers pointers
        → found user (r ∷ readers) (cond b (number ∷ pointers) (p ∷ moved other readers number pointers)) ≡ cond (eqb r.id user) (Some p) (found user readers pointers)
    by true is rest =
        let no : eqb r.id user ≡ false = ne_eqb r.id user (λ same. apart (sym same ∙ eqb-true r.id other is)) in
        cond-false (eqb r.id user) (Some number) (found user readers pointers) no ∙ sym (cond-false (eqb r.id user) (Some p) (found user readers pointers) no)
    by false is rest = ap (cond (eqb r.id user) (Some p)) rest

pub pointer_other : (user other : ℕ) (readers : List Reader) (number : ℕ) (pointers : List ℕ) → user ≢ other → pointer_of user readers (pointers_with (reader_place other readers) number pointers) ≡ pointer_of user readers pointers
pointer_other user other readers number pointers apart =
    ap (pointer_of user readers) (pointers_moved other readers number pointers)
    ∙ (pointer_found user readers (moved other readers number pointers) ∙ (found_other user other readers number pointers apart ∙ sym (pointer_found user readers pointers)))

found_own : (user : ℕ) (readers : List Reader) (number : ℕ) (pointers : List ℕ) → found user readers (moved user readers number pointers) ≡ option_map (λ _. number) (found user readers pointers)
found_own user [] number pointers = refl
found_own user (r ∷ readers) number [] = refl
found_own user (r ∷ readers) number (p ∷ pointers) = by (eqb r.id user) refl (found_own user readers number pointers)
  where
    by : (b : Bool) → eqb r.id user ≡ b → found user readers (moved user readers number pointers) ≡ option_map (λ _. number) (found user readers pointers)
        → found user (r ∷ readers) (cond b (number ∷ pointers) (p ∷ moved user readers number pointers)) ≡ option_map (λ _. number) (cond b (Some p) (found user readers pointers))
    by true is rest = cond-true (eqb r.id user) (Some number) (found user readers pointers) is
    by false is rest = cond-false (eqb r.id user) (Some p) (found user readers (moved user readers number pointers)) is ∙ rest

-- the moved pointer of the user, where he has one
pub pointer_own : (user : ℕ) (readers : List Reader) (number : ℕ) (pointers : List ℕ) → pointer_of user readers (pointers_with (reader_place user readers) number pointers) ≡ option_map (λ _. number) (pointer_of user readers pointers)
pointer_own user readers number pointers =
    ap (pointer_of user readers) (pointers_moved user readers number pointers)
    ∙ (pointer_found user readers (moved user readers number pointers) ∙ (found_own user readers number pointers ∙ ap (option_map (λ _. number)) (sym (pointer_found user readers pointers))))
