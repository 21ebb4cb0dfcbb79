-- Which elements lists have that are made of others, and what of a list whose elements rise is among the first.
use Rattle.std.proofs.Common.{◌≡◌, ◌⊎◌, inl, inr, ⊎_elim, ℕ, zero, suc, ◌+◌, ◌<◌, ◌≤◌, max, Bool, true, false, cond, List, [], ◌∷◌, ◌++◌, length, map, drop, take, refl, sym, ap, ◌∙◌, subst, arith}
use Rattle.std.specs.Prelude.{Contains}
use Rattle.std.specs.List.{filter, flat_map, fold, range_with_len}
use Rattle.std.proofs.lemmas.Bool.{cases_eq, cases_lt, false≢true}

-- ---- elements
-- x is an element
abbrev pub In : {X : Type 0} → X → List X → Type 0
In x [] = ⊥
In x (y ∷ ys) = (y ≡ x) ⊎ In x ys

pub contains_in : {X : Type 0} (x : X) (xs : List X) → Contains xs x → In x xs
contains_in x [] (k, within, is) = absurd (omega (arith, within))
contains_in x (y ∷ ys) (zero, within, is) = inl is
contains_in x (y ∷ ys) (suc k, within, is) = inr (contains_in x ys (k, omega (arith, within), is))

pub in_contains : {X : Type 0} (x : X) (xs : List X) → In x xs → Contains xs x
in_contains x [] is = absurd is
in_contains x (y ∷ ys) (inl is) = (0, omega arith, is)
in_contains x (y ∷ ys) (inr is) = let there = in_contains x ys is in (suc there.0, omega (arith, there.1), there.2)

pub in_left : {X : Type 0} (x : X) (xs ys : List X) → In x xs → In x (xs ++ ys)
in_left x [] ys is = absurd is
in_left x (z ∷ xs) ys (inl is) = inl is
in_left x (z ∷ xs) ys (inr is) = inr (in_left x xs ys is)

pub in_right : {X : Type 0} (x : X) (xs ys : List X) → In x ys → In x (xs ++ ys)
in_right x [] ys is = is
in_right x (z ∷ xs) ys is = inr (in_right x xs ys is)

pub in_either : {X : Type 0} (x : X) (xs ys : List X) → In x (xs ++ ys) → In x xs ⊎ In x ys
in_either x [] ys is = inr is
in_either x (z ∷ xs) ys (inl is) = inl (inl is)
in_either x (z ∷ xs) ys (inr is) = ⊎_elim (λ l. inl (inr l)) (λ r. inr r) (in_either x xs ys is)

pub in_map : {X Y : Type 0} (f : X → Y) (x : X) (xs : List X) → In x xs → In (f x) (map f xs)
in_map f x [] is = absurd is
in_map f x (y ∷ ys) (inl is) = inl (ap f is)
in_map f x (y ∷ ys) (inr is) = inr (in_map f x ys is)

pub from_map : {X Y : Type 0} (f : X → Y) (y : Y) (xs : List X) → In y (map f xs) → (x : X) × (f x ≡ y) × In x xs
from_map f y [] is = absurd is
from_map f y (x ∷ xs) (inl is) = (x, is, inl refl)
from_map f y (x ∷ xs) (inr is) = let there = from_map f y xs is in (there.0, there.1, inr there.2)

pub in_flat : {X Y : Type 0} (f : X → List Y) (x : X) (y : Y) (xs : List X) → In x xs → In y (f x) → In y (flat_map f xs)
in_flat f x y [] is has = absurd is
in_flat f x y (z ∷ xs) (inl is) has = in_left y (f z) (flat_map f xs) (subst (λ w. In y (f w)) (sym is) has)
in_flat f x y (z ∷ xs) (inr is) has = in_right y (f z) (flat_map f xs) (in_flat f x y xs is has)

pub from_flat : {X Y : Type 0} (f : X → List Y) (y : Y) (xs : List X) → In y (flat_map f xs) → (x : X) × In x xs × In y (f x)
from_flat f y [] is = absurd is
from_flat f y (z ∷ xs) is = elim (in_either y (f z) (flat_map f xs) is) [
  | inl here ↦ (z, inl refl, here)
  | inr there ↦ let found = from_flat f y xs there in (found.0, inr found.1, found.2)
]

pub in_range : (a n k : ℕ) → a ≤ k → k < a + n → In k (range_with_len a n)
in_range a zero k from within = absurd (omega (arith, from, within))
in_range a (suc n) k from within = elim (cases_eq a k) [
  | inl same ↦ inl same
  | inr other ↦ inr (in_range (a + 1) n k (omega (arith, from, other)) (omega (arith, within)))
]

pub from_range : (a n k : ℕ) → In k (range_with_len a n) → (a ≤ k) × (k < a + n)
from_range a zero k is = absurd is
from_range a (suc n) k (inl is) = (omega (arith, is), omega (arith, is))
from_range a (suc n) k (inr is) = let found = from_range (a + 1) n k is in (omega (arith, found.0), omega (arith, found.1))

-- ---- elements that pass a test
pub in_filter : {X : Type 0} (p : X → Bool) (x : X) (xs : List X) → In x xs → p x ≡ true → In x (filter p xs)
in_filter p x [] is passes = absurd is
in_filter p x (y ∷ ys) is passes = by (λ other. in_filter p x ys other passes) (p y) refl is
  where
    by : (In x ys → In x (filter p ys)) → (b : Bool) → p y ≡ b → (y ≡ x) ⊎ In x ys → In x (cond b (y ∷ filter p ys) (filter p ys))
    by rest true test (inl same) = inl same
    by rest true test (inr other) = inr (rest other)
    by rest false test (inl same) = absurd (false≢true (sym test ∙ (ap p same ∙ passes)))
    by rest false test (inr other) = rest other

pub from_filter : {X : Type 0} (p : X → Bool) (x : X) (xs : List X) → In x (filter p xs) → In x xs × (p x ≡ true)
from_filter p x [] is = absurd is
from_filter p x (y ∷ ys) is = by (λ other. from_filter p x ys other) (p y) refl is
  where
    by : (In x (filter p ys) → In x ys × (p x ≡ true)) → (b : Bool) → p y ≡ b → In x (cond b (y ∷ filter p ys) (filter p ys)) → In x (y ∷ ys) × (p x ≡ true)
    by rest true test (inl same) = (inl same, ap p (sym same) ∙ test)
    by rest true test (inr other) = let found = rest other in (inr found.0, found.1)
    by rest false test other = let found = rest other in (inr found.0, found.1)

pub filter_short : {X : Type 0} (p : X → Bool) (xs : List X) → length (filter p xs) ≤ length xs
filter_short p [] = omega arith
filter_short p (y ∷ ys) = by (filter_short p ys) (p y)
  where
    by : length (filter p ys) ≤ length ys → (b : Bool) → length (cond b (y ∷ filter p ys) (filter p ys)) ≤ length (y ∷ ys)
    by rest true = omega (arith, rest)
    by rest false = omega (arith, rest)

-- ---- the first elements, and the last
pub from_take : {X : Type 0} (n : ℕ) (x : X) (xs : List X) → In x (take n xs) → In x xs
from_take zero x xs is = absurd is
from_take (suc n) x [] is = absurd is
from_take (suc n) x (y ∷ ys) (inl is) = inl is
from_take (suc n) x (y ∷ ys) (inr is) = inr (from_take n x ys is)

pub from_drop : {X : Type 0} (n : ℕ) (x : X) (xs : List X) → In x (drop n xs) → In x xs
from_drop zero x xs is = is
from_drop (suc n) x [] is = is
from_drop (suc n) x (y ∷ ys) is = inr (from_drop n x ys is)

-- each element is below each one behind it
abbrev pub AreRising : {X : Type 0} → (X → X → Type 0) → List X → Type 0
AreRising Below [] = Unit {0}
AreRising Below (x ∷ xs) = ((y : _) → In y xs → Below x y) × AreRising Below xs

pub rising_filter : {X : Type 0} (Below : X → X → Type 0) (p : X → Bool) (xs : List X) → AreRising Below xs → AreRising Below (filter p xs)
rising_filter Below p [] rise = tt
rising_filter Below p (x ∷ xs) rise = by (rising_filter Below p xs rise.1) (p x)
  where
    by : AreRising Below (filter p xs) → (b : Bool) → AreRising Below (cond b (x ∷ filter p xs) (filter p xs))
    by rest true = (λ y is. rise.0 y (from_filter p y xs is).0, rest)
    by rest false = rest

-- an element that isn't above one of the first is one of the first too
pub among_first : {X : Type 0} (Below : X → X → Type 0) (n : ℕ) (x y : X) (xs : List X) → AreRising Below xs → In x xs → In y (take n xs) → (Below y x → ⊥) → In x (take n xs)
among_first Below zero x y xs rise is first not = absurd first
among_first Below (suc n) x y [] rise is first not = absurd is
among_first Below (suc n) x y (z ∷ xs) rise (inl is) first not = inl is
among_first Below (suc n) x y (z ∷ xs) rise (inr is) (inl same) not = absurd (not (subst (λ w. Below w x) same (rise.0 x is)))
among_first Below (suc n) x y (z ∷ xs) rise (inr is) (inr first) not = inr (among_first Below n x y xs rise.1 is first not)

pub rising_append : {X : Type 0} (Below : X → X → Type 0) (xs ys : List X) → AreRising Below xs → AreRising Below ys → ((x y : X) → In x xs → In y ys → Below x y) → AreRising Below (xs ++ ys)
rising_append Below [] ys front behind across = behind
rising_append Below (x ∷ xs) ys front behind across = (
  λ y is. ⊎_elim (λ l. front.0 y l) (λ r. across x y (inl refl) r) (in_either y xs ys is),
  rising_append Below xs ys front.1 behind (λ z y is has. across z y (inr is) has),
)

-- ---- the greatest of numbers
pub greatest_reached : (a : ℕ) (xs : List ℕ) → (fold max a xs ≡ a) ⊎ In (fold max a xs) xs
greatest_reached a [] = inl refl
greatest_reached a (x ∷ xs) = by (greatest_reached (max a x) xs) (cases_lt a x)
  where
    by : (fold max (max a x) xs ≡ max a x) ⊎ In (fold max (max a x) xs) xs → (a < x) ⊎ (x ≤ a) → (fold max (max a x) xs ≡ a) ⊎ ((x ≡ fold max (max a x) xs) ⊎ In (fold max (max a x) xs) xs)
    by (inr there) order = inr (inr there)
    by (inl is) (inl less) = let top : max a x ≡ x = omega (arith, less) in inr (inl (sym (is ∙ top)))
    by (inl is) (inr more) = let top : max a x ≡ a = omega (arith, more) in inl (is ∙ top)
