-- A file that is written on a shelf.
use Rattle.std.proofs.Common.{◌≡◌, ◌⊎◌, ℕ, Bool, true, false, cond, List, [], ◌∷◌, ◌++◌, refl, sym, ◌∙◌, ap, subst, inl, inr, arith, Option, Some}
use Rattle.std.specs.Prelude.{unwrap_or, Result, Ok, Err, MatchResult}
use Rattle.std.specs.Cmp.Lexicographic.{slice_cmp, nat_list_cmp_total}
use Rattle.std.specs.Cmp.{eq_by_cmp_equiv}
use Rattle.std.specs.FinMap as map
use Rattle.std.specs.FinMap.{get-insert, same_map, nat_cmp-IsAntisymmetric, slice_cmp-IsAntisymmetric}
use Rattle.std.specs.List.{Contains}
use Rattle.std.specs.Ordering.{nat_cmp, eq_by_cmp, is_eq}
use Rattle.std.specs.declared.cmp.Ordering.{Ordering}
use Rattle.std.specs.declared.cmp.Ordering.TheVariants.{Less, Equal, Greater}
use Rattle.door_outside.specs.Shelf.{ShelfFiles, held, Appends, SameBut}
use Rattle.door_outside.specs.declared.fault.ShelfFault.{ShelfFault}

-- the file of this name
same_name : (name : List ℕ) → eq_by_cmp (slice_cmp nat_cmp) name name ≡ true
same_name name = (eq_by_cmp_equiv nat_list_cmp_total).refl name

is_equal : (order : Ordering) → is_eq order ≡ true → order ≡ Equal
is_equal Less is = absurd (cc is)
is_equal Equal is = refl
is_equal Greater is = absurd (cc is)

not_true : (b : Bool) → (b ≡ true → ⊥) → b ≡ false
not_true true never = absurd (never refl)
not_true false never = refl

-- only one name is this one
other_name : (name other : List ℕ) → (Contains (name ∷ []) other → ⊥) → eq_by_cmp (slice_cmp nat_cmp) other name ≡ false
other_name name other apart =
    not_true (eq_by_cmp (slice_cmp nat_cmp) other name)
    (λ tie. apart (0, omega arith, sym (slice_cmp-IsAntisymmetric nat_cmp-IsAntisymmetric other name (is_equal (slice_cmp nat_cmp other name) tie))))

pub held_written : (shelf : ShelfFiles) (name bytes : List ℕ) → held (map.insert shelf name bytes) name ≡ Some bytes
held_written shelf name bytes = get-insert nat_list_cmp_total shelf name bytes name ∙ ap (λ (b : Bool). cond b (Some bytes) (held shelf name)) (same_name name)

-- other files stay
pub other_stays : (shelf : ShelfFiles) (name bytes : List ℕ) → SameBut (name ∷ []) shelf (map.insert shelf name bytes)
other_stays shelf name bytes other apart =
    get-insert nat_list_cmp_total shelf name bytes other ∙ ap (λ (b : Bool). cond b (Some bytes) (held shelf other)) (other_name name other apart)

-- what is written last stays
pub written_twice : (shelf : ShelfFiles) (name first second : List ℕ) → map.insert (map.insert shelf name first) name second ≡ map.insert shelf name second
written_twice shelf name first second = same_map nat_list_cmp_total (slice_cmp-IsAntisymmetric nat_cmp-IsAntisymmetric) _ _ (λ q.
    get-insert nat_list_cmp_total (map.insert shelf name first) name second q
    ∙ ap (cond (eq_by_cmp (slice_cmp nat_cmp) q name) (Some second)) (get-insert nat_list_cmp_total shelf name first q)
    ∙ twice (eq_by_cmp (slice_cmp nat_cmp) q name) (held shelf q)
    ∙ sym (get-insert nat_list_cmp_total shelf name second q))
  where
    twice : (b : Bool) (o : Option (List ℕ)) → cond b (Some second) (cond b (Some first) o) ≡ cond b (Some second) o
    twice true o = refl
    twice false o = refl

-- steps that leave other files
pub same_on : (names : List (List ℕ)) (old mid new : ShelfFiles) → SameBut names old mid → SameBut names mid new → SameBut names old new
same_on names old mid new first second name other = second name other ∙ first name other

pub same_at : (names : List (List ℕ)) (old new : ShelfFiles) → new ≡ old → SameBut names old new
same_at names old new is name other = ap (λ (files : ShelfFiles). held files name) is

-- a file that was begun and added to is written
pub begun_and_added : (old begun new : ShelfFiles) (name bytes : List ℕ) → begun ≡ map.insert old name [] → new ≡ map.insert begun name (unwrap_or (held begun name) [] ++ bytes) → new ≡ map.insert old name bytes
begun_and_added old begun new name bytes begins adds =
    let none : unwrap_or (held begun name) [] ≡ [] = ap (λ (o : Option (List ℕ)). unwrap_or o []) (ap (λ (files : ShelfFiles). held files name) begins ∙ held_written old name []) in
    adds ∙ (λ i. map.insert (begins i) name (none i ++ bytes)) ∙ written_twice old name [] bytes

-- a file that was begun, or left as it was
pub begun_or_not : (old new : ShelfFiles) (name : List ℕ) → (new ≡ old) ⊎ (new ≡ map.insert old name []) → SameBut (name ∷ []) old new
begun_or_not old new name (inl same) = same_at (name ∷ []) old new same
begun_or_not old new name (inr begins) = subst (SameBut (name ∷ []) old) (sym begins) (other_stays old name [])

-- a file that was begun, and then added to or not
pub begun_then : (old begun new : ShelfFiles) (name bytes : List ℕ) (result : Result (Unit {0}) ShelfFault) → begun ≡ map.insert old name [] → Appends name bytes begun new result
    → MatchResult result (λ _. new ≡ map.insert old name bytes) (λ _. SameBut (name ∷ []) old new)
begun_then old begun new name bytes (Ok x) begins adds = begun_and_added old begun new name bytes begins adds
begun_then old begun new name bytes (Err fault) begins (inl same) = begun_or_not old new name (inr (same ∙ begins))
begun_then old begun new name bytes (Err fault) begins (inr some) =
    same_on (name ∷ []) old begun new (begun_or_not old begun name (inr begins)) (subst (SameBut (name ∷ []) begun) (sym some.1) (other_stays begun name _))
