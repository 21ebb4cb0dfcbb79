-- A map whose keys are told apart by bytes.
use Rattle.std.proofs.Common.{◌≡◌, ℕ, List, [], ◌∷◌, Bool, true, false, cond, Option, Some, refl, sym, ap, ◌∙◌, subst, inl, inr}
use Rattle.std.specs.Prelude.{unwrap_or}
use Rattle.std.specs.List.{AllZip}
use Rattle.std.specs.Str.{bytes_eq}
use Rattle.std.specs.Ordering.{nat_cmp}
use Rattle.std.specs.Cmp.{eq_by_cmp_equiv}
use Rattle.std.specs.Cmp.Lexicographic.{slice_cmp, bytes_decides, nat_list_cmp_total, nat_list_eq_equiv}
use Rattle.std.specs.BTreeMap as tree
use Rattle.std.specs.BTreeMap.{BTreeMap}
use Rattle.std.specs.Map.{lookup, IsKeyTest, AreApart, KeepsOthers}
use Rattle.std.proofs.lemmas.Bool.{cases_Bool, cond-true, cond-false}
use Rattle.std.proofs.lemmas.Map.Text.{is_eq-slice_cmp}

apart : (bs cs ks : List ℕ) → bytes_eq bs cs ≡ false → bytes_eq bs ks ≡ true → bytes_eq cs ks ≡ false
apart bs cs ks differs same = nat_list_eq_equiv.symm cs ks ∙ sym (nat_list_eq_equiv.congr bs ks cs same) ∙ differs

other_entries : {K X : Type 0} (eq : K → K → Bool) (test : K → Bool) (old new : List (K × X)) → KeepsOthers eq test old new → (other : K → Bool) → IsKeyTest eq other → AreApart test other → lookup other new ≡ lookup other old
unfolding KeepsOthers
other_entries eq test old new kept = kept

-- a look-up by bytes, after a change at other bytes or the same
key_updates : {K X : Type 0} (bytes : K → List ℕ) (bs : List ℕ) (m n : BTreeMap K X) (w : Option X) → tree.UpdatesBy (λ x y. slice_cmp nat_cmp (bytes x) (bytes y)) (λ k. slice_cmp nat_cmp bs (bytes k)) m n w → (cs : List ℕ) → tree.get_by (λ k. slice_cmp nat_cmp cs (bytes k)) n ≡ cond (bytes_eq bs cs) w (tree.get_by (λ k. slice_cmp nat_cmp cs (bytes k)) m)
key_updates bytes bs m n w updates cs =
    elim (cases_Bool (bytes_eq bs cs)) [
      | inl same ↦ subst (λ key. tree.get_by (λ k. slice_cmp nat_cmp key (bytes k)) n ≡ w) ((bytes_decides bs cs).0 same) updates.1 ∙ sym (cond-true (bytes_eq bs cs) w _ same)
      | inr differs ↦
          other_entries _ _ _ _ updates.3 _ (λ x y. (eq_by_cmp_equiv nat_list_cmp_total).congr cs (bytes x) (bytes y)) (λ k at. is_eq-slice_cmp cs (bytes k) ∙ apart bs cs (bytes k) differs (sym (is_eq-slice_cmp bs (bytes k)) ∙ at))
          ∙ sym (cond-false (bytes_eq bs cs) w _ differs)
    ]

or_zero : (b : Bool) (n : ℕ) (found : Option ℕ) → unwrap_or (cond b (Some n) found) 0 ≡ cond b n (unwrap_or found 0)
or_zero true n found = refl
or_zero false n found = refl

-- the same of numbers, 0 where none is kept
pub number_updates : {K : Type 0} (bytes : K → List ℕ) (bs : List ℕ) (m n : BTreeMap K ℕ) (number : ℕ) → tree.UpdatesBy (λ x y. slice_cmp nat_cmp (bytes x) (bytes y)) (λ k. slice_cmp nat_cmp bs (bytes k)) m n (Some number) → (cs : List ℕ) → unwrap_or (tree.get_by (λ k. slice_cmp nat_cmp cs (bytes k)) n) 0 ≡ cond (bytes_eq bs cs) number (unwrap_or (tree.get_by (λ k. slice_cmp nat_cmp cs (bytes k)) m) 0)
number_updates bytes bs m n number updates cs =
    ap (λ found. unwrap_or found 0) (key_updates bytes bs m n (Some number) updates cs)
    ∙ or_zero (bytes_eq bs cs) number (tree.get_by (λ k. slice_cmp nat_cmp cs (bytes k)) m)

-- ---- a copy
pub same_items : (xs ys : List ℕ) → AllZip (λ x y. y ≡ x) xs ys → ys ≡ xs
same_items [] [] all = refl
same_items [] (y ∷ ys) all = absurd all
same_items (x ∷ xs) [] all = absurd all
same_items (x ∷ xs) (y ∷ ys) all = λ i. all.0 i ∷ same_items xs ys all.1 i

found_again : {K : Type 0} (test : K → Bool) (C : K → K → Type 0) (D : ℕ → ℕ → Type 0) → ((x y : K) → C x y → test y ≡ test x) → ((n m : ℕ) → D n m → m ≡ n) → (es fs : List (K × ℕ)) → AllZip (λ p q. C p.0 q.0 × D p.1 q.1) es fs → lookup test fs ≡ lookup test es
found_again test C D keys values [] [] all = refl
found_again test C D keys values [] (f ∷ fs) all = absurd all
found_again test C D keys values (e ∷ es) [] all = absurd all
found_again test C D keys values (e ∷ es) (f ∷ fs) all = λ i. cond (keys e.0 f.0 all.0.0 i) (Some (values e.1 f.1 all.0.1 i)) (found_again test C D keys values es fs all.1 i)

pub number_copied : {K : Type 0} {C : K → K → Type 0} {D : ℕ → ℕ → Type 0} (bytes : K → List ℕ) (m n : BTreeMap K ℕ) → tree.IsClone C D m n → ((x y : K) → C x y → bytes y ≡ bytes x) → ((n m : ℕ) → D n m → m ≡ n) → (id : List ℕ) → unwrap_or (tree.get_by (λ k. slice_cmp nat_cmp id (bytes k)) n) 0 ≡ unwrap_or (tree.get_by (λ k. slice_cmp nat_cmp id (bytes k)) m) 0
number_copied {C = C} {D = D} bytes m n all keys values id =
    ap (λ found. unwrap_or found 0) (found_again (tree.is_at (λ k. slice_cmp nat_cmp id (bytes k))) C D (λ x y same. ap (λ ks. tree.is_at (slice_cmp nat_cmp id) ks) (keys x y same)) values m.entries n.entries all)
