-- The keys that were met, once one is added.
use Rattle.std.proofs.Common.{◌≡◌, ℕ, Bool, true, false, cond, not, ◌||◌, List, refl, sym, ◌∙◌, subst, inl, inr}
use Rattle.std.specs.Str.{bytes_eq}
use Rattle.std.specs.Ordering.{nat_cmp}
use Rattle.std.specs.Cmp.{eq_by_cmp_equiv}
use Rattle.std.specs.Cmp.Lexicographic.{slice_cmp, bytes_decides, nat_list_cmp_total, nat_list_eq_equiv}
use Rattle.std.specs.BTreeSet as sorted
use Rattle.std.specs.BTreeSet.{BTreeSet}
use Rattle.std.specs.List.{list_any}
use Rattle.std.specs.Map.{IsKeyTest, AreApart}
use Rattle.std.specs.Set.{KeepsOthers}
use Rattle.std.proofs.lemmas.Bool.{cases_Bool, cond-true, cond-false}
use Rattle.std.proofs.lemmas.Map.Text.{is_eq-slice_cmp}

apart : (bs cs ks : List ℕ) → bytes_eq bs cs ≡ false → bytes_eq bs ks ≡ true → bytes_eq cs ks ≡ false
apart bs cs ks differs same = nat_list_eq_equiv.symm cs ks ∙ sym (nat_list_eq_equiv.congr bs ks cs same) ∙ differs

other_keys : {K : Type 0} (eq : K → K → Bool) (test : K → Bool) (old new : List K) → KeepsOthers eq test old new → (other : K → Bool) → IsKeyTest eq other → AreApart test other → list_any other new ≡ list_any other old
unfolding KeepsOthers
other_keys eq test old new kept = kept

or_by_cond : (b x : Bool) → cond b true x ≡ (b || x)
or_by_cond true x = refl
or_by_cond false x = refl

pub not_not : (b : Bool) → not (not b) ≡ b
not_not true = refl
not_not false = refl

-- whether bytes are met, after others were added or the same
pub key_updates : {K : Type 0} (bytes : K → List ℕ) (bs : List ℕ) (s n : BTreeSet K) → sorted.UpdatesBy (λ x y. slice_cmp nat_cmp (bytes x) (bytes y)) (λ k. slice_cmp nat_cmp bs (bytes k)) s n true → (cs : List ℕ)
    → sorted.contains_by (λ k. slice_cmp nat_cmp cs (bytes k)) n ≡ (bytes_eq bs cs || sorted.contains_by (λ k. slice_cmp nat_cmp cs (bytes k)) s)
key_updates bytes bs s n updates cs =
    elim (cases_Bool (bytes_eq bs cs)) [
      | inl same ↦ subst (λ key. sorted.contains_by (λ k. slice_cmp nat_cmp key (bytes k)) n ≡ true) ((bytes_decides bs cs).0 same) updates.1 ∙ sym (cond-true (bytes_eq bs cs) true _ same)
      | inr differs ↦
          other_keys _ _ _ _ updates.3 _ (λ x y. (eq_by_cmp_equiv nat_list_cmp_total).congr cs (bytes x) (bytes y)) (λ k at. is_eq-slice_cmp cs (bytes k) ∙ apart bs cs (bytes k) differs (sym (is_eq-slice_cmp bs (bytes k)) ∙ at))
          ∙ sym (cond-false (bytes_eq bs cs) true _ differs)
    ] ∙ or_by_cond (bytes_eq bs cs) (sorted.contains_by (λ k. slice_cmp nat_cmp cs (bytes k)) s)
