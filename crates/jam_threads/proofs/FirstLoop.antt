-- Ids among older and newer ones.
use Rattle.std.proofs.Common.{◌≡◌, ℕ, ◌+◌, ◌<◌, ◌&&◌, Bool, cond, List, [], ◌∷◌, length, take, drop, get_or, refl, sym, ap, ◌∙◌, inl, inr}
use Rattle.std.specs.Prelude.{fold}
use Rattle.std.specs.Str.{bytes_eq}
use Rattle.std.proofs.lemmas.Bool.{cases_eq}
use Rattle.std.proofs.lemmas.List.{take-append-drop}
use Rattle.std.proofs.lemmas.List.Sums.{fold_more, fold-append}
use Rattle.jam_threads.specs.FirstNumbers.{number_or}
use Rattle.jam_threads.specs.declared.first_numbers.IdNumber.{IdNumber}
use Rattle.jam_threads.proofs.ChildrenLemmas.{other_number}

-- one id more was looked at
pub looked_more : (id : List ℕ) (start : ℕ) (newer : List IdNumber) (index : ℕ) (found next : ℕ) (one : IdNumber) → index < length newer → one ≡ get_or newer index one → found ≡ fold (number_or id) start (take index newer) → next ≡ number_or id found one
    → next ≡ fold (number_or id) start (take (index + 1) newer)
looked_more id start newer index found next one within item so_far is =
    is ∙ ((λ i. number_or id (so_far i) (item i)) ∙ sym (fold_more (number_or id) start newer index one within))

-- ---- the same ids once more
found_stays : (id : List ℕ) (found : ℕ) (newer : List IdNumber) → (found ≡ 0 → ⊥) → fold (number_or id) found newer ≡ found
found_stays id found [] some = refl
found_stays id found (one ∷ newer) some =
    ap (λ (n : ℕ). fold (number_or id) n newer) (ap (λ (none : Bool). cond (none && bytes_eq one.id id) one.number found) (other_number found 0 some)) ∙ found_stays id found newer some

none_before : (id : List ℕ) (start : ℕ) (newer : List IdNumber) → fold (number_or id) start newer ≡ 0 → start ≡ 0
none_before id start newer none = elim (cases_eq start 0) [ inl zero ↦ zero | inr some ↦ absurd (some (sym (found_stays id start newer some) ∙ none)) ]

-- ids of which some were added before
pub added_again : (id : List ℕ) (start : ℕ) (newer : List IdNumber) (index : ℕ) → fold (number_or id) (fold (number_or id) start (take index newer)) newer ≡ fold (number_or id) start newer
added_again id start newer index =
    let first : ℕ = fold (number_or id) start (take index newer) in
    elim (cases_eq first 0) [
      | inl none ↦ ap (λ (n : ℕ). fold (number_or id) n newer) (none ∙ sym (none_before id start (take index newer) none))
      | inr some ↦
          found_stays id first newer some
          ∙ sym (found_stays id first (drop index newer) some)
          ∙ sym (fold-append (number_or id) start (take index newer) (drop index newer))
          ∙ ap (fold (number_or id) start) (take-append-drop index newer)
    ]
