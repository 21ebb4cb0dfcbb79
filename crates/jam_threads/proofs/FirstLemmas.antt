-- The first message of each id, once a message is added.
use Rattle.std.proofs.Common.{◌≡◌, ℕ, suc, ◌+◌, ◌<◌, ◌≤◌, ◌==◌, ◌&&◌, not, List, [], ◌∷◌, ◌++◌, length, Bool, true, false, cond, refl, sym, ap, ◌∙◌, arith, inl, inr, nat_lt}
use Rattle.std.specs.List.{position_or_len}
use Rattle.std.proofs.lemmas.Bool.{cases_Bool, cases_lt, cond-true, cond-false, eq-eqb}
use Rattle.std.proofs.lemmas.Bool.Decides.{nat_tests}
use Rattle.std.proofs.lemmas.List.{length-take}
use Rattle.std.proofs.lemmas.List.Folds.{position_or_len_push, length-prefix_len}
use Rattle.jam_records.specs.declared.message.Slot.{Slot}
use Rattle.jam_threads.specs.Children.{has_msgid, number_at, first_of_id, original_behind}
use Rattle.jam_threads.specs.Chains.{AreFirsts}
use Rattle.jam_threads.proofs.ChildrenLemmas.{other_number, length-push}

and_false : (b : Bool) → (b && false) ≡ false
and_false true = refl
and_false false = refl

-- ---- the first message of an id
first_found : (slots : List Slot) (id : List ℕ) → position_or_len (has_msgid id) slots < length slots → first_of_id slots id ≡ position_or_len (has_msgid id) slots + 1
first_found slots id within = ap number_at (cond-true (nat_lt (position_or_len (has_msgid id) slots) (length slots)) _ _ (grind (arith, nat_tests)))

first_missing : (slots : List Slot) (id : List ℕ) → length slots ≤ position_or_len (has_msgid id) slots → first_of_id slots id ≡ 0
first_missing slots id past = ap number_at (cond-false (nat_lt (position_or_len (has_msgid id) slots) (length slots)) _ _ (grind (arith, nat_tests)))

first_push : (slots : List Slot) (s : Slot) (id : List ℕ) → first_of_id (slots ++ s ∷ []) id ≡ cond (first_of_id slots id == 0 && has_msgid id s) (suc (length slots)) (first_of_id slots id)
first_push slots s id =
    let p = has_msgid id in
    let place = position_or_len p slots in
    let len = length slots in
    let within : place ≤ len = omega (arith, length-prefix_len (λ x. not (p x)) slots, length-take place slots) in
    let more = position_or_len_push p slots s in
    let longer = length-push slots s in
    elim (cases_lt place len) [
      | inl before ↦
          let stays : position_or_len p (slots ++ s ∷ []) ≡ place = more ∙ cond-false (place == len) _ _ (other_number place len (λ same. omega arith)) in
          let found = first_found slots id before in
          first_found (slots ++ s ∷ []) id (omega arith) ∙ ap (λ n. n + 1) stays ∙ sym found
          ∙ sym (ap (λ test. cond (test && p s) (suc len) (first_of_id slots id)) (other_number (first_of_id slots id) 0 (λ same. omega arith)))
      | inr behind ↦
          let at_end : place ≡ len = omega arith in
          let none = first_missing slots id (omega arith) in
          let moves : position_or_len p (slots ++ s ∷ []) ≡ len + cond (p s) 0 1 = more ∙ cond-true (place == len) _ _ (eq-eqb place len at_end) in
          elim (cases_Bool (p s)) [
            | inl has ↦
                let here : position_or_len p (slots ++ s ∷ []) ≡ len = moves ∙ ap (λ test. len + cond test 0 1) has ∙ omega arith in
                first_found (slots ++ s ∷ []) id (omega arith) ∙ ap (λ n. n + 1) here ∙ omega arith
                ∙ sym (ap (λ test. cond (test && p s) (suc len) (first_of_id slots id)) (eq-eqb (first_of_id slots id) 0 none) ∙ cond-true (p s) _ _ has)
            | inr lacks ↦
                let past : position_or_len p (slots ++ s ∷ []) ≡ len + 1 = moves ∙ ap (λ test. len + cond test 0 1) lacks in
                first_missing (slots ++ s ∷ []) id (omega arith) ∙ sym none
                ∙ sym (ap (λ test. cond (first_of_id slots id == 0 && test) (suc len) (first_of_id slots id)) lacks ∙ ap (λ test. cond test (suc len) (first_of_id slots id)) (and_false (first_of_id slots id == 0)))
          ]
    ]

-- the first messages, with one message more
pub firsts_more : (slots : List Slot) (s : Slot) (old new : List ℕ → ℕ) (number : ℕ) → AreFirsts slots old → number ≡ suc (length slots) → ((id : List ℕ) → new id ≡ cond (old id == 0 && has_msgid id s) number (old id)) → AreFirsts (slots ++ s ∷ []) new
firsts_more slots s old new number firsts is updates id =
    updates id
    ∙ ap (λ n. cond (n == 0 && has_msgid id s) number n) (firsts id)
    ∙ ap (λ n. cond (first_of_id slots id == 0 && has_msgid id s) n (first_of_id slots id)) is
    ∙ sym (first_push slots s id)

-- what answers an id
pub original_kept : (slots : List Slot) (firsts : List ℕ → ℕ) (replyid : List ℕ) → AreFirsts slots firsts → cond (length replyid == 0) 0 (firsts replyid) ≡ original_behind slots replyid
original_kept slots firsts [] are = refl
original_kept slots firsts (b ∷ id) are = cond-false (suc (length id) == 0) 0 (firsts (b ∷ id)) (other_number (suc (length id)) 0 (λ same. omega arith)) ∙ are (b ∷ id)
