-- Originals, children and links of a list of slots with one slot more.
use Rattle.std.proofs.Common.{◌≡◌, ℕ, zero, suc, ◌<◌, ◌≤◌, ◌==◌, nat_lt, List, [], ◌∷◌, ◌++◌, length, length-append, append_assoc, append-nil, take, Bool, true, false, cond, Option, Some, None, refl, sym, ap, ◌∙◌, arith, subst, ◌⊎◌, inl, inr}
use Rattle.std.specs.List.{slice_get, filter, position_or_len}
use Rattle.std.proofs.lemmas.Bool.{cond-true, cond-false, cases_Bool, cases_eq, ltb-true, eqb-true, eq-eqb}
use Rattle.std.proofs.lemmas.Bool.Decides.{nat_tests}
use Rattle.std.proofs.lemmas.List.{take-append-le, take_at, length-take}
use Rattle.std.proofs.lemmas.List.Elements.{filter-append}
use Rattle.jam_records.specs.declared.message.Slot.{Slot}
use Rattle.jam_records.specs.declared.message.Slot.TheVariants.{Gone, Held}
use Rattle.jam_threads.specs.Children.{has_msgid, first_of_id, original_behind, slot_original, original, numbers_to, children}
use Rattle.jam_threads.specs.Links.{first_in, following, next_answer, link_of}
use Rattle.jam_threads.specs.Chains.{last_in, hung}
use Rattle.jam_threads.specs.declared.link.Link.{Link}

-- ---- lists and tests
pub other_number : (a b : ℕ) → (a ≡ b → ⊥) → (a == b) ≡ false
other_number a b apart = grind (arith, nat_tests)

pub slice_get_front : {A : Type 0} (xs ys : List A) (i : ℕ) → i < length xs → slice_get (xs ++ ys) i ≡ slice_get xs i
slice_get_front [] ys i within = absurd (omega arith)
slice_get_front (x ∷ xs) ys zero within = refl
slice_get_front (x ∷ xs) ys (suc i) within = slice_get_front xs ys i (omega arith)

slice_get_last : {A : Type 0} (xs : List A) (y : A) → slice_get (xs ++ y ∷ []) (length xs) ≡ Some y
slice_get_last [] y = refl
slice_get_last (x ∷ xs) y = slice_get_last xs y

pub length-push : {A : Type 0} (xs : List A) (y : A) → length (xs ++ y ∷ []) ≡ suc (length xs)
length-push xs y = omega (arith, length-append xs (y ∷ []))

-- ---- originals
first_of_id-le : (slots : List Slot) (id : List ℕ) → first_of_id slots id ≤ length slots
first_of_id-le slots id =
    elim (cases_Bool (nat_lt (position_or_len (has_msgid id) slots) (length slots))) [
      | inl within ↦ rw within (omega (arith, ltb-true _ _ within))
      | inr past ↦ rw past (omega arith)
    ]

-- a message that answers an id that isn't empty
pub original_behind_some : (slots : List Slot) (id : List ℕ) → (length id == 0) ≡ false → original_behind slots id ≡ first_of_id slots id
original_behind_some slots [] some = cc
original_behind_some slots (b ∷ id) some = refl

pub original_behind-le : (slots : List Slot) (id : List ℕ) → original_behind slots id ≤ length slots
original_behind-le slots [] = omega arith
original_behind-le slots (b ∷ id) = first_of_id-le slots (b ∷ id)

pub slot_original-le : (slots : List Slot) (s : Option Slot) → slot_original slots s ≤ length slots
slot_original-le slots None = omega arith
slot_original-le slots (Some Gone) = omega arith
slot_original-le slots (Some (Held message)) = original_behind-le slots message.replyid

original-le : (slots : List Slot) (place : ℕ) → original slots (suc place) ≤ place
unfolding original
original-le slots place = omega (arith, slot_original-le (take place slots) (slice_get slots place), length-take place slots)

original_same : (slots : List Slot) (s : Slot) (k : ℕ) → k ≤ length slots → original (slots ++ s ∷ []) k ≡ original slots k
unfolding original
original_same slots s zero within = refl
original_same slots s (suc place) within =
    ap (λ before. slot_original before (slice_get (slots ++ s ∷ []) place)) (take-append-le place slots (s ∷ []) (omega arith))
    ∙ ap (slot_original (take place slots)) (slice_get_front slots (s ∷ []) place (omega arith))

original_new : (slots : List Slot) (s : Slot) → original (slots ++ s ∷ []) (suc (length slots)) ≡ slot_original slots (Some s)
unfolding original
original_new slots s =
    ap (λ before. slot_original before (slice_get (slots ++ s ∷ []) (length slots))) (take_at slots (s ∷ []) (length slots) refl)
    ∙ ap (slot_original slots) (slice_get_last slots s)

-- ---- filters of the numbers from 1
filter_suc : (p : ℕ → Bool) (n : ℕ) → filter p (numbers_to (suc n)) ≡ filter p (numbers_to n) ++ cond (p (suc n)) (suc n ∷ []) []
unfolding numbers_to
filter_suc p n = filter-append p (numbers_to n) (suc n ∷ [])

filter_same : (p q : ℕ → Bool) (n : ℕ) → ((k : ℕ) → k < n → p (suc k) ≡ q (suc k)) → filter p (numbers_to n) ≡ filter q (numbers_to n)
unfolding numbers_to
filter_same p q zero same = refl
filter_same p q (suc n) same =
    filter_suc p n
    ∙ ap (λ front. front ++ cond (p (suc n)) (suc n ∷ []) []) (filter_same p q n (λ k within. same k (omega arith)))
    ∙ ap (λ test. filter q (numbers_to n) ++ cond test (suc n ∷ []) []) (same n (omega arith))
    ∙ sym (filter_suc q n)

filter_none : (p : ℕ → Bool) (n : ℕ) → ((k : ℕ) → k < n → p (suc k) ≡ false) → filter p (numbers_to n) ≡ []
unfolding numbers_to
filter_none p zero none = refl
filter_none p (suc n) none =
    filter_suc p n
    ∙ ap (λ front. front ++ cond (p (suc n)) (suc n ∷ []) []) (filter_none p n (λ k within. none k (omega arith)))
    ∙ ap (λ test. cond test (suc n ∷ []) []) (none n (omega arith))

-- each number is below the bound
Under : ℕ → List ℕ → Type 0
Under bound [] = Unit {0}
Under bound (n ∷ ns) = (n < bound) × Under bound ns

under_more : (bound : ℕ) (ns : List ℕ) → Under bound ns → Under (suc bound) ns
unfolding Under
under_more bound [] all = tt
under_more bound (n ∷ ns) all = (omega (arith, all.0), under_more bound ns all.1)

under_push : (bound : ℕ) (ns : List ℕ) (n : ℕ) → Under bound ns → n < bound → Under bound (ns ++ n ∷ [])
unfolding Under
under_push bound [] n all within = (within, tt)
under_push bound (m ∷ ns) n all within = (all.0, under_push bound ns n all.1 within)

under_filter : (p : ℕ → Bool) (n : ℕ) → Under (suc n) (filter p (numbers_to n))
unfolding Under numbers_to
under_filter p zero = tt
under_filter p (suc n) =
    let front = under_more (suc n) (filter p (numbers_to n)) (under_filter p n) in
    elim (cases_Bool (p (suc n))) [
      | inl passes ↦ subst (Under (suc (suc n))) (sym (filter_suc p n ∙ ap (λ test. filter p (numbers_to n) ++ cond test (suc n ∷ []) []) passes)) (under_push _ _ (suc n) front (omega arith))
      | inr fails ↦ subst (Under (suc (suc n))) (sym (filter_suc p n ∙ ap (λ test. filter p (numbers_to n) ++ cond test (suc n ∷ []) []) fails ∙ append-nil _)) front
    ]

following_at : (ns : List ℕ) (k : ℕ) (rest : List ℕ) → Under k ns → following k (ns ++ (k ∷ rest)) ≡ first_in rest
unfolding Under
following_at [] k rest all = cond-true (k == k) _ _ (eq-eqb k k refl)
following_at (n ∷ ns) k rest all =
    cond-false (n == k) _ _ (other_number n k (λ same. omega (arith, all.0))) ∙ following_at ns k rest all.1

following_one : (n k : ℕ) → following k (n ∷ []) ≡ 0
following_one n k = elim (cases_Bool (n == k)) [ inl passes ↦ rw passes refl | inr fails ↦ rw fails refl ]

following_kept : (ns : List ℕ) (k n : ℕ) → (k ≡ last_in ns → ⊥) → following k (ns ++ n ∷ []) ≡ following k ns
following_kept [] k n apart = following_one n k
following_kept (m ∷ []) k n apart =
    let no = other_number m k (λ same. apart (sym same)) in
    cond-false (m == k) _ _ no ∙ following_one n k ∙ sym (cond-false (m == k) _ _ no)
following_kept (m ∷ l ∷ ns) k n apart = ap (λ rest. cond (m == k) l rest) (following_kept (l ∷ ns) k n apart)

last_in-push : (ns : List ℕ) (n : ℕ) → last_in (ns ++ n ∷ []) ≡ n
last_in-push [] n = refl
last_in-push (m ∷ []) n = refl
last_in-push (m ∷ l ∷ ns) n = last_in-push (l ∷ ns) n

-- the last of the numbers that pass
record IsLast (p : ℕ → Bool) (n : ℕ) (passing : List ℕ) (last : ℕ) : Type 0 where
  some : 0 < last
  within : last ≤ n
  passes : p last ≡ true
  behind : (x : ℕ) → following last (passing ++ x ∷ []) ≡ x

last_is_new : (p : ℕ → Bool) (n : ℕ) → p (suc n) ≡ true → IsLast p (suc n) (filter p (numbers_to (suc n))) (last_in (filter p (numbers_to (suc n))))
last_is_new p n passes =
    let more : filter p (numbers_to (suc n)) ≡ filter p (numbers_to n) ++ suc n ∷ [] = filter_suc p n ∙ ap (λ test. filter p (numbers_to n) ++ cond test (suc n ∷ []) []) passes in
    let last : last_in (filter p (numbers_to (suc n))) ≡ suc n = ap last_in more ∙ last_in-push (filter p (numbers_to n)) (suc n) in
    record {
      some = omega arith;
      within = omega arith;
      passes = ap p last ∙ passes;
      behind = λ x.
          ap (λ k. following k (filter p (numbers_to (suc n)) ++ x ∷ [])) last
          ∙ ap (λ ns. following (suc n) (ns ++ x ∷ [])) more
          ∙ ap (following (suc n)) (append_assoc (filter p (numbers_to n)) (suc n ∷ []) (x ∷ []))
          ∙ following_at (filter p (numbers_to n)) (suc n) (x ∷ []) (under_filter p n);
    }

abbrev NoneOrLast : (ℕ → Bool) → ℕ → List ℕ → Type 0
NoneOrLast p n passing = ((passing ≡ []) × (last_in passing ≡ 0)) ⊎ IsLast p n passing (last_in passing)

kept_last : (p : ℕ → Bool) (n : ℕ) → filter p (numbers_to (suc n)) ≡ filter p (numbers_to n) → NoneOrLast p n (filter p (numbers_to n)) → NoneOrLast p (suc n) (filter p (numbers_to (suc n)))
kept_last p n same (inl none) = inl (same ∙ none.0, ap last_in same ∙ none.1)
kept_last p n same (inr last) =
    inr (subst (λ ns. IsLast p (suc n) ns (last_in ns)) (sym same) (record { some = last.some; within = omega (arith, last.within); passes = last.passes; behind = last.behind }))

last_passing : (p : ℕ → Bool) (n : ℕ) → NoneOrLast p n (filter p (numbers_to n))
unfolding numbers_to
last_passing p zero = inl (refl, refl)
last_passing p (suc n) =
    elim (cases_Bool (p (suc n))) [
      | inl passes ↦ inr (last_is_new p n passes)
      | inr fails ↦ kept_last p n (filter_suc p n ∙ ap (λ test. filter p (numbers_to n) ++ cond test (suc n ∷ []) []) fails ∙ append-nil _) (last_passing p n)
    ]

-- ---- children
pub children_more : (slots : List Slot) (s : Slot) (m : ℕ) → children (slots ++ s ∷ []) m ≡ children slots m ++ cond (slot_original slots (Some s) == m) (suc (length slots) ∷ []) []
unfolding children
children_more slots s m =
    let after = slots ++ s ∷ [] in
    ap (λ n. filter (λ k. original after k == m) (numbers_to n)) (length-push slots s)
    ∙ filter_suc (λ k. original after k == m) (length slots)
    ∙ ap (λ front. front ++ cond (original after (suc (length slots)) == m) (suc (length slots) ∷ []) [])
    (filter_same (λ k. original after k == m) (λ k. original slots k == m) (length slots) (λ k within. ap (λ o. o == m) (original_same slots s (suc k) (omega arith))))
    ∙ ap (λ o. filter (λ k. original slots k == m) (numbers_to (length slots)) ++ cond (o == m) (suc (length slots) ∷ []) []) (original_new slots s)

children_kept : (slots : List Slot) (s : Slot) (m : ℕ) → (slot_original slots (Some s) ≡ m → ⊥) → children (slots ++ s ∷ []) m ≡ children slots m
children_kept slots s m apart =
    children_more slots s m ∙ ap (λ test. children slots m ++ cond test (suc (length slots) ∷ []) []) (other_number _ m apart) ∙ append-nil _

children_new : (slots : List Slot) (s : Slot) → children (slots ++ s ∷ []) (slot_original slots (Some s)) ≡ children slots (slot_original slots (Some s)) ++ suc (length slots) ∷ []
children_new slots s =
    let o = slot_original slots (Some s) in
    children_more slots s o ∙ ap (λ test. children slots o ++ cond test (suc (length slots) ∷ []) []) (eq-eqb o o refl)

children_none : (slots : List Slot) (m : ℕ) → length slots < m → children slots m ≡ []
unfolding children
children_none slots m past =
    filter_none (λ k. original slots k == m) (length slots) (λ k within. other_number _ m (λ same. omega (arith, original-le slots k)))

last_child : (slots : List Slot) (m : ℕ) → NoneOrLast (λ k. original slots k == m) (length slots) (children slots m)
unfolding children
last_child slots m = last_passing (λ k. original slots k == m) (length slots)

under_children : (slots : List Slot) (m : ℕ) → Under (suc (length slots)) (children slots m)
unfolding children
under_children slots m = under_filter (λ k. original slots k == m) (length slots)

-- ---- links
cond_same : (test : Bool) → cond {A = ℕ} test 0 0 ≡ 0
cond_same true = refl
cond_same false = refl

guarded : (o x y : ℕ) → ((o ≡ 0 → ⊥) → x ≡ y) → cond (o == 0) 0 x ≡ cond (o == 0) 0 y
guarded o x y same =
    elim (cases_eq o 0) [
      | inl is_zero ↦ cond-true (o == 0) 0 x (eq-eqb o 0 is_zero) ∙ sym (cond-true (o == 0) 0 y (eq-eqb o 0 is_zero))
      | inr some ↦ ap (cond (o == 0) 0) (same some)
    ]

-- the next answer stays, but for the last child of the new message's original
next_same : (slots : List Slot) (s : Slot) (m : ℕ) → m ≤ length slots → ((slot_original slots (Some s) ≡ 0 → ⊥) → m ≡ last_in (children slots (slot_original slots (Some s))) → ⊥) → next_answer (slots ++ s ∷ []) m ≡ next_answer slots m
next_same slots s m within apart =
    let after = slots ++ s ∷ [] in
    let so = slot_original slots (Some s) in
    let o = original slots m in
    ap (λ k. cond (k == 0) 0 (following m (children after k))) (original_same slots s m within)
    ∙ guarded o (following m (children after o)) (following m (children slots o)) (λ some.
    elim (cases_eq so o) [
      | inl same ↦
          ap (λ k. following m (children after k)) (sym same)
          ∙ ap (following m) (children_new slots s)
          ∙ following_kept (children slots so) m (suc (length slots)) (apart (λ is_zero. some (sym same ∙ is_zero)))
          ∙ ap (λ k. following m (children slots k)) same
      | inr other ↦ ap (following m) (children_kept slots s o other)
    ])

-- the last child of its original gets the new message as the next answer
next_new : (slots : List Slot) (s : Slot) → (slot_original slots (Some s) ≡ 0 → ⊥) → IsLast (λ k. original slots k == slot_original slots (Some s)) (length slots) (children slots (slot_original slots (Some s))) (last_in (children slots (slot_original slots (Some s)))) → next_answer (slots ++ s ∷ []) (last_in (children slots (slot_original slots (Some s)))) ≡ suc (length slots)
next_new slots s some last =
    let after = slots ++ s ∷ [] in
    let so = slot_original slots (Some s) in
    let q = last_in (children slots so) in
    let is : original after q ≡ so = original_same slots s q last.within ∙ eqb-true (original slots q) so last.passes in
    ap (λ k. cond (k == 0) 0 (following q (children after k))) is
    ∙ cond-false (so == 0) 0 (following q (children after so)) (other_number so 0 some)
    ∙ ap (following q) (children_new slots s)
    ∙ last.behind (suc (length slots))

first_kept : (ns : List ℕ) (n : ℕ) → (ns ≡ [] → ⊥) → first_in (ns ++ n ∷ []) ≡ first_in ns
first_kept [] n some = absurd (some refl)
first_kept (m ∷ ns) n some = refl

-- the first answer stays, but for an original that had none
first_same : (slots : List Slot) (s : Slot) (m : ℕ) → (slot_original slots (Some s) ≡ m → children slots m ≡ [] → ⊥) → first_in (children (slots ++ s ∷ []) m) ≡ first_in (children slots m)
first_same slots s m some =
    elim (cases_eq (slot_original slots (Some s)) m) [
      | inl same ↦
          ap (λ k. first_in (children (slots ++ s ∷ []) k)) (sym same)
          ∙ ap first_in (children_new slots s)
          ∙ ap (λ k. first_in (children slots k ++ suc (length slots) ∷ [])) same
          ∙ first_kept (children slots m) (suc (length slots)) (some same)
      | inr other ↦ ap first_in (children_kept slots s m other)
    ]

first_new : (slots : List Slot) (s : Slot) (m : ℕ) → slot_original slots (Some s) ≡ m → children slots m ≡ [] → first_in (children (slots ++ s ∷ []) m) ≡ suc (length slots)
first_new slots s m same none =
    ap (λ k. first_in (children (slots ++ s ∷ []) k)) (sym same)
    ∙ ap first_in (children_new slots s)
    ∙ ap (λ k. first_in (children slots k ++ suc (length slots) ∷ [])) same
    ∙ ap (λ ns. first_in (ns ++ suc (length slots) ∷ [])) none

-- a message that answers none changes no link
pub link_same : (slots : List Slot) (s : Slot) (k : ℕ) → k < length slots → slot_original slots (Some s) ≡ 0 → link_of (slots ++ s ∷ []) (suc k) ≡ link_of slots (suc k)
unfolding link_of
link_same slots s k within is_zero =
    let to = original_same slots s (suc k) (omega arith) in
    let first = first_same slots s (suc k) (λ same none. omega (arith, same, is_zero)) in
    let next = next_same slots s (suc k) (omega arith) (λ some same. some is_zero) in
    λ i. record { to = to i; first = first i; next = next i }

hung_first : (o n p k : ℕ) (l : Link) → p ≡ 0 → suc k ≡ o → hung o n p k l ≡ record { to = l.to; first = n; next = l.next }
hung_first o n p k l is_zero same = cond-true (p == 0) _ _ (eq-eqb p 0 is_zero) ∙ cond-true (suc k == o) _ _ (eq-eqb (suc k) o same)

hung_first_other : (o n p k : ℕ) (l : Link) → p ≡ 0 → (suc k ≡ o → ⊥) → hung o n p k l ≡ l
hung_first_other o n p k l is_zero other = cond-true (p == 0) _ _ (eq-eqb p 0 is_zero) ∙ cond-false (suc k == o) _ _ (other_number (suc k) o other)

hung_next : (o n p k : ℕ) (l : Link) → (p ≡ 0 → ⊥) → suc k ≡ p → hung o n p k l ≡ record { to = l.to; first = l.first; next = n }
hung_next o n p k l some same = cond-false (p == 0) _ _ (other_number p 0 some) ∙ cond-true (suc k == p) _ _ (eq-eqb (suc k) p same)

hung_next_other : (o n p k : ℕ) (l : Link) → (p ≡ 0 → ⊥) → (suc k ≡ p → ⊥) → hung o n p k l ≡ l
hung_next_other o n p k l some other = cond-false (p == 0) _ _ (other_number p 0 some) ∙ cond-false (suc k == p) _ _ (other_number (suc k) p other)

-- a message that answers one changes one link
pub link_hung : (slots : List Slot) (s : Slot) (k : ℕ) → k < length slots → (slot_original slots (Some s) ≡ 0 → ⊥) → link_of (slots ++ s ∷ []) (suc k) ≡ hung (slot_original slots (Some s)) (suc (length slots)) (last_in (children slots (slot_original slots (Some s)))) k (link_of slots (suc k))
unfolding link_of
link_hung slots s k within some =
    let o = slot_original slots (Some s) in
    let n = suc (length slots) in
    let p = last_in (children slots o) in
    let to = original_same slots s (suc k) (omega arith) in
    elim (last_child slots o) [
      | inl none ↦
          let next = next_same slots s (suc k) (omega arith) (λ _ same. omega (arith, same, none.1)) in
          elim (cases_eq (suc k) o) [
            | inl same ↦
                let first = first_new slots s (suc k) (sym same) (ap (children slots) same ∙ none.0) in
                let is : link_of (slots ++ s ∷ []) (suc k) ≡ record { to = original slots (suc k); first = n; next = next_answer slots (suc k) } = λ i. record { to = to i; first = first i; next = next i } in
                is ∙ sym (hung_first o n p k (link_of slots (suc k)) none.1 same)
            | inr other ↦
                let first = first_same slots s (suc k) (λ same _. other (sym same)) in
                let is : link_of (slots ++ s ∷ []) (suc k) ≡ link_of slots (suc k) = λ i. record { to = to i; first = first i; next = next i } in
                is ∙ sym (hung_first_other o n p k (link_of slots (suc k)) none.1 other)
          ]
      | inr last ↦
          let first = first_same slots s (suc k) (λ same none. omega (arith, last.some, ap last_in (ap (children slots) same ∙ none))) in
          let one : p ≡ 0 → ⊥ = λ is_zero. omega (arith, last.some) in
          elim (cases_eq (suc k) p) [
            | inl same ↦
                let next = ap (next_answer (slots ++ s ∷ [])) same ∙ next_new slots s some last in
                let is : link_of (slots ++ s ∷ []) (suc k) ≡ record { to = original slots (suc k); first = first_in (children slots (suc k)); next = n } = λ i. record { to = to i; first = first i; next = next i } in
                is ∙ sym (hung_next o n p k (link_of slots (suc k)) one same)
            | inr other ↦
                let next = next_same slots s (suc k) (omega arith) (λ _ same. other same) in
                let is : link_of (slots ++ s ∷ []) (suc k) ≡ link_of slots (suc k) = λ i. record { to = to i; first = first i; next = next i } in
                is ∙ sym (hung_next_other o n p k (link_of slots (suc k)) one other)
          ]
    ]

-- the links of the new message
pub link_new : (slots : List Slot) (s : Slot) → link_of (slots ++ s ∷ []) (suc (length slots)) ≡ record { to = slot_original slots (Some s); first = 0; next = 0 }
unfolding link_of
link_new slots s =
    let after = slots ++ s ∷ [] in
    let so = slot_original slots (Some s) in
    let n = suc (length slots) in
    let to = original_new slots s in
    let first = ap first_in (children_kept slots s n (λ same. omega (arith, slot_original-le slots (Some s))) ∙ children_none slots n (omega arith)) in
    let next : next_answer after n ≡ 0 =
    ap (λ k. cond (k == 0) 0 (following n (children after k))) to
    ∙ guarded so (following n (children after so)) 0 (λ some. ap (following n) (children_new slots s) ∙ following_at (children slots so) n [] (under_children slots so))
    ∙ cond_same (so == 0) in
    λ i. record { to = to i; first = first i; next = next i }

-- the last children
pub last_new : (slots : List Slot) (s : Slot) (m : ℕ) → slot_original slots (Some s) ≡ m → last_in (children (slots ++ s ∷ []) m) ≡ suc (length slots)
last_new slots s m same =
    ap (λ k. last_in (children (slots ++ s ∷ []) k)) (sym same) ∙ ap last_in (children_new slots s) ∙ last_in-push (children slots (slot_original slots (Some s))) (suc (length slots))

pub last_same : (slots : List Slot) (s : Slot) (m : ℕ) → (slot_original slots (Some s) ≡ m → ⊥) → last_in (children (slots ++ s ∷ []) m) ≡ last_in (children slots m)
last_same slots s m other = ap last_in (children_kept slots s m other)

pub last_none : (slots : List Slot) (m : ℕ) → length slots < m → last_in (children slots m) ≡ 0
last_none slots m past = ap last_in (children_none slots m past)

pub last-le : (slots : List Slot) (m : ℕ) → last_in (children slots m) ≤ length slots
last-le slots m = elim (last_child slots m) [ inl none ↦ omega (arith, none.1) | inr last ↦ last.within ]

pub hung_apart : (o n p k : ℕ) (l : Link) → (suc k ≡ o → ⊥) → (suc k ≡ p → ⊥) → hung o n p k l ≡ l
hung_apart o n p k l not_original not_last =
    elim (cases_eq p 0) [ inl none ↦ hung_first_other o n p k l none not_original | inr some ↦ hung_next_other o n p k l some not_last ]

-- the last child is a message with that original
pub last_found : (slots : List Slot) (m : ℕ) → (last_in (children slots m) ≡ 0) ⊎ ((0 < last_in (children slots m)) × (original slots (last_in (children slots m)) ≡ m))
last_found slots m = elim (last_child slots m) [ inl none ↦ inl (none.1) | inr last ↦ inr (last.some, eqb-true (original slots (last_in (children slots m))) m last.passes) ]
