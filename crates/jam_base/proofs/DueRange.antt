-- Messages that are due have numbers between two bounds, so that the slots before and behind these don't matter.
use Rattle.std.proofs.Common.{◌≡◌, inl, inr, ℕ, zero, suc, ◌+◌, ◌<◌, ◌≤◌, min, List, [], ◌∷◌, ◌++◌, length, take, drop, Bool, false, nat_lt, nat_le, refl, sym, ap, ◌∙◌, arith, append-nil, length-take}
use Rattle.std.specs.Prelude.{◌&&◌, ◌||◌, not, sum_by}
use Rattle.std.specs.Str.{str_eq_ignore_ascii_case}
use Rattle.std.proofs.lemmas.Bool.{cases_lt, cond-false, and_right}
use Rattle.std.proofs.lemmas.Bool.Decides.{nat_tests}
use Rattle.std.proofs.lemmas.List.{drop_all, take-append-drop}
use Rattle.std.proofs.lemmas.List.Sums.{sum_by-append, sum_by-cons}
use Rattle.intent_journal.specs.declared.patch.Patch.{Patch}
use Rattle.jam_records.specs.declared.message.Kind.{Kind}
use Rattle.jam_records.specs.declared.message.Message.{Message}
use Rattle.jam_records.specs.declared.message.Slot.{Slot}
use Rattle.jam_records.specs.declared.message.Slot.TheVariants.{Gone, Held}
use Rattle.jam_writing.specs.jam_layout.Sizes.{slot_header}
use Rattle.jam_base.specs.MarkPuts.{receive_put, receive_puts}
use Rattle.jam_base.specs.Slots.{is_due, has_due, any_due, slot_received, slots_received}
use Rattle.jam_base.specs.declared.receipt.Receipt.{Receipt}
use Rattle.jam_base.proofs.MarkLoop.{MarksSoFar, marks_end}
use Rattle.jam_base.proofs.ReceivedLoop.{ReceivedSoFar, received_append, received_end}

-- a number outside of the bounds
is_not_due : (name : List ℕ) (r : Receipt) (n : ℕ) (m : Message) → (nat_lt r.above n && nat_le n r.upto) ≡ false → is_due name r n m ≡ false
is_not_due name r n m out = and_right (str_eq_ignore_ascii_case m.to name) _ (and_right (not m.deleted && not m.seen) _ out)

out_before : (r : Receipt) (n : ℕ) → n ≤ r.above → (nat_lt r.above n && nat_le n r.upto) ≡ false
out_before r n most = let no : nat_lt r.above n ≡ false = grind (arith, nat_tests) in ap (λ (b : Bool). b && nat_le n r.upto) no

out_behind : (r : Receipt) (n : ℕ) → r.upto < n → (nat_lt r.above n && nat_le n r.upto) ≡ false
out_behind r n past = let no : nat_le n r.upto ≡ false = grind (arith, nat_tests) in and_right (nat_lt r.above n) (nat_le n r.upto) no

not_due : (name : List ℕ) (r : Receipt) (n : ℕ) (s : Slot) → (nat_lt r.above n && nat_le n r.upto) ≡ false → has_due name r n s ≡ false
not_due name r n Gone out = refl
not_due name r n (Held m) out = is_not_due name r n m out

-- ---- whether one is due
pub due_behind : (name : List ℕ) (r : Receipt) (n : ℕ) (slots : List Slot) → r.upto < n → any_due name r n slots ≡ false
due_behind name r n [] past = refl
due_behind name r n (s ∷ slots) past = (λ i. not_due name r n s (out_behind r n past) i || any_due name r (n + 1) slots) ∙ due_behind name r (n + 1) slots (omega (arith, past))

pub due_from : (name : List ℕ) (r : Receipt) (n k : ℕ) (slots : List Slot) → n + k ≤ r.above + 1 → any_due name r (n + k) (drop k slots) ≡ any_due name r n slots
due_from name r n zero slots most = let e : n + 0 ≡ n = omega arith in ap (λ (i : ℕ). any_due name r i slots) e
due_from name r n (suc k) [] most = refl
due_from name r n (suc k) (s ∷ slots) most =
    let e : n + suc k ≡ (n + 1) + k = omega arith in
    ap (λ (i : ℕ). any_due name r i (drop k slots)) e
    ∙ (due_from name r (n + 1) k slots (omega (arith, most)) ∙ sym (λ i. not_due name r n s (out_before r n (omega (arith, most))) i || any_due name r (n + 1) slots))

-- ---- the slots with those received
not_received : (name : List ℕ) (r : Receipt) (n : ℕ) (s : Slot) → (nat_lt r.above n && nat_le n r.upto) ≡ false → slot_received name r n s ≡ s
not_received name r n Gone out = refl
not_received name r n (Held m) out = ap (λ (k : Message). Held k) (cond-false (is_due name r n m) _ m (is_not_due name r n m out))

received_before : (name : List ℕ) (r : Receipt) (n : ℕ) (slots : List Slot) → n + length slots ≤ r.above + 1 → slots_received name r n slots ≡ slots
received_before name r n [] most = refl
received_before name r n (s ∷ slots) most =
    λ i. not_received name r n s (out_before r n (omega (arith, most))) i ∷ received_before name r (n + 1) slots (omega (arith, most)) i

received_behind : (name : List ℕ) (r : Receipt) (n : ℕ) (slots : List Slot) → r.upto < n → slots_received name r n slots ≡ slots
received_behind name r n [] past = refl
received_behind name r n (s ∷ slots) past = λ i. not_received name r n s (out_behind r n past) i ∷ received_behind name r (n + 1) slots (omega (arith, past)) i

-- ---- their patches
no_put : (kind : Kind) (place : ℕ) (name : List ℕ) (r : Receipt) (at n : ℕ) (s : Slot) → (nat_lt r.above n && nat_le n r.upto) ≡ false → receive_put kind place name r at n s ≡ []
no_put kind place name r at n Gone out = refl
no_put kind place name r at n (Held m) out = cond-false (is_due name r n m) _ [] (is_not_due name r n m out)

puts_from : (kind : Kind) (place : ℕ) (name : List ℕ) (r : Receipt) (at n k : ℕ) (slots : List Slot) → n + k ≤ r.above + 1
    → receive_puts kind place name r (at + sum_by slot_header (take k slots)) (n + k) (drop k slots) ≡ receive_puts kind place name r at n slots
puts_from kind place name r at n zero slots most =
    let e : at + 0 ≡ at = omega arith in
    let f : n + 0 ≡ n = omega arith in
    λ i. receive_puts kind place name r (e i) (f i) slots
puts_from kind place name r at n (suc k) [] most = refl
puts_from kind place name r at n (suc k) (s ∷ slots) most =
    let e : at + sum_by slot_header (s ∷ take k slots) ≡ (at + slot_header s) + sum_by slot_header (take k slots) = omega (arith, sum_by-cons slot_header s (take k slots)) in
    let f : n + suc k ≡ (n + 1) + k = omega arith in
    (λ i. receive_puts kind place name r (e i) (f i) (drop k slots))
    ∙ (puts_from kind place name r (at + slot_header s) (n + 1) k slots (omega (arith, most))
    ∙ sym (λ i. no_put kind place name r at n s (out_before r n (omega (arith, most))) i ++ receive_puts kind place name r (at + slot_header s) (n + 1) slots))

puts_behind : (kind : Kind) (place : ℕ) (name : List ℕ) (r : Receipt) (at n : ℕ) (slots : List Slot) → r.upto < n → receive_puts kind place name r at n slots ≡ []
puts_behind kind place name r at n [] past = refl
puts_behind kind place name r at n (s ∷ slots) past =
    (λ i. no_put kind place name r at n s (out_behind r n past) i ++ receive_puts kind place name r (at + slot_header s) (n + 1) slots) ∙ puts_behind kind place name r (at + slot_header s) (n + 1) slots (omega (arith, past))

-- ---- a loop that begins at the first place within the bounds, and ends behind the last
pub due_start : (name : List ℕ) (r : Receipt) (slots : List Slot) (place count : ℕ) → place ≡ min r.above count → any_due name r (place + 1) (drop place slots) ≡ any_due name r 1 slots
due_start name r slots place count is =
    let e : place + 1 ≡ 1 + place = omega arith in
    ap (λ (n : ℕ). any_due name r n (drop place slots)) e ∙ due_from name r 1 place slots (omega (arith, is))

pub due_stop : (name : List ℕ) (r : Receipt) (slots : List Slot) (place end count : ℕ) → end ≡ min r.upto count → count ≡ length slots → end ≤ place → any_due name r (place + 1) (drop place slots) ≡ false
due_stop name r slots place end count is counted past = elim (cases_lt place (length slots)) [
  | inl within ↦ due_behind name r (place + 1) (drop place slots) (omega (arith, is, counted, past, within))
  | inr none ↦ ap (any_due name r (place + 1)) (drop_all place slots none)
]

pub received_start : (name : List ℕ) (r : Receipt) (slots new : List Slot) (place count : ℕ) → place ≡ min r.above count → new ≡ slots → ReceivedSoFar name r slots place new
received_start name r slots new place count is same = record {
  so_far = same ∙ (sym (take-append-drop place slots)
      ∙ ap (λ (xs : List Slot). xs ++ drop place slots) (sym (received_before name r 1 (take place slots) (omega (arith, is, length-take place slots)))));
}

pub received_stop : (name : List ℕ) (r : Receipt) (slots new : List Slot) (place end count : ℕ) → end ≡ min r.upto count → count ≡ length slots → end ≤ place → ReceivedSoFar name r slots place new → new ≡ slots_received name r 1 slots
received_stop name r slots new place end count is counted past so_far = elim (cases_lt place (length slots)) [
  | inl within ↦
      let number : 1 + length (take place slots) ≡ place + 1 = omega (arith, length-take place slots, within) in
      let rest : slots_received name r (1 + length (take place slots)) (drop place slots) ≡ drop place slots =
      ap (λ (n : ℕ). slots_received name r n (drop place slots)) number ∙ received_behind name r (place + 1) (drop place slots) (omega (arith, is, counted, past, within)) in
      so_far.so_far ∙ (ap (λ (xs : List Slot). slots_received name r 1 (take place slots) ++ xs) (sym rest)
      ∙ (sym (received_append name r 1 (take place slots) (drop place slots)) ∙ ap (slots_received name r 1) (take-append-drop place slots)))
  | inr none ↦ received_end name r slots place new none so_far
]

pub marks_start : (kind : Kind) (place : ℕ) (name : List ℕ) (r : Receipt) (slots : List Slot) (index count at : ℕ) (patches : List Patch) → index ≡ min r.above count → at ≡ 1024 + sum_by slot_header (take index slots) → patches ≡ [] → MarksSoFar kind place name r slots index at patches
marks_start kind place name r slots index count at patches is at_is none =
    let e : index + 1 ≡ 1 + index = omega arith in
    record {
      so_far = (λ i. none i ++ receive_puts kind place name r (at_is i) (e i) (drop index slots)) ∙ puts_from kind place name r 1024 1 index slots (omega (arith, is));
      at_is = omega (arith, at_is, sum_by-append slot_header (take index slots) (drop index slots), ap (sum_by slot_header) (take-append-drop index slots));
    }

pub marks_stop : (kind : Kind) (place : ℕ) (name : List ℕ) (r : Receipt) (slots : List Slot) (index end count at : ℕ) (patches : List Patch) → end ≡ min r.upto count → count ≡ length slots → end ≤ index → MarksSoFar kind place name r slots index at patches
    → patches ≡ receive_puts kind place name r 1024 1 slots
marks_stop kind place name r slots index end count at patches is counted past so_far = elim (cases_lt index (length slots)) [
  | inl within ↦
      sym (append-nil patches)
      ∙ (ap (λ (ps : List Patch). patches ++ ps) (sym (puts_behind kind place name r at (index + 1) (drop index slots) (omega (arith, is, counted, past, within)))) ∙ so_far.so_far)
  | inr none ↦ marks_end kind place name r slots index at patches none so_far
]
