-- The loops that write what slots add to .JHR and .JDX: what is written, and the pieces of the slots that are left, are the
-- whole.
use Rattle.std.proofs.Common.{◌≡◌, ℕ, ◌+◌, ◌≤◌, ◌<◌, List, [], ◌∷◌, ◌++◌, length, map, take, drop, get_or, refl, sym, ap, ◌∙◌, arith, append_assoc, append-nil}
use Rattle.std.specs.Prelude.{sum_by}
use Rattle.std.proofs.lemmas.List.{drop_all, drop_more, take-append-drop}
use Rattle.std.proofs.lemmas.List.Sums.{sum_by-cons, sum_by-append, get_or-le-sum_by}
use Rattle.jam_records.specs.declared.message.Kind.{Kind}
use Rattle.jam_records.specs.declared.message.Slot.{Slot}
use Rattle.jam_records.specs.declared.message.Slot.TheVariants.{Gone, Held}
use Rattle.jam_layout.specs.jam_threads.Links.{link_of}
use Rattle.jam_layout.specs.Headers.{headers_text}
use Rattle.jam_layout.specs.Index.{index_records}
use Rattle.jam_layout.specs.Layout.{entries_of}
use Rattle.jam_layout.specs.Outlines.{slot_bare}
use Rattle.jam_layout.specs.Sizes.{slot_header}
use Rattle.jam_writing.specs.Pieces.{body_size, index_piece}
use Rattle.jam_writing.proofs.PieceLaws.{index_more}
use Rattle.shared_slots.proofs.BareSlots.{bare_is, header_is}
use Rattle.shared_slots.proofs.KeptLaws.{same_item}

-- what is left begins with the slot that was read
left : (slots : List Slot) (place : ℕ) (s : Slot) → place < length slots → s ≡ get_or slots place s → drop place slots ≡ s ∷ drop (place + 1) slots
left slots place s within item = drop_more slots place s within ∙ ap (λ (x : Slot). x ∷ drop (place + 1) slots) (sym item)

-- a sum over what is left is that of the slot and of what is then left
left_sum : (size : Slot → ℕ) (slots : List Slot) (place : ℕ) (s : Slot) → place < length slots → s ≡ get_or slots place s → sum_by size (drop place slots) ≡ size s + sum_by size (drop (place + 1) slots)
left_sum size slots place s within item = ap (sum_by size) (left slots place s within item) ∙ sum_by-cons size s (drop (place + 1) slots)

-- a sum over a list in two parts
sum_parts : (size : Slot → ℕ) (slots : List Slot) (place : ℕ) → sum_by size (take place slots) + sum_by size (drop place slots) ≡ sum_by size slots
sum_parts size slots place = sym (sum_by-append size (take place slots) (drop place slots)) ∙ ap (sum_by size) (take-append-drop place slots)

-- no slot has more than all
pub header_small : (slots : List Slot) (place most : ℕ) (b : Slot) → place < length slots → b ≡ get_or (map slot_bare slots) place b → sum_by slot_header slots < most → slot_header b < most
header_small slots place most b within item small = omega (arith, get_or-le-sum_by slot_header slots place Gone within, header_is slots place b within item, small)

-- ---- .JHR
pub record HeadersSoFar (kind : Kind) (slots : List Slot) (place offset : ℕ) (text whole : List ℕ) : Type 0 where
  pub text_is : text ++ headers_text kind offset (entries_of (link_of slots) (place + 1) (drop place slots)) ≡ whole
  pub offset_is : offset + sum_by body_size (drop place slots) ≡ sum_by body_size slots

-- the slots from a place on
pub headers_from : (kind : Kind) (slots : List Slot) (from offset : ℕ) → offset ≡ sum_by body_size (take from slots) → HeadersSoFar kind slots from offset [] (headers_text kind offset (entries_of (link_of slots) (from + 1) (drop from slots)))
headers_from kind slots from offset is = record { text_is = refl; offset_is = omega (arith, is, sum_parts body_size slots from) }

pub headers_end : (kind : Kind) (slots : List Slot) (place offset : ℕ) (text whole : List ℕ) → length slots ≤ place → HeadersSoFar kind slots place offset text whole → text ≡ whole
headers_end kind slots place offset text whole none so_far =
    sym (append-nil text) ∙ (ap (λ (xs : List Slot). text ++ headers_text kind offset (entries_of (link_of slots) (place + 1) xs)) (sym (drop_all place slots none)) ∙ so_far.text_is)

-- ---- .JDX
pub record IndexSoFar (slots : List Slot) (place first at : ℕ) (text whole : List ℕ) : Type 0 where
  pub text_is : text ++ index_records at (drop place slots) ≡ whole
  pub at_is : at + sum_by slot_header (drop place slots) ≡ first + sum_by slot_header slots

-- the slots from a place on
pub index_from : (slots : List Slot) (from at : ℕ) → at ≡ 1024 + sum_by slot_header (take from slots) → IndexSoFar slots from 1024 at [] (index_records at (drop from slots))
index_from slots from at is = record { text_is = refl; at_is = omega (arith, is, sum_parts slot_header slots from) }

pub index_fits : (slots : List Slot) (place first at most : ℕ) (text whole : List ℕ) (b : Slot) → place < length slots → b ≡ get_or (map slot_bare slots) place b → first + sum_by slot_header slots < most → IndexSoFar slots place first at text whole → at + slot_header b < most
index_fits slots place first at most text whole b within item small so_far =
    let s : Slot = get_or slots place Gone in
    omega (arith, so_far.at_is, left_sum slot_header slots place s within (same_item slots place Gone s within), small, header_is slots place b within item)

piece_bare : (at : ℕ) (s : Slot) → index_piece at (slot_bare s) ≡ index_piece at s
piece_bare at Gone = refl
piece_bare at (Held m) = refl

pub record_added : (slots : List Slot) (place first at next : ℕ) (text new whole : List ℕ) (b : Slot) → place < length slots → b ≡ get_or (map slot_bare slots) place b
    → new ≡ text ++ index_piece at b → next ≡ at + slot_header b → IndexSoFar slots place first at text whole → IndexSoFar slots (place + 1) first next new whole
record_added slots place first at next text new whole b within bare put behind so_far =
    let s : Slot = get_or slots place Gone in
    let item : s ≡ get_or slots place s = same_item slots place Gone s within in
    let is : b ≡ slot_bare s = bare_is slots place b within bare in
    let written : new ≡ text ++ index_piece at s = put ∙ ap (λ xs. text ++ xs) (ap (index_piece at) is ∙ piece_bare at s) in
    let moved : next ≡ at + slot_header s = omega (arith, behind, header_is slots place b within bare) in
    let rest : List Slot = drop (place + 1) slots in
    let later : ℕ → List ℕ = λ n. index_records n rest in
    let one : text ++ (index_piece at s ++ later (at + slot_header s)) ≡ whole =
    ap (λ xs. text ++ xs) (sym (index_more at s rest)) ∙ (ap (λ (xs : List Slot). text ++ index_records at xs) (sym (left slots place s within item)) ∙ so_far.text_is) in
    record {
      text_is = ap (λ n. new ++ later n) moved ∙ (ap (λ xs. xs ++ later (at + slot_header s)) written ∙ (append_assoc text (index_piece at s) (later (at + slot_header s)) ∙ one));
      at_is = omega (arith, so_far.at_is, left_sum slot_header slots place s within item, moved);
    }
