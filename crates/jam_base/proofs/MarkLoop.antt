-- The loop over slots that marks messages read.
use Rattle.std.proofs.Common.{◌≡◌, ℕ, ◌+◌, ◌<◌, ◌≤◌, List, [], ◌∷◌, ◌++◌, length, map, drop, get_or, sym, ap, ◌∙◌, arith, append_assoc, append-nil}
use Rattle.std.specs.Prelude.{sum_by}
use Rattle.std.proofs.lemmas.List.{drop_all, drop_more}
use Rattle.std.proofs.lemmas.List.Sums.{sum_by-cons}
use Rattle.intent_journal.specs.declared.patch.Patch.{Patch}
use Rattle.jam_records.specs.declared.message.Kind.{Kind}
use Rattle.jam_records.specs.declared.message.Slot.{Slot}
use Rattle.jam_writing.specs.jam_layout.Sizes.{slot_header}
use Rattle.std.proofs.Common.{true}
use Rattle.std.proofs.lemmas.Bool.{cond-true}
use Rattle.jam_records.specs.declared.message.Message.{Message}
use Rattle.jam_records.specs.declared.message.Slot.TheVariants.{Gone, Held}
use Rattle.jam_writing.specs.jam_layout.Outlines.{slot_bare}
use Rattle.jam_writing.proofs.shared_slots.BareSlots.{bare_is, header_is}
use Rattle.jam_writing.proofs.shared_slots.KeptLaws.{same_item}
use Rattle.jam_base.specs.Slots.{is_due}
use Rattle.jam_base.specs.MarkPuts.{marks_put, receive_put, receive_puts}
use Rattle.jam_base.specs.declared.receipt.Receipt.{Receipt}
use Rattle.jam_base.proofs.BareLookups.{receive_bare}

pub record MarksSoFar (kind : Kind) (place : ℕ) (name : List ℕ) (r : Receipt) (slots : List Slot) (index at : ℕ) (patches : List Patch) : Type 0 where
  pub so_far : patches ++ receive_puts kind place name r at (index + 1) (drop index slots) ≡ receive_puts kind place name r 1024 1 slots
  pub at_is : at + sum_by slot_header (drop index slots) ≡ 1024 + sum_by slot_header slots

left : (slots : List Slot) (index : ℕ) (s : Slot) → index < length slots → s ≡ get_or slots index s → drop index slots ≡ s ∷ drop (index + 1) slots
left slots index s within item = drop_more slots index s within ∙ ap (λ (x : Slot). x ∷ drop (index + 1) slots) (sym item)

left_sum : (slots : List Slot) (index : ℕ) (s : Slot) → index < length slots → s ≡ get_or slots index s → sum_by slot_header (drop index slots) ≡ slot_header s + sum_by slot_header (drop (index + 1) slots)
left_sum slots index s within item = ap (sum_by slot_header) (left slots index s within item) ∙ sum_by-cons slot_header s (drop (index + 1) slots)

pub mark_fits : (kind : Kind) (place : ℕ) (name : List ℕ) (r : Receipt) (slots : List Slot) (index at most : ℕ) (patches : List Patch) (b : Slot) → index < length slots → b ≡ get_or (map slot_bare slots) index b → 1024 + sum_by slot_header slots < most → MarksSoFar kind place name r slots index at patches
    → at + slot_header b < most
mark_fits kind place name r slots index at most patches b within item small so_far =
    let s : Slot = get_or slots index Gone in
    omega (arith, so_far.at_is, left_sum slots index s within (same_item slots index Gone s within), header_is slots index b within item, small)

pub marks_more : (kind : Kind) (place : ℕ) (name : List ℕ) (r : Receipt) (slots : List Slot) (index at next : ℕ) (patches more : List Patch) (b : Slot) → index < length slots → b ≡ get_or (map slot_bare slots) index b
    → more ≡ patches ++ receive_put kind place name r at (index + 1) b → next ≡ at + slot_header b → MarksSoFar kind place name r slots index at patches → MarksSoFar kind place name r slots (index + 1) next more
marks_more kind place name r slots index at next patches more b within item put_bare behind so_far =
    let s : Slot = get_or slots index Gone in
    let here : s ≡ get_or slots index s = same_item slots index Gone s within in
    let put : more ≡ patches ++ receive_put kind place name r at (index + 1) s =
    put_bare ∙ ap (λ (ps : List Patch). patches ++ ps) (ap (receive_put kind place name r at (index + 1)) (bare_is slots index b within item) ∙ receive_bare kind place name r at (index + 1) s) in
    let moved : next ≡ at + slot_header s = omega (arith, behind, header_is slots index b within item) in
    let rest : List Slot = drop (index + 1) slots in
    record {
      so_far = (λ i. put i ++ receive_puts kind place name r (moved i) (index + 1 + 1) rest)
          ∙ (append_assoc patches (receive_put kind place name r at (index + 1) s) (receive_puts kind place name r (at + slot_header s) (index + 1 + 1) rest)
          ∙ (ap (λ (xs : List Slot). patches ++ receive_puts kind place name r at (index + 1) xs) (sym (left slots index s within here)) ∙ so_far.so_far));
      at_is = omega (arith, so_far.at_is, left_sum slots index s within here, moved);
    }

pub marks_end : (kind : Kind) (place : ℕ) (name : List ℕ) (r : Receipt) (slots : List Slot) (index at : ℕ) (patches : List Patch) → length slots ≤ index → MarksSoFar kind place name r slots index at patches → patches ≡ receive_puts kind place name r 1024 1 slots
marks_end kind place name r slots index at patches none so_far =
    sym (append-nil patches) ∙ (ap (λ (xs : List Slot). patches ++ receive_puts kind place name r at (index + 1) xs) (sym (drop_all index slots none)) ∙ so_far.so_far)

-- one that is due
pub put_when_due : (kind : Kind) (place : ℕ) (name : List ℕ) (r : Receipt) (at number : ℕ) (m : Message) (s : Slot) (old new : List Patch) (p : Patch) → s ≡ Held m → is_due name r number m ≡ true
    → p ≡ marks_put kind place at number (record m { seen = true; received = r.now }) → new ≡ old ++ p ∷ [] → new ≡ old ++ receive_put kind place name r at number s
put_when_due kind place name r at number m s old new p is due made added =
    let put : Patch = marks_put kind place at number (record m { seen = true; received = r.now }) in
    added ∙ ((λ i. old ++ made i ∷ [])
    ∙ (ap (λ (ps : List Patch). old ++ ps) (sym (cond-true (is_due name r number m) (put ∷ []) [] due))
    ∙ ap (λ (x : Slot). old ++ receive_put kind place name r at number x) (sym is)))
