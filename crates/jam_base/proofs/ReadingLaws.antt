-- A base in which a reader has acknowledged what there is up to a message number: it is a conference of its shape, and only .JHR and .JLR differ.
use Rattle.std.proofs.Common.{◌≡◌, ℕ, Bool, true, false, cond, ◌<◌, ◌≤◌, ◌^◌, List, length, Option, Some, None, refl, sym, ap, ◌∙◌, subst, arith}
use Rattle.std.proofs.Math.ListN.{set, length-set}
use Rattle.std.proofs.lemmas.Bool.{cond-true, cond-false}
use Rattle.std.proofs.lemmas.List.Elements.{All-set}
use Rattle.jam_records.specs.declared.message.Slot.{Slot}
use Rattle.jam_writing.specs.jam_layout.Layout.{layout}
use Rattle.jam_writing.specs.jam_layout.Valid.{IsConference}
use Rattle.jam_writing.specs.jam_layout.declared.files.BaseFiles.{BaseFiles}
use Rattle.jam_writing.specs.jam_layout.declared.shape.Shape.{Shape}
use Rattle.jam_base.specs.Contents.{Contents, pointers_with, reader_place, receipt_to, with_acknowledged, with_pointer, with_slots}
use Rattle.jam_base.specs.Slots.{any_due, slots_received}
use Rattle.jam_base.specs.declared.receipt.Receipt.{Receipt}
use Rattle.jam_base.proofs.MarkedSlots.{received_files}
use Rattle.jam_base.proofs.SlotChanges.{received_is, received_length}

-- ---- a pointer moved
pub pointed_is : (base : Contents) (user number : ℕ) → number ≤ length base.conference.slots → IsConference base.shape base.conference → IsConference base.shape (with_pointer user number base).conference
pointed_is base user number most ok = by (reader_place user base.shape.readers)
  where
    by : (place : Option ℕ) → IsConference base.shape (record base.conference { pointers = pointers_with place number base.conference.pointers })
    by None = ok
    by (Some place) = record {
      counter = ok.counter;
      few = ok.few;
      slots = ok.slots;
      pointers = record {
        all = length-set base.conference.pointers place number ∙ ok.pointers.all;
        within = All-set (λ p. p ≤ length base.conference.slots) base.conference.pointers place number most ok.pointers.within;
      };
    }

-- the pointer in a place at a number
abbrev pub pointer_at : ℕ → ℕ → Contents → Contents
pointer_at place number base = record base { conference = record base.conference { pointers = set base.conference.pointers place number } }

pub pointer_there : (base : Contents) (user number place : ℕ) → reader_place user base.shape.readers ≡ Some place → pointer_at place number base ≡ with_pointer user number base
pointer_there base user number place there =
    ap (λ (p : Option ℕ). record base { conference = record base.conference { pointers = pointers_with p number base.conference.pointers } }) (sym there)

pub moved_is : (base : Contents) (shape : Shape) (pointers : List ℕ) (place number : ℕ) → shape ≡ base.shape → pointers ≡ set base.conference.pointers place number → number ≤ length base.conference.slots → IsConference base.shape base.conference
    → IsConference shape (record base.conference { pointers = pointers })
moved_is base shape pointers place number shape_is pointers_are most ok =
    let made : IsConference base.shape (record base.conference { pointers = set base.conference.pointers place number }) = record {
      counter = ok.counter;
      few = ok.few;
      slots = ok.slots;
      pointers = record {
        all = length-set base.conference.pointers place number ∙ ok.pointers.all;
        within = All-set (λ p. p ≤ length base.conference.slots) base.conference.pointers place number most ok.pointers.within;
      };
    } in
    subst (λ (s : Shape). IsConference s (record base.conference { pointers = pointers })) (sym shape_is)
    (subst (λ (ps : List ℕ). IsConference base.shape (record base.conference { pointers = ps })) (sym pointers_are) made)

-- ---- messages received, and then the pointer moved
module _ (base : Contents) (user : ℕ) (name : List ℕ) (upto now : ℕ) where
  -- the slots with the messages received
  abbrev pub slots_to : List Slot
  slots_to = slots_received name (receipt_to user upto now base) 1 base.conference.slots

  -- the base with these slots
  abbrev pub received_to : Contents
  received_to = with_slots slots_to base

  -- whether one is due, as it is found
  pub is_due_to : (receipt : Receipt) (slots : List Slot) (found due : Bool) → receipt ≡ receipt_to user upto now base → slots ≡ base.conference.slots → found ≡ any_due name receipt 1 slots → found ≡ due
      → any_due name (receipt_to user upto now base) 1 base.conference.slots ≡ due
  is_due_to receipt slots found due receipt_is slots_are found_is is = sym (found_is ∙ (λ i. any_due name (receipt_is i) 1 (slots_are i))) ∙ is

  pub none_due : any_due name (receipt_to user upto now base) 1 base.conference.slots ≡ false → with_acknowledged user name upto now base ≡ with_pointer user upto base
  none_due none = ap (with_pointer user upto) (cond-false (any_due name (receipt_to user upto now base) 1 base.conference.slots) received_to base none)

  pub some_due : any_due name (receipt_to user upto now base) 1 base.conference.slots ≡ true → with_acknowledged user name upto now base ≡ with_pointer user upto received_to
  some_due some = ap (with_pointer user upto) (cond-true (any_due name (receipt_to user upto now base) 1 base.conference.slots) received_to base some)

  same_count : length slots_to ≡ length base.conference.slots
  same_count = received_length name (receipt_to user upto now base) 1 base.conference.slots

  -- what holds of the base with the pointer moved, whether messages are received or not, holds of the whole
  pub either : (P : Contents → Type 0) → P (with_pointer user upto base) → P (with_pointer user upto received_to) → P (with_acknowledged user name upto now base)
  either P without with = by (any_due name (receipt_to user upto now base) 1 base.conference.slots)
    where
      by : (due : Bool) → P (with_pointer user upto (cond due received_to base))
      by true = with
      by false = without

  -- the base with the messages received is one of its shape
  pub reading_is : upto ≤ length base.conference.slots → now < 2 ^ 32 → IsConference base.shape base.conference → IsConference base.shape (with_pointer user upto received_to).conference
  reading_is most small ok =
      let fewer = same_count in
      pointed_is received_to user upto (omega (arith, fewer, most)) (received_is base slots_to name (receipt_to user upto now base) refl small ok)

  pub acknowledged_is : upto ≤ length base.conference.slots → now < 2 ^ 32 → IsConference base.shape base.conference → IsConference base.shape (with_acknowledged user name upto now base).conference
  acknowledged_is most small ok = either (λ (c : Contents). IsConference base.shape c.conference) (pointed_is base user upto most ok) (reading_is most small ok)

  pub acknowledged_shape : (with_acknowledged user name upto now base).shape ≡ base.shape
  acknowledged_shape = either (λ (c : Contents). c.shape ≡ base.shape) refl refl

  pub acknowledged_count : length (with_acknowledged user name upto now base).conference.slots ≡ length base.conference.slots
  acknowledged_count = either (λ (c : Contents). length c.conference.slots ≡ length base.conference.slots) refl same_count

  pub reading_files : record (layout base.shape base.conference) { jhr = (layout base.shape (with_pointer user upto received_to).conference).jhr; jlr = (layout base.shape (with_pointer user upto received_to).conference).jlr }
      ≡ layout base.shape (with_pointer user upto received_to).conference
  reading_files =
      let new : BaseFiles = layout base.shape (with_pointer user upto received_to).conference in
      ap (λ (files : BaseFiles). record files { jlr = new.jlr }) (received_files base slots_to name (receipt_to user upto now base) refl)

  -- the base as it is made
  pub reading_made : (read next : Contents) (slots : List Slot) (place : ℕ) → read ≡ with_slots slots base → slots ≡ slots_to → next ≡ pointer_at place upto read → reader_place user base.shape.readers ≡ Some place
      → next ≡ with_pointer user upto received_to
  reading_made read next slots place read_is slots_are next_is there =
      next_is ∙ (ap (pointer_at place upto) (read_is ∙ ap (λ (xs : List Slot). with_slots xs base) slots_are) ∙ pointer_there received_to user upto place there)
