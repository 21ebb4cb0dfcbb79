-- Other slots in a place, on each board with one outline.
use Rattle.std.proofs.Common.{◌≡◌, ℕ, ◌+◌, ◌<◌, ◌≤◌, List, [], ◌∷◌, length, Option, Some, None, refl, sym, ap, ◌∙◌, subst, arith}
use Rattle.std.specs.Prelude.{All, IsSomeAnd, option_map}
use Rattle.std.proofs.lemmas.List.Sums.{get_or-le-sum_by}
use Rattle.std.proofs.lemmas.Option.{get_or_from_slice_get, slice_get_within}
use Rattle.board_changes.proofs.OneBase.{base_fits, base_was, board_next, conferences_back, shapes_back, size_next}
use Rattle.board_changes.specs.Change.{ChangesBase}
use Rattle.board_changes.specs.Changed.{base_at, with_base}
use Rattle.board_changes.specs.Outlined.{ChangesEach, KeepsEach, MadeBy}
use Rattle.board_layout.proofs.OneOutline.{alike_base, alike_base_size, alike_count, alike_size}
use Rattle.board_layout.proofs.SizeLaws.{size_in}
use Rattle.board_layout.specs.Board.{Board, board_with, shapes_of}
use Rattle.board_layout.specs.Layout.{base_size, board_size, files_in}
use Rattle.board_layout.specs.Renewed.{contents, contents_of}
use Rattle.board_layout.specs.Valid.{IsBoard}
use Rattle.board_ledger.specs.intent_journal.declared.patch.Patch.{Patch}
use Rattle.board_layout.specs.jam_base.Change.{SuitsIntent}
use Rattle.board_layout.specs.jam_base.Contents.{Contents, with_slots}
use Rattle.board_layout.specs.jam_base.Outlined.{outlined, TurnsEach}
use Rattle.board_layout.specs.jam_base.declared.change.BaseChange.{BaseChange}
use Rattle.jam_layout.specs.Messages.{IsSlot}
use Rattle.jam_layout.specs.Valid.{IsConference, PointersFit}
use Rattle.jam_layout.specs.declared.conference.ConferenceContents.{ConferenceContents}
use Rattle.jam_layout.specs.declared.shape.Shape.{Shape}
use Rattle.jam_records.specs.declared.message.Slot.{Slot}
use Rattle.slot_changes.specs.Packed.{FitsSlots, HasSlots, replaced}

-- ---- where there are slots
contents_few : (shapes : List Shape) (conferences : List ConferenceContents) → length (contents shapes conferences) ≤ length conferences
contents_few [] conferences = omega arith
contents_few (shape ∷ shapes) [] = omega arith
contents_few (shape ∷ shapes) (c ∷ conferences) = omega (arith, contents_few shapes conferences)

pub slots_place : (b : Board) (place count : ℕ) → HasSlots place count b → place < length b.conferences
slots_place b place count has = by (base_at place b) refl has
  where
    by : (o : Option Contents) → base_at place b ≡ o → IsSomeAnd o (λ (base : Contents). length base.conference.slots ≡ count) → place < length b.conferences
    by None here is = absurd is
    by (Some base) here is = omega (arith, slice_get_within (contents_of b) place base here, contents_few (shapes_of b.ledger) b.conferences)

-- the files of a base are no longer than those of the board
pub base_within : (b : Board) (place : ℕ) (base : Contents) → IsBoard b → base_at place b ≡ Some base → base_size base ≤ board_size b
base_within b place base ok here =
    let shapes = shapes_back (shapes_of b.ledger) b.conferences ok.conferences in
    let same : board_with b.ledger (contents_of b) ≡ b = λ i. record { ledger = b.ledger; conferences = conferences_back (shapes_of b.ledger) b.conferences ok.conferences i } in
    omega (
      arith,
      size_in b.ledger (contents_of b) shapes,
      ap board_size same,
      get_or-le-sum_by base_size (contents_of b) place base (slice_get_within (contents_of b) place base here),
      ap base_size (get_or_from_slice_get (contents_of b) place base base here),
    )

-- ---- one base
-- bases with one outline become one base
pub same_base : (slots : List Slot) (x y : Contents) → outlined x ≡ outlined y → with_slots slots x ≡ with_slots slots y
same_base slots x y alike = ap (λ (c : Contents). with_slots slots c) alike

pub replaced_each : (slots : List Slot) (base : Contents) (patches : List Patch) → TurnsEach base (with_slots slots) patches → ChangesEach base (with_slots slots) patches
replaced_each slots base patches each = record { files = each; outline = λ other alike. ap outlined (same_base slots other base alike) }

pub replaced_changes : (slots : List Slot) (base : Contents) (change : BaseChange) → change.base ≡ outlined (with_slots slots base) → SuitsIntent base.shape.place (files_in change.base) change.patches → ChangesBase base change
replaced_changes slots base change is intent = record { shape = ap (λ (c : Contents). c.shape) is; intent = intent }

module _ (b : Board) (place : ℕ) (slots : List Slot) (base : Contents) (ok : IsBoard b) (here : base_at place b ≡ Some base) where
  pub replaced_there : replaced place slots b ≡ with_base place (Some (with_slots slots base)) b
  replaced_there = ap (λ (o : Option Contents). with_base place (option_map (with_slots slots) o) b) here

  pub many_there : HasSlots place (length slots) b → length base.conference.slots ≡ length slots
  many_there has = subst (λ (o : Option Contents). IsSomeAnd o (λ (c : Contents). length c.conference.slots ≡ length slots)) here has

  pub many_back : length base.conference.slots ≡ length slots → HasSlots place (length slots) b
  many_back many = subst (λ (o : Option Contents). IsSomeAnd o (λ (c : Contents). length c.conference.slots ≡ length slots)) (sym here) many

  pub replaced_valid : IsBoard (replaced place slots b) → IsConference base.shape (with_slots slots base).conference
  replaced_valid next = base_fits b place base (with_slots slots base) ok here refl (subst IsBoard replaced_there next)

  -- what the base is with slots that may stand there
  pub new_valid : All (IsSlot base.shape.kind) slots → length base.conference.slots ≡ length slots → IsConference base.shape (with_slots slots base).conference
  new_valid each many =
      let was = base_was b place base base ok here refl in
      let few = was.few in
      record {
        counter = omega arith;
        few = omega (arith, many, few);
        slots = each;
        pointers = subst (λ (n : ℕ). PointersFit n base.shape.readers base.conference.pointers) many was.pointers;
      }

  pub slots_fit : IsBoard (replaced place slots b) → All (IsSlot base.shape.kind) slots
  slots_fit next = (replaced_valid next).slots

  pub replaced_size : board_size (replaced place slots b) + base_size base ≡ board_size b + base_size (with_slots slots base)
  replaced_size = ap (λ (c : Board). board_size c + base_size base) replaced_there ∙ size_next b place base (with_slots slots base) ok here refl

  pub replaced_board : IsConference base.shape (with_slots slots base).conference → length base.conference.slots ≡ length slots → board_size (replaced place slots b) ≤ 34603008 → IsBoard (replaced place slots b)
  replaced_board valid many small =
      subst IsBoard (sym replaced_there)
      (board_next b place base (with_slots slots base) ok here refl valid (omega (arith, many)) (subst (λ (c : Board). board_size c ≤ 34603008) replaced_there small))

-- each board with the outline is valid then
pub replaced_keeps : (b : Board) (place : ℕ) (slots : List Slot) (base : Contents) → IsBoard b → base_at place b ≡ Some base → FitsSlots place slots b → KeepsEach b (replaced place slots)
replaced_keeps b place slots base ok here fits = record {
  valid = λ other valid alike.
      let there = alike_base other b alike place base here in
      let same : with_slots slots there.0 ≡ with_slots slots base = same_base slots there.0 base there.2 in
      let conference = replaced_valid b place slots base ok here fits.1 in
      replaced_board other place slots there.0 valid there.1
      (subst (λ (c : Contents). IsConference c.shape c.conference) (sym same) conference)
      (alike_count there.0 base there.2 ∙ many_there b place slots base ok here fits.0)
      (omega (
        arith,
        fits.1.small,
        replaced_size b place slots base ok here,
        replaced_size other place slots there.0 valid there.1,
        alike_size other b alike,
        alike_base_size there.0 base there.2,
        ap base_size same,
      ));
}

pub replaced_made : (b : Board) (place : ℕ) (slots : List Slot) (base : Contents) (change : BaseChange) → base_at place b ≡ Some base → change.base ≡ outlined (with_slots slots base) → outlined (outlined (with_slots slots base)) ≡ outlined (with_slots slots base)
    → TurnsEach base (with_slots slots) change.patches → IsSomeAnd (base_at place b) (MadeBy (with_slots slots) change)
replaced_made b place slots base change here is twice each =
    subst (λ (o : Option Contents). IsSomeAnd o (MadeBy (with_slots slots) change)) (sym here)
    (record { base = ap outlined is ∙ twice; each = replaced_each slots base change.patches each })
