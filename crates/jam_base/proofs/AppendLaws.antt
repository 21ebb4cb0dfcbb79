-- The files after one message more, as the law has them.
use Rattle.std.proofs.Common.{◌≡◌, ℕ, suc, ◌+◌, ◌≤◌, ◌<◌, List, ◌++◌, length, Option, Some, None, refl, sym, ap, ◌∙◌, arith, append_assoc, length-append}
use Rattle.std.specs.Prelude.{sum_by, IfSome}
use Rattle.jam_records.specs.BaseHeaders.{base_text}
use Rattle.jam_records.specs.IndexRecords.{index_text}
use Rattle.jam_records.specs.declared.base_header.BaseHeader.{BaseHeader}
use Rattle.jam_records.specs.declared.message.Kind.{Kind}
use Rattle.jam_records.specs.declared.message.Message.{Message}
use Rattle.jam_records.specs.declared.message.Slot.{Slot}
use Rattle.jam_threads.specs.LinkChanges.{link_after, link_change, IsLinkChange, IsOlder}
use Rattle.jam_threads.specs.Links.{link_of}
use Rattle.jam_threads.specs.declared.link.Link.{Link}
use Rattle.jam_threads.specs.declared.link.LinkPatch.{LinkPatch}
use Rattle.jam_threads.proofs.ChangeLemmas.{is_change}
use Rattle.jam_writing.specs.jam_layout.Conference.{live_count}
use Rattle.jam_writing.specs.jam_layout.Headers.{entry_text, headers_text}
use Rattle.jam_writing.specs.jam_layout.Index.{pair_of}
use Rattle.jam_writing.specs.jam_layout.Layout.{layout, base_header, entries_of}
use Rattle.jam_writing.specs.jam_layout.Sizes.{slot_header}
use Rattle.jam_writing.specs.jam_layout.declared.conference.ConferenceContents.{ConferenceContents}
use Rattle.jam_writing.specs.jam_layout.declared.shape.Shape.{Shape}
use Rattle.jam_writing.proofs.jam_layout.BaseLaws.{base_length}
use Rattle.jam_writing.specs.Pieces.{entry_with, body_size}
use Rattle.jam_writing.proofs.PieceLaws.{bodies_are, bodies_length, headers_length}
use Rattle.jam_writing.proofs.SlotShapes.{jhr_more, jdt_more, jdx_more}
use Rattle.jam_base.specs.OneAppend.{with_last, with_link, last_header, OneAppend}
use Rattle.jam_base.specs.Places.{header_place, with_number}
use Rattle.jam_base.proofs.HeaderPlaces.{active_written, headers_same, linked, header_within}
use Rattle.intent_journal.proofs.Writes.{written_before}

abbrev headers : (ℕ → Link) → Kind → List Slot → List ℕ
headers links kind slots = headers_text kind 0 (entries_of links 1 slots)

-- the headers of these slots with other links, which differ by one change
pub relinked : (kind : Kind) (slots : List Slot) (change : Option LinkPatch) (links others : ℕ → Link) (base : List ℕ) → IfSome change (IsOlder slots) → ((k : ℕ) → 0 < k → k ≤ length slots → others k ≡ link_after change k (links k)) → length base ≡ 1024
    → with_link slots change (base ++ headers links kind slots) ≡ base ++ headers others kind slots
relinked kind slots None links others base older each long =
    ap (λ (xs : List ℕ). base ++ xs) (sym (headers_same links others kind 0 1 slots (λ k above below. each k (omega (arith, above)) (omega (arith, below)))))
relinked kind slots (Some patch) links others base older each long =
    linked kind slots patch.number older.message older.some older.held links others patch.field patch.value each base long

older_within : (kind : Kind) (slots : List Slot) (change : Option LinkPatch) (links : ℕ → Link) (base : List ℕ) → IfSome change (IsOlder slots) → length base ≡ 1024
    → IfSome change (λ patch. (1024 ≤ header_place slots patch.number) × (header_place slots patch.number + 76 ≤ length (base ++ headers links kind slots)))
older_within kind slots None links base older long = tt
older_within kind slots (Some patch) links base older long = (omega arith, header_within kind slots patch.number older.message older.some older.held links base long)

module _ (shape : Shape) (c : ConferenceContents) (m : Message) where
  jhr_long : length (layout shape c).jhr ≡ 1024 + sum_by slot_header c.slots
  jhr_long = omega (arith, length-append (base_text (base_header shape c)) (headers (link_of c.slots) shape.kind c.slots), base_length (base_header shape c), headers_length (link_of c.slots) shape.kind 0 1 c.slots)

  jdt_long : length (layout shape c).jdt ≡ sum_by body_size c.slots
  jdt_long = ap length (bodies_are (link_of c.slots) 1 c.slots) ∙ bodies_length c.slots

  change : Option LinkPatch
  change = link_change c.slots m.replyid

  is : IsLinkChange c.slots m change
  unfolding change
  is = is_change c.slots m

  -- the header of the base with the new count, before the old headers
  active : BaseHeader
  active = record (base_header shape c) { active = live_count (with_last c m).slots }

  active_is : with_number 12 (live_count (with_last c m).slots) (layout shape c).jhr ≡ base_text active ++ headers (link_of c.slots) shape.kind c.slots
  unfolding active
  active_is =
      let h : BaseHeader = base_header shape c in
      let long = base_length h in
      written_before (base_text h) (headers (link_of c.slots) shape.kind c.slots) _ 12 (omega (arith, long))
      ∙ ap (λ (xs : List ℕ). xs ++ headers (link_of c.slots) shape.kind c.slots) (active_written h (live_count (with_last c m).slots))

  last_is : entry_text shape.kind (sum_by body_size c.slots) (entry_with (1 + length c.slots) (link_of (with_last c m).slots (1 + length c.slots)) m) ≡ last_header shape c m
  last_is =
      let number : 1 + length c.slots ≡ suc (length c.slots) = omega arith in
      (λ i. entry_text shape.kind (sym jdt_long i) (entry_with (number i) (link_of (with_last c m).slots (number i)) m))
      ∙ (λ i. entry_text shape.kind (length (layout shape c).jdt) (entry_with (suc (length c.slots)) (is.last i) m))

  pub appended_one : OneAppend shape c m
  unfolding change active
  appended_one = record {
    jhr = jhr_more shape c c.counter m
        ∙ (sym (append_assoc (base_text active) (headers (link_of (with_last c m).slots) shape.kind c.slots) _)
        ∙ ((λ i. sym (relinked shape.kind c.slots change (link_of c.slots) (link_of (with_last c m).slots) (base_text active) is.older is.links (base_length active)) i ++ last_is i)
        ∙ ap (λ (xs : List ℕ). with_link c.slots change xs ++ last_header shape c m) (sym active_is)));
    jdt = jdt_more shape c c.counter m;
    jdx = jdx_more shape c c.counter m ∙ (λ i. (layout shape c).jdx ++ index_text (pair_of m (sym jhr_long i)));
    jlr = refl;
    older = older_within shape.kind c.slots change (link_of c.slots) (base_text (base_header shape c)) is.older (base_length (base_header shape c));
  }
