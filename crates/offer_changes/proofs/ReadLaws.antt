-- Bases that a user acknowledges up to their highs: they keep their shapes, their slots are as many, and their files as long.
use Rattle.std.proofs.Common.{◌≡◌, ℕ, zero, suc, ◌+◌, ◌<◌, ◌≤◌, ◌^◌, Bool, true, false, cond, ◌&&◌, leb, List, [], ◌∷◌, length, get_or, set, refl, sym, ap, ◌∙◌, subst, arith, length-append}
use Rattle.std.specs.Prelude.{All, slice_get, Option, Some, None, sum_by}
use Rattle.std.specs.List.{list_all}
use Rattle.std.proofs.lemmas.Bool.{and_parts, le-ltb, leb-true}
use Rattle.std.proofs.lemmas.List.Elements.{All-cons, All-drop, All-nil}
use Rattle.std.proofs.lemmas.List.Sums.{sum_by-cons}
use Rattle.std.proofs.lemmas.Option.{none-some, same_Some}
use Rattle.board_layout.proofs.BasePlaces.{IsBase}
use Rattle.board_layout.specs.Board.{conferences_in, shapes_in}
use Rattle.board_layout.specs.Layout.{base_size}
use Rattle.board_layout.specs.Valid.{highs_fit, offers_fit}
use Rattle.open_offers.specs.declared.offer.OpenOffer.{OpenOffer}
use Rattle.board_layout.proofs.jam_base.ReadingLaws.{acknowledged_count, acknowledged_is, acknowledged_shape, either, reading_files, received_to}
use Rattle.board_layout.specs.jam_base.Contents.{Contents, pointer_of, pointers_with, reader_place, receipt_to, with_acknowledged, with_pointer}
use Rattle.board_layout.specs.jam_base.Slots.{is_due, slot_received, slots_received}
use Rattle.board_layout.specs.jam_base.declared.receipt.Receipt.{Receipt}
use Rattle.jam_layout.proofs.BaseLaws.{base_length}
use Rattle.jam_layout.proofs.EntryLaws.{entry_length}
use Rattle.jam_layout.specs.Fields.{subfields_of}
use Rattle.jam_layout.specs.Headers.{entry_text, header_size, headers_text}
use Rattle.jam_layout.specs.Layout.{base_header, entries_of, entries_in, files_size, layout}
use Rattle.jam_layout.specs.Readers.{last_read, last_reads}
use Rattle.jam_layout.specs.Sizes.{slot_header}
use Rattle.jam_layout.specs.declared.conference.ConferenceContents.{ConferenceContents}
use Rattle.jam_layout.specs.declared.entry.HeaderEntry.{HeaderEntry}
use Rattle.jam_layout.specs.declared.files.BaseFiles.{BaseFiles}
use Rattle.jam_layout.specs.declared.reader.Reader.{Reader}
use Rattle.jam_layout.specs.declared.shape.Shape.{Shape}
use Rattle.jam_records.specs.BaseHeaders.{base_text}
use Rattle.jam_records.specs.LastReads.{last_text}
use Rattle.jam_records.specs.declared.last_read.LastRead.{LastRead}
use Rattle.jam_records.specs.declared.message.Kind.{Kind}
use Rattle.jam_records.specs.declared.message.Message.{Message}
use Rattle.jam_records.specs.declared.message.Slot.{Slot}
use Rattle.jam_records.specs.declared.message.Slot.TheVariants.{Gone, Held}
use Rattle.jam_layout.specs.jam_threads.Links.{link_of}
use Rattle.jam_layout.specs.jam_threads.declared.link.Link.{Link}
use Rattle.offer_changes.specs.Changed.{all_read, is_high_above, read_up_to}

-- ---- marks take no byte
same_header : (m : Message) (now : ℕ) → header_size (record m { seen = true; received = now }) ≡ header_size m
unfolding header_size subfields_of
same_header m now = refl

same_slot : (name : List ℕ) (r : Receipt) (n : ℕ) (slot : Slot) → slot_header (slot_received name r n slot) ≡ slot_header slot
same_slot name r n Gone = refl
same_slot name r n (Held m) = by (is_due name r n m)
  where
    by : (due : Bool) → slot_header (Held (cond due (record m { seen = true; received = r.now }) m)) ≡ slot_header (Held m)
    by true = same_header m r.now
    by false = refl

same_slots : (name : List ℕ) (r : Receipt) (n : ℕ) (slots : List Slot) → sum_by slot_header (slots_received name r n slots) ≡ sum_by slot_header slots
same_slots name r n [] = refl
same_slots name r n (slot ∷ slots) = omega (
  arith,
  same_slot name r n slot,
  same_slots name r (n + 1) slots,
  sum_by-cons slot_header (slot_received name r n slot) (slots_received name r (n + 1) slots),
  sum_by-cons slot_header slot slots,
)

headers_length : (kind : Kind) (links : ℕ → Link) (offset n : ℕ) (slots : List Slot) → length (headers_text kind offset (entries_of links n slots)) ≡ sum_by slot_header slots
headers_length kind links offset n [] = refl
headers_length kind links offset n (Gone ∷ slots) = omega (arith, headers_length kind links offset (n + 1) slots, sum_by-cons slot_header Gone slots)
headers_length kind links offset n (Held m ∷ slots) =
    let e : HeaderEntry = record { number = n; text_len = length m.body; link = links n; message = m } in
    let rest : List ℕ = headers_text kind (offset + length m.body) (entries_of links (n + 1) slots) in
    omega (arith, length-append (entry_text kind offset e) rest, entry_length kind offset e, headers_length kind links (offset + length m.body) (n + 1) slots, sum_by-cons slot_header (Held m) slots)

jhr_length : (shape : Shape) (c : ConferenceContents) → length (layout shape c).jhr ≡ 1024 + sum_by slot_header c.slots
jhr_length shape c =
    omega (arith, length-append (base_text (base_header shape c)) (headers_text shape.kind 0 (entries_in c)), base_length (base_header shape c), headers_length shape.kind (link_of c.slots) 0 1 c.slots)

-- ---- nor does a pointer
reader_length : (r : LastRead) → length (last_text r) ≡ 16
unfolding last_text
reader_length r = omega arith

same_readers : (readers : List Reader) (pointers : List ℕ) (place pointer : ℕ) → length (last_reads readers (set pointers place pointer)) ≡ length (last_reads readers pointers)
same_readers [] pointers place pointer = refl
same_readers (r ∷ readers) [] place pointer = refl
same_readers (r ∷ readers) (p ∷ pointers) zero pointer = omega (
  arith,
  length-append (last_text (last_read r pointer)) (last_reads readers pointers),
  length-append (last_text (last_read r p)) (last_reads readers pointers),
  reader_length (last_read r pointer),
  reader_length (last_read r p),
)
same_readers (r ∷ readers) (p ∷ pointers) (suc place) pointer = omega (
  arith,
  length-append (last_text (last_read r p)) (last_reads readers (set pointers place pointer)),
  length-append (last_text (last_read r p)) (last_reads readers pointers),
  same_readers readers pointers place pointer,
)

same_pointers : (readers : List Reader) (pointers : List ℕ) (place : Option ℕ) (pointer : ℕ) → length (last_reads readers (pointers_with place pointer pointers)) ≡ length (last_reads readers pointers)
same_pointers readers pointers None pointer = refl
same_pointers readers pointers (Some place) pointer = same_readers readers pointers place pointer

-- ---- one base
module _ (id : ℕ) (name : List ℕ) (now : ℕ) (high : ℕ) (base : Contents) where
  same_bytes : base_size (with_acknowledged id name high now base) ≡ base_size base
  same_bytes =
      let old : BaseFiles = layout base.shape base.conference in
      let new : BaseFiles = layout base.shape (with_pointer id high (received_to base id name high now)).conference in
      let pointers : length new.jlr ≡ length old.jlr = same_pointers base.shape.readers base.conference.pointers (reader_place id base.shape.readers) high in
      let files : record old { jhr = new.jhr; jlr = new.jlr } ≡ new = reading_files base id name high now in
      let jhr : length new.jhr ≡ length old.jhr = omega (
        arith,
        jhr_length base.shape base.conference,
        jhr_length base.shape (with_pointer id high (received_to base id name high now)).conference,
        same_slots name (receipt_to id high now base) 1 base.conference.slots,
      ) in
      let jdt : length old.jdt ≡ length new.jdt = ap (λ (f : BaseFiles). length f.jdt) files in
      let jdx : length old.jdx ≡ length new.jdx = ap (λ (f : BaseFiles). length f.jdx) files in
      either base id name high now (λ (c : Contents). base_size c ≡ base_size base) (only old new.jlr pointers) (all old new jhr jdt jdx pointers)
    where
      only : (old : BaseFiles) (jlr : List ℕ) → length jlr ≡ length old.jlr → files_size (record old { jlr = jlr }) ≡ files_size old
      only old jlr same = omega (arith, same)

      all : (old new : BaseFiles) → length new.jhr ≡ length old.jhr → length old.jdt ≡ length new.jdt → length old.jdx ≡ length new.jdx → length new.jlr ≡ length old.jlr → files_size new ≡ files_size old
      all old new jhr jdt jdx jlr = omega (arith, jhr, jdt, jdx, jlr)

  -- what holds of the base and of the one acknowledged
  pub read_either : (P : Contents → Type 0) → P base → P (with_acknowledged id name high now base) → P (read_up_to id name now high base)
  read_either P without with = by (is_high_above high (pointer_of id base.shape.readers base.conference.pointers))
    where
      by : (above : Bool) → P (cond above (with_acknowledged id name high now base) base)
      by true = with
      by false = without

  pub read_shape : (read_up_to id name now high base).shape ≡ base.shape
  read_shape = read_either (λ (c : Contents). c.shape ≡ base.shape) refl (acknowledged_shape base id name high now)

  read_count : length (read_up_to id name now high base).conference.slots ≡ length base.conference.slots
  read_count = read_either (λ (c : Contents). length c.conference.slots ≡ length base.conference.slots) refl (acknowledged_count base id name high now)

  read_base : high ≤ length base.conference.slots → now < 2 ^ 32 → IsBase base → IsBase (read_up_to id name now high base)
  read_base most small ok =
      let is : IsBase (with_acknowledged id name high now base) = subst (λ (s : Shape). ofShape s) (sym (acknowledged_shape base id name high now)) (acknowledged_is base id name high now most small ok) in
      read_either IsBase ok is
    where
      ofShape : Shape → Type 0
      ofShape s = IsBase (record { shape = s; conference = (with_acknowledged id name high now base).conference })

  read_bytes : base_size (read_up_to id name now high base) ≡ base_size base
  read_bytes = read_either (λ (c : Contents). base_size c ≡ base_size base) refl same_bytes

-- up to 0 there is nothing to read
none_above : (pointer : Option ℕ) → is_high_above 0 pointer ≡ false
none_above None = refl
none_above (Some pointer) = le-ltb pointer 0 (omega arith)

none_read : (id : ℕ) (name : List ℕ) (now : ℕ) (base : Contents) → read_up_to id name now 0 base ≡ base
none_read id name now base = ap (λ (above : Bool). cond above (with_acknowledged id name 0 now base) base) (none_above (pointer_of id base.shape.readers base.conference.pointers))

-- ---- all bases
module _ (id : ℕ) (name : List ℕ) (now : ℕ) where
  pub all_shapes : (bases : List Contents) (highs : List ℕ) → shapes_in (all_read id name now bases highs) ≡ shapes_in bases
  all_shapes [] highs = refl
  all_shapes (base ∷ bases) [] = refl
  all_shapes (base ∷ bases) (high ∷ highs) = λ i. read_shape id name now high base i ∷ all_shapes bases highs i

  pub all_count : (bases : List Contents) (highs : List ℕ) → length (all_read id name now bases highs) ≡ length bases
  all_count [] highs = refl
  all_count (base ∷ bases) [] = refl
  all_count (base ∷ bases) (high ∷ highs) = ap suc (all_count bases highs)

  all_slots : (bases : List Contents) (highs others : List ℕ) → highs_fit (conferences_in (all_read id name now bases highs)) others ≡ highs_fit (conferences_in bases) others
  all_slots [] highs others = refl
  all_slots (base ∷ bases) [] others = refl
  all_slots (base ∷ bases) (high ∷ highs) [] = refl
  all_slots (base ∷ bases) (high ∷ highs) (other ∷ others) = λ i. leb other (read_count id name now high base i) && all_slots bases highs others i

  pub all_offers : (bases : List Contents) (highs : List ℕ) (offers : List OpenOffer) → offers_fit (conferences_in (all_read id name now bases highs)) offers ≡ offers_fit (conferences_in bases) offers
  all_offers bases highs offers = λ i. list_all (λ (o : OpenOffer). all_slots bases highs o.highs i) offers

  pub all_bases : (bases : List Contents) (highs : List ℕ) → now < 2 ^ 32 → highs_fit (conferences_in bases) highs ≡ true → All IsBase bases → All IsBase (all_read id name now bases highs)
  all_bases [] highs small fit all = All-nil IsBase
  all_bases (base ∷ bases) [] small fit all = all
  all_bases (base ∷ bases) (high ∷ highs) small fit all =
      let parts = and_parts (leb high (length base.conference.slots)) (highs_fit (conferences_in bases) highs) fit in
      let low = leb-true high (length base.conference.slots) parts.0 in
      All-cons IsBase (read_up_to id name now high base) (all_read id name now bases highs) (read_base id name now high base low small (all 0 base (omega arith)))
      (all_bases bases highs small parts.1 (All-drop IsBase 1 (base ∷ bases) all))

  pub all_sizes : (bases : List Contents) (highs : List ℕ) → sum_by base_size (all_read id name now bases highs) ≡ sum_by base_size bases
  all_sizes [] highs = refl
  all_sizes (base ∷ bases) [] = refl
  all_sizes (base ∷ bases) (high ∷ highs) = omega (
    arith,
    read_bytes id name now high base,
    all_sizes bases highs,
    sum_by-cons base_size (read_up_to id name now high base) (all_read id name now bases highs),
    sum_by-cons base_size base bases,
  )

  -- what stands in a place
  pub read_at : (bases : List Contents) (highs : List ℕ) (place : ℕ) (base : Contents) → slice_get bases place ≡ Some base → slice_get (all_read id name now bases highs) place ≡ Some (read_up_to id name now (get_or highs place 0) base)
  read_at [] highs place base here = absurd (none-some base here)
  read_at (b ∷ bases) [] place base here = here ∙ ap Some (sym (none_read id name now base))
  read_at (b ∷ bases) (high ∷ highs) zero base here = ap (λ (c : Contents). Some (read_up_to id name now high c)) (same_Some b base here)
  read_at (b ∷ bases) (high ∷ highs) (suc place) base here = read_at bases highs place base here

pub high_within : (bases : List Contents) (highs : List ℕ) (place : ℕ) (base : Contents) → highs_fit (conferences_in bases) highs ≡ true → slice_get bases place ≡ Some base → get_or highs place 0 ≤ length base.conference.slots
high_within [] highs place base fit here = absurd (none-some base here)
high_within (b ∷ bases) [] place base fit here = omega arith
high_within (b ∷ bases) (high ∷ highs) zero base fit here =
    let parts = and_parts (leb high (length b.conference.slots)) (highs_fit (conferences_in bases) highs) fit in
    omega (arith, leb-true high (length b.conference.slots) parts.0, ap (λ (c : Contents). length c.conference.slots) (same_Some b base here))
high_within (b ∷ bases) (high ∷ highs) (suc place) base fit here =
    high_within bases highs place base (and_parts (leb high (length b.conference.slots)) (highs_fit (conferences_in bases) highs) fit).1 here
