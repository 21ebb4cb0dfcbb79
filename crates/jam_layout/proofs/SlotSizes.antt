-- How many bytes the slots and the readers have in the files.
use Rattle.std.proofs.Common.{◌≡◌, ℕ, ◌+◌, ◌*◌, ◌^◌, ◌≤◌, ◌<◌, List, [], ◌∷◌, length, refl, arith, length-append}
use Rattle.std.specs.Prelude.{All, sum_by}
use Rattle.std.proofs.lemmas.List.Sums.{sum_by-cons}
use Rattle.std.proofs.lemmas.List.Elements.{All-cons, All-nil, All-drop}
use Rattle.jam_records.specs.BaseHeaders.{base_text}
use Rattle.jam_records.specs.IndexRecords.{index_text}
use Rattle.jam_records.specs.LastReads.{last_text}
use Rattle.jam_records.specs.declared.index_record.IndexRecord.{IndexRecord}
use Rattle.jam_records.specs.declared.last_read.LastRead.{LastRead}
use Rattle.jam_records.specs.declared.message.Kind.{Kind}
use Rattle.jam_records.specs.declared.message.Message.{Message}
use Rattle.jam_records.specs.declared.message.Slot.{Slot}
use Rattle.jam_records.specs.declared.message.Slot.TheVariants.{Gone, Held}
use Rattle.jam_threads.specs.Links.{link_of}
use Rattle.jam_threads.specs.declared.link.Link.{Link}
use Rattle.jam_layout.specs.Layout.{entries_of, entries_in, base_header, layout, files_size}
use Rattle.jam_layout.specs.Bodies.{bodies_text}
use Rattle.jam_layout.specs.Headers.{headers_text, header_size, entry_text}
use Rattle.jam_layout.specs.Index.{index_records, no_pair, pair_of}
use Rattle.jam_layout.specs.Readers.{last_read, last_reads}
use Rattle.jam_layout.specs.Sizes.{slot_header, slot_size}
use Rattle.jam_layout.specs.Reader.{IsReader}
use Rattle.jam_layout.specs.Valid.{Rise, IsConference}
use Rattle.jam_layout.specs.declared.conference.ConferenceContents.{ConferenceContents}
use Rattle.jam_layout.specs.declared.entry.HeaderEntry.{HeaderEntry}
use Rattle.jam_layout.specs.declared.reader.Reader.{Reader}
use Rattle.jam_layout.specs.declared.shape.Shape.{Shape}
use Rattle.jam_layout.proofs.BaseLaws.{base_length}
use Rattle.jam_layout.proofs.EntryLaws.{entry_length}
use Rattle.jam_layout.proofs.LayoutBounds.{layout_fits}

-- ---- lengths of records
index_length : (pair : IndexRecord) → length (index_text pair) ≡ 8
unfolding index_text
index_length pair = omega arith

pub last_length : (r : LastRead) → length (last_text r) ≡ 16
unfolding last_text
last_length r = omega arith

pub readers_length : (readers : List Reader) (pointers : List ℕ) → length pointers ≡ length readers → length (last_reads readers pointers) ≡ 16 * length readers
readers_length [] pointers same = refl
readers_length (r ∷ readers) [] same = absurd (omega (arith, same))
readers_length (r ∷ readers) (p ∷ pointers) same =
    omega (arith, length-append (last_text (last_read r p)) (last_reads readers pointers), last_length (last_read r p), readers_length readers pointers (omega (arith, same)))

-- ---- slots
abbrev entry_at : (ℕ → Link) → ℕ → Message → HeaderEntry
entry_at links n m = record { number = n; text_len = length m.body; link = links n; message = m }

-- the headers, the bodies and the index of slots have together what each of the slots has
parts_length : (kind : Kind) (links : ℕ → Link) (offset n at : ℕ) (slots : List Slot)
    → length (headers_text kind offset (entries_of links n slots)) + (length (bodies_text (entries_of links n slots)) + length (index_records at slots)) ≡ sum_by slot_size slots
parts_length kind links offset n at [] = refl
parts_length kind links offset n at (Gone ∷ slots) =
    omega (arith, parts_length kind links offset (n + 1) at slots, length-append (index_text no_pair) (index_records at slots), index_length no_pair, sum_by-cons slot_size Gone slots)
parts_length kind links offset n at (Held m ∷ slots) =
    let e : HeaderEntry = entry_at links n m in
    let es : List HeaderEntry = entries_of links (n + 1) slots in
    let later : ℕ = at + header_size m in
    let headers = length-append (entry_text kind offset e) (headers_text kind (offset + length m.body) es) in
    let bodies = length-append m.body (bodies_text es) in
    let index = length-append (index_text (pair_of m at)) (index_records later slots) in
    omega (arith, parts_length kind links (offset + length m.body) (n + 1) later slots, headers, entry_length kind offset e, bodies, index, index_length (pair_of m at), sum_by-cons slot_size (Held m) slots)

-- no header is longer than all of them
headers_within : (kind : Kind) (links : ℕ → Link) (offset n most : ℕ) (slots : List Slot) → length (headers_text kind offset (entries_of links n slots)) < most → All (λ slot. slot_header slot < most) slots
headers_within kind links offset n most [] small = All-nil (λ slot. slot_header slot < most)
headers_within kind links offset n most (Gone ∷ slots) small =
    All-cons (λ slot. slot_header slot < most) Gone slots (omega (arith, small)) (headers_within kind links offset (n + 1) most slots small)
headers_within kind links offset n most (Held m ∷ slots) small =
    let e : HeaderEntry = entry_at links n m in
    let es : List HeaderEntry = entries_of links (n + 1) slots in
    let headers = length-append (entry_text kind offset e) (headers_text kind (offset + length m.body) es) in
    let long = entry_length kind offset e in
    All-cons (λ slot. slot_header slot < most) (Held m) slots (omega (arith, small, headers, long)) (headers_within kind links (offset + length m.body) (n + 1) most slots (omega (arith, small, headers)))

abbrev links_in : ConferenceContents → ℕ → Link
links_in c = link_of c.slots

jhr_length : (shape : Shape) (c : ConferenceContents) → length (layout shape c).jhr ≡ 1024 + length (headers_text shape.kind 0 (entries_in c))
jhr_length shape c = omega (arith, length-append (base_text (base_header shape c)) (headers_text shape.kind 0 (entries_in c)), base_length (base_header shape c))

pub slots_small : (shape : Shape) (c : ConferenceContents) → IsConference shape c → sum_by slot_size c.slots < 2 ^ 33
slots_small shape c ok =
    let fit = layout_fits shape c ok in
    let jhr = fit.jhr.1 in
    let jdt = fit.jdt.1 in
    let jdx = fit.jdx.1 in
    omega (arith, jhr, jdt, jdx, jhr_length shape c, parts_length shape.kind (links_in c) 0 1 1024 c.slots)

pub size_is : (shape : Shape) (c : ConferenceContents) → IsConference shape c → files_size (layout shape c) ≡ 1024 + sum_by slot_size c.slots + 16 * length shape.readers
size_is shape c ok = omega (arith, jhr_length shape c, parts_length shape.kind (links_in c) 0 1 1024 c.slots, readers_length shape.readers c.pointers ok.pointers.all)

-- ---- readers
rise_span : (most : ℕ) (r : Reader) (readers : List Reader) → Rise (r ∷ readers) → All (λ q. q.id < most) (r ∷ readers) → r.id + length readers < most
rise_span most r [] rise below = omega (arith, below 0 r (omega arith))
rise_span most r (s ∷ readers) rise below =
    omega (arith, rise.0, rise_span most s readers rise.1 (All-drop (λ q. q.id < most) 1 (r ∷ s ∷ readers) below))

ids_small : (readers : List Reader) → All IsReader readers → All (λ q. q.id < 2 ^ 32) readers
ids_small readers fits = λ k d within. (fits k d within).0

-- there are no more readers than ids
pub few_readers : (readers : List Reader) → Rise readers → All IsReader readers → length readers ≤ 2 ^ 32
few_readers [] rise fits = omega arith
few_readers (r ∷ readers) rise fits = omega (arith, rise_span (2 ^ 32) r readers rise (ids_small (r ∷ readers) fits))
