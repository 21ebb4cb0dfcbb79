-- The files of a conference are bytes, and how long they are at most, from what its slots may hold.
use Rattle.std.proofs.Common.{◌≡◌, ℕ, zero, suc, true, ◌+◌, ◌*◌, ◌^◌, ◌≤◌, ◌<◌, List, [], ◌∷◌, ◌++◌, length, sym, subst, arith, length-append, inl, inr}
use Rattle.std.specs.Prelude.{All, IsTrue, replicate, decimal, ◌&&◌, nat_le}
use Rattle.std.proofs.lemmas.Bool.{and_parts, leb-true}
use Rattle.std.proofs.lemmas.Fmt.{length-decimal-le}
use Rattle.std.proofs.lemmas.List.Elements.{All-nil, All-cons, All-append, All-drop, All-replicate}
use Rattle.jam_records.specs.byte_lists.Byte.{IsByte}
use Rattle.jam_records.proofs.record_numbers.NumberLemmas.{number_bytes}
use Rattle.jam_records.specs.record_numbers.Numbers.{u16_text, u32_text, u32s_text}
use Rattle.jam_records.specs.Addresses.{IsPart, point_text}
use Rattle.jam_records.specs.BaseHeaders.{base_fields, base_text}
use Rattle.jam_records.specs.IndexRecords.{index_fields, index_text}
use Rattle.jam_records.specs.LastReads.{last_fields, last_text}
use Rattle.jam_records.specs.MessageHeaders.{message_fields, header_text}
use Rattle.jam_records.specs.Signature.{signature}
use Rattle.jam_records.specs.Subfields.{subfield_text, subfields_text}
use Rattle.jam_records.specs.declared.base_header.BaseHeader.{BaseHeader}
use Rattle.jam_records.specs.declared.index_record.IndexRecord.{IndexRecord}
use Rattle.jam_records.specs.declared.last_read.LastRead.{LastRead}
use Rattle.jam_records.specs.declared.message.Kind.{Kind}
use Rattle.jam_records.specs.declared.message.Message.{Message}
use Rattle.jam_records.specs.declared.message.Slot.{Slot}
use Rattle.jam_records.specs.declared.message.Slot.TheVariants.{Gone, Held}
use Rattle.jam_records.specs.declared.message_header.MessageHeader.{MessageHeader}
use Rattle.jam_records.specs.declared.subfield.Subfield.{Subfield}
use Rattle.jam_threads.specs.declared.link.Link.{Link}
use Rattle.jam_layout.specs.Address.{is_address}
use Rattle.jam_layout.specs.Bodies.{bodies_text}
use Rattle.jam_layout.specs.Fields.{value_subfields, subfields_of, is_text}
use Rattle.jam_layout.specs.Headers.{message_header, entry_text, headers_text, header_size}
use Rattle.jam_layout.specs.Index.{no_pair, pair_of, index_records}
use Rattle.jam_layout.specs.Layout.{entries_of, entries_in, base_header, layout}
use Rattle.jam_layout.specs.Messages.{EmptyOr, AreBytes, IsMessage, IsSlot}
use Rattle.jam_layout.specs.Readers.{last_read, last_reads}
use Rattle.jam_layout.specs.Valid.{BaseFilesFit, IsConference}
use Rattle.jam_layout.specs.declared.conference.ConferenceContents.{ConferenceContents}
use Rattle.jam_layout.specs.declared.entry.HeaderEntry.{HeaderEntry}
use Rattle.jam_layout.specs.declared.reader.Reader.{Reader}
use Rattle.jam_layout.specs.declared.shape.Shape.{Shape}
use Rattle.jam_layout.proofs.AddressLaws.{test_is}
use Rattle.jam_layout.proofs.BaseLaws.{base_length}
use Rattle.jam_layout.proofs.SlotLaws.{index_length}
use Rattle.jam_layout.proofs.EntryLaws.{entry_length}
use Rattle.jam_layout.proofs.FieldLaws.{subfield}
use Rattle.jam_layout.proofs.SizeLaws.{field_length, whole_length}
use Rattle.jam_layout.proofs.ValueLaws.{texts}
use Rattle.jam_threads.specs.Links.{link_of}

-- ---- records are bytes
both : (xs ys : List ℕ) → All IsByte xs → All IsByte ys → All IsByte (xs ++ ys)
both xs ys all others = All-append IsByte xs ys all others

numbers_bytes : (numbers : List ℕ) → All IsByte (u32s_text numbers)
numbers_bytes [] = All-nil IsByte
numbers_bytes (n ∷ numbers) = both (u32_text n) (u32s_text numbers) (number_bytes 0 4 n) (numbers_bytes numbers)

signature_bytes : All IsByte signature
signature_bytes = All-cons IsByte 0x4A (0x41 ∷ 0x4D ∷ 0 ∷ []) (omega arith) (All-cons IsByte 0x41 (0x4D ∷ 0 ∷ []) (omega arith) (All-cons IsByte 0x4D (0 ∷ []) (omega arith) (All-cons IsByte 0 [] (omega arith) (All-nil IsByte))))

base_bytes : (h : BaseHeader) → All IsByte (base_text h)
unfolding base_text
base_bytes h =
    both signature (u32s_text (base_fields h) ++ replicate 1000 0) signature_bytes (both (u32s_text (base_fields h)) (replicate 1000 0) (numbers_bytes (base_fields h)) (All-replicate IsByte 1000 0 (omega arith)))

header_bytes : (h : MessageHeader) → All IsByte (header_text h)
unfolding header_text
header_bytes h =
    both signature (u16_text 1 ++ (u16_text 0 ++ u32s_text (message_fields h))) signature_bytes
    (both (u16_text 1) (u16_text 0 ++ u32s_text (message_fields h)) (number_bytes 0 2 1) (both (u16_text 0) (u32s_text (message_fields h)) (number_bytes 0 2 0) (numbers_bytes (message_fields h))))

pair_bytes : (pair : IndexRecord) → All IsByte (index_text pair)
unfolding index_text
pair_bytes pair = numbers_bytes (index_fields pair)

last_bytes : (r : LastRead) → All IsByte (last_text r)
unfolding last_text
last_bytes r = numbers_bytes (last_fields r)

subfield_bytes : (s : Subfield) → All IsByte s.value → All IsByte (subfield_text s)
unfolding subfield_text
subfield_bytes s value =
    both (u16_text s.lo) (u16_text s.hi ++ (u32_text (length s.value) ++ s.value)) (number_bytes 0 2 s.lo)
    (both (u16_text s.hi) (u32_text (length s.value) ++ s.value) (number_bytes 0 2 s.hi) (both (u32_text (length s.value)) s.value (number_bytes 0 4 (length s.value)) value))

field_bytes : (id : ℕ) (value : List ℕ) → All IsByte value → All IsByte (subfields_text (value_subfields id value))
field_bytes id [] all = All-nil IsByte
field_bytes id (b ∷ value) all = both (subfield_text (subfield id (b ∷ value))) [] (subfield_bytes (subfield id (b ∷ value)) all) (All-nil IsByte)

subfields_bytes : (m : Message) → AreBytes m → All IsByte (subfields_text (subfields_of m))
unfolding subfields_of
subfields_bytes m bytes =
    let a : List ℕ = subfields_text (value_subfields 0 m.origin) in
    let b : List ℕ = subfields_text (value_subfields 1 m.destination) in
    let c : List ℕ = subfields_text (value_subfields 2 m.from) in
    let d : List ℕ = subfields_text (value_subfields 3 m.to) in
    let e : List ℕ = subfields_text (value_subfields 4 m.msgid) in
    let f : List ℕ = subfields_text (value_subfields 5 m.replyid) in
    let g : List ℕ = subfields_text (value_subfields 6 m.subject) in
    let ids : All IsByte (e ++ (f ++ g)) = both e (f ++ g) (field_bytes 4 m.msgid bytes.msgid) (both f g (field_bytes 5 m.replyid bytes.replyid) (field_bytes 6 m.subject bytes.subject)) in
    let names : All IsByte (c ++ (d ++ (e ++ (f ++ g)))) = both c (d ++ (e ++ (f ++ g))) (field_bytes 2 m.from bytes.from) (both d (e ++ (f ++ g)) (field_bytes 3 m.to bytes.to) ids) in
    let all : All IsByte (a ++ (b ++ (c ++ (d ++ (e ++ (f ++ g)))))) = both a (b ++ (c ++ (d ++ (e ++ (f ++ g))))) (field_bytes 0 m.origin bytes.origin) (both b (c ++ (d ++ (e ++ (f ++ g)))) (field_bytes 1 m.destination bytes.destination) names) in
    subst (All IsByte) (sym (texts (value_subfields 0 m.origin) (value_subfields 1 m.destination) (value_subfields 2 m.from) (value_subfields 3 m.to) (value_subfields 4 m.msgid) (value_subfields 5 m.replyid) (value_subfields 6 m.subject))) all

-- ---- lengths of texts
text_at_most : (most : ℕ) (text : List ℕ) → IsTrue (is_text most text) → length text ≤ most
unfolding is_text
text_at_most most text ok =
    let a = and_parts (nat_le 1 (length text) && nat_le (length text) most) _ ok in
    let b = and_parts (nat_le 1 (length text)) (nat_le (length text) most) a.0 in
    leb-true (length text) most b.1

maybe_at_most : (most : ℕ) (text : List ℕ) → EmptyOr (is_text most) text → length text ≤ most
maybe_at_most most text (inl none) = omega (arith, none)
maybe_at_most most text (inr ok) = text_at_most most text ok

part_at_most : (n : ℕ) → IsPart n → length (decimal n) ≤ 5
part_at_most n small = length-decimal-le 5 n (omega arith) (omega arith) (omega arith)

point_at_most : (n : ℕ) → IsPart n → length (point_text n) ≤ 6
point_at_most zero small = omega arith
point_at_most (suc n) small = omega (arith, part_at_most (suc n) small)

pub address_most : (text : List ℕ) → is_address text ≡ true → length text ≤ 23
address_most text ok =
    let a = test_is text ok in
    let node : List ℕ = decimal a.node ++ point_text a.point in
    let net : List ℕ = decimal a.net ++ (47 ∷ node) in
    let whole : length text ≡ length (decimal a.zone ++ (58 ∷ net)) = λ i. length (a.whole i) in
    omega (
      arith,
      whole,
      length-append (decimal a.zone) (58 ∷ net),
      length-append (decimal a.net) (47 ∷ node),
      length-append (decimal a.node) (point_text a.point),
      part_at_most a.zone a.small.0,
      part_at_most a.net a.small.1,
      part_at_most a.node a.small.2,
      point_at_most a.point a.small.3,
    )

address_at_most : (text : List ℕ) → EmptyOr is_address text → length text ≤ 23
address_at_most text (inl none) = omega (arith, none)
address_at_most text (inr ok) = address_most text ok

field_at_most : (id most : ℕ) (value : List ℕ) → length value ≤ most → length (subfields_text (value_subfields id value)) ≤ 8 + most
field_at_most id most [] le = omega arith
field_at_most id most (b ∷ value) le = omega (arith, field_length id (b ∷ value) (omega arith), le)

pub size_at_most : (kind : Kind) (m : Message) → IsMessage kind m → header_size m ≤ 482
unfolding header_size
size_at_most kind m ok =
    omega (
      arith,
      whole_length m,
      field_at_most 0 23 m.origin (address_at_most m.origin ok.origin),
      field_at_most 1 23 m.destination (address_at_most m.destination ok.destination),
      field_at_most 2 36 m.from (text_at_most 36 m.from ok.from),
      field_at_most 3 36 m.to (text_at_most 36 m.to ok.to),
      field_at_most 4 80 m.msgid (text_at_most 80 m.msgid ok.msgid),
      field_at_most 5 80 m.replyid (maybe_at_most 80 m.replyid ok.replyid),
      field_at_most 6 72 m.subject (maybe_at_most 72 m.subject ok.subject),
    )

-- ---- the texts of slots
abbrev entry_at : (ℕ → Link) → ℕ → Message → HeaderEntry
entry_at links n m = record { number = n; text_len = length m.body; link = links n; message = m }

tail : (kind : Kind) (s : Slot) (slots : List Slot) → All (IsSlot kind) (s ∷ slots) → All (IsSlot kind) slots
tail kind s slots all = All-drop (IsSlot kind) 1 (s ∷ slots) all

head : (kind : Kind) (m : Message) (slots : List Slot) → All (IsSlot kind) (Held m ∷ slots) → IsMessage kind m
head kind m slots all = all 0 Gone (omega arith)

headers_bytes : (links : ℕ → Link) (kind : Kind) (offset n : ℕ) (slots : List Slot) → All (IsSlot kind) slots → All IsByte (headers_text kind offset (entries_of links n slots))
headers_bytes links kind offset n [] all = All-nil IsByte
headers_bytes links kind offset n (Gone ∷ slots) all = headers_bytes links kind offset (n + 1) slots (tail kind Gone slots all)
headers_bytes links kind offset n (Held m ∷ slots) all =
    let e : HeaderEntry = entry_at links n m in
    let rest : List ℕ = headers_text kind (offset + length m.body) (entries_of links (n + 1) slots) in
    both (entry_text kind offset e) rest (both (header_text (message_header kind offset e)) (subfields_text (subfields_of m)) (header_bytes (message_header kind offset e)) (subfields_bytes m (head kind m slots all).bytes))
    (headers_bytes links kind (offset + length m.body) (n + 1) slots (tail kind (Held m) slots all))

headers_at_most : (links : ℕ → Link) (kind : Kind) (offset n : ℕ) (slots : List Slot) → All (IsSlot kind) slots → length (headers_text kind offset (entries_of links n slots)) ≤ 482 * length slots
headers_at_most links kind offset n [] all = omega arith
headers_at_most links kind offset n (Gone ∷ slots) all = omega (arith, headers_at_most links kind offset (n + 1) slots (tail kind Gone slots all))
headers_at_most links kind offset n (Held m ∷ slots) all =
    let e : HeaderEntry = entry_at links n m in
    let rest : List ℕ = headers_text kind (offset + length m.body) (entries_of links (n + 1) slots) in
    omega (arith, length-append (entry_text kind offset e) rest, entry_length kind offset e, size_at_most kind m (head kind m slots all), headers_at_most links kind (offset + length m.body) (n + 1) slots (tail kind (Held m) slots all))

bodies_bytes : (links : ℕ → Link) (kind : Kind) (n : ℕ) (slots : List Slot) → All (IsSlot kind) slots → All IsByte (bodies_text (entries_of links n slots))
bodies_bytes links kind n [] all = All-nil IsByte
bodies_bytes links kind n (Gone ∷ slots) all = bodies_bytes links kind (n + 1) slots (tail kind Gone slots all)
bodies_bytes links kind n (Held m ∷ slots) all =
    both m.body (bodies_text (entries_of links (n + 1) slots)) (head kind m slots all).bytes.body (bodies_bytes links kind (n + 1) slots (tail kind (Held m) slots all))

bodies_at_most : (links : ℕ → Link) (kind : Kind) (n : ℕ) (slots : List Slot) → All (IsSlot kind) slots → length (bodies_text (entries_of links n slots)) ≤ 16384 * length slots
bodies_at_most links kind n [] all = omega arith
bodies_at_most links kind n (Gone ∷ slots) all = omega (arith, bodies_at_most links kind (n + 1) slots (tail kind Gone slots all))
bodies_at_most links kind n (Held m ∷ slots) all =
    let body = (head kind m slots all).body in
    omega (arith, length-append m.body (bodies_text (entries_of links (n + 1) slots)), body, bodies_at_most links kind (n + 1) slots (tail kind (Held m) slots all))

index_bytes : (at : ℕ) (slots : List Slot) → All IsByte (index_records at slots)
index_bytes at [] = All-nil IsByte
index_bytes at (Gone ∷ slots) = both (index_text no_pair) (index_records at slots) (pair_bytes no_pair) (index_bytes at slots)
index_bytes at (Held m ∷ slots) = both (index_text (pair_of m at)) (index_records (at + header_size m) slots) (pair_bytes (pair_of m at)) (index_bytes (at + header_size m) slots)

lasts_bytes : (readers : List Reader) (pointers : List ℕ) → All IsByte (last_reads readers pointers)
lasts_bytes [] pointers = All-nil IsByte
lasts_bytes (r ∷ readers) [] = All-nil IsByte
lasts_bytes (r ∷ readers) (p ∷ pointers) = both (last_text (last_read r p)) (last_reads readers pointers) (last_bytes (last_read r p)) (lasts_bytes readers pointers)

-- ---- the four files
pub layout_fits : (shape : Shape) (c : ConferenceContents) → IsConference shape c → BaseFilesFit (layout shape c)
layout_fits shape c ok =
    let links : ℕ → Link = link_of c.slots in
    let base : List ℕ = base_text (base_header shape c) in
    let headers : List ℕ = headers_text shape.kind 0 (entries_in c) in
    let few = ok.few in
    let long = headers_at_most links shape.kind 0 1 c.slots ok.slots in
    let most : length (base ++ headers) < 2 ^ 31 = omega (arith, length-append base headers, base_length (base_header shape c), long, few) in
    record {
      jhr = (both base headers (base_bytes (base_header shape c)) (headers_bytes links shape.kind 0 1 c.slots ok.slots), most);
      jdt = (bodies_bytes links shape.kind 1 c.slots ok.slots, omega (arith, bodies_at_most links shape.kind 1 c.slots ok.slots, few));
      jdx = (index_bytes 1024 c.slots, omega (arith, index_length 1024 c.slots, few));
      jlr = lasts_bytes shape.readers c.pointers;
    }
