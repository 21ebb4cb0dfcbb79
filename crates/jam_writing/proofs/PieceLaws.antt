-- The files of slots are the pieces of each slot, one after the other.
use Rattle.std.proofs.Common.{◌≡◌, ℕ, ◌+◌, ◌^◌, ◌<◌, List, [], ◌∷◌, ◌++◌, length, refl, ap, arith, length-append}
use Rattle.std.specs.Prelude.{sum_by}
use Rattle.std.specs.List.{flat_map}
use Rattle.std.proofs.lemmas.List.Sums.{sum_by-cons}
use Rattle.jam_records.specs.IndexRecords.{index_text}
use Rattle.jam_records.specs.declared.message.Kind.{Kind}
use Rattle.jam_records.specs.declared.message.Slot.{Slot}
use Rattle.jam_records.specs.declared.message.Slot.TheVariants.{Gone, Held}
use Rattle.jam_layout.specs.jam_threads.Links.{link_of}
use Rattle.jam_layout.specs.jam_threads.declared.link.Link.{Link}
use Rattle.jam_layout.specs.Bodies.{bodies_text}
use Rattle.jam_layout.specs.Headers.{headers_text, entry_text}
use Rattle.jam_layout.specs.Index.{index_records, no_pair}
use Rattle.jam_layout.specs.Layout.{base_header, entries_of, entries_in}
use Rattle.jam_records.specs.BaseHeaders.{base_text}
use Rattle.jam_layout.specs.Sizes.{slot_header}
use Rattle.jam_layout.specs.Valid.{IsConference}
use Rattle.jam_layout.specs.declared.conference.ConferenceContents.{ConferenceContents}
use Rattle.jam_layout.specs.declared.entry.HeaderEntry.{HeaderEntry}
use Rattle.jam_layout.specs.declared.shape.Shape.{Shape}
use Rattle.jam_layout.proofs.BaseLaws.{base_length}
use Rattle.jam_layout.proofs.EntryLaws.{entry_length}
use Rattle.jam_layout.proofs.LayoutBounds.{layout_fits}
use Rattle.jam_writing.specs.Pieces.{entry_with, header_piece, body_piece, body_size, index_piece}

-- ---- one slot and those behind it
pub headers_more : (links : ℕ → Link) (kind : Kind) (offset n : ℕ) (s : Slot) (slots : List Slot)
    → headers_text kind offset (entries_of links n (s ∷ slots)) ≡ header_piece kind offset n (links n) s ++ headers_text kind (offset + body_size s) (entries_of links (n + 1) slots)
headers_more links kind offset n Gone slots = let same : offset ≡ offset + 0 = omega arith in ap (λ at. headers_text kind at (entries_of links (n + 1) slots)) same
headers_more links kind offset n (Held m) slots = refl

pub index_more : (at : ℕ) (s : Slot) (slots : List Slot) → index_records at (s ∷ slots) ≡ index_piece at s ++ index_records (at + slot_header s) slots
index_more at Gone slots = let same : at ≡ at + 0 = omega arith in ap (λ n. index_text no_pair ++ index_records n slots) same
index_more at (Held m) slots = refl

pub bodies_are : (links : ℕ → Link) (n : ℕ) (slots : List Slot) → bodies_text (entries_of links n slots) ≡ flat_map body_piece slots
bodies_are links n [] = refl
bodies_are links n (Gone ∷ slots) = bodies_are links (n + 1) slots
bodies_are links n (Held m ∷ slots) = ap (λ xs. m.body ++ xs) (bodies_are links (n + 1) slots)

-- ---- lengths
pub headers_length : (links : ℕ → Link) (kind : Kind) (offset n : ℕ) (slots : List Slot) → length (headers_text kind offset (entries_of links n slots)) ≡ sum_by slot_header slots
headers_length links kind offset n [] = refl
headers_length links kind offset n (Gone ∷ slots) = omega (arith, headers_length links kind offset (n + 1) slots, sum_by-cons slot_header Gone slots)
headers_length links kind offset n (Held m ∷ slots) =
    let e : HeaderEntry = entry_with n (links n) m in
    let rest : List ℕ = headers_text kind (offset + length m.body) (entries_of links (n + 1) slots) in
    omega (arith, length-append (entry_text kind offset e) rest, entry_length kind offset e, headers_length links kind (offset + length m.body) (n + 1) slots, sum_by-cons slot_header (Held m) slots)

pub bodies_length : (slots : List Slot) → length (flat_map body_piece slots) ≡ sum_by body_size slots
bodies_length [] = refl
bodies_length (s ∷ slots) = omega (arith, length-append (body_piece s) (flat_map body_piece slots), bodies_length slots, sum_by-cons body_size s slots)

-- the headers of a conference have fewer than 2^31 bytes, and so have its bodies
pub headers_small : (shape : Shape) (c : ConferenceContents) → IsConference shape c → 1024 + sum_by slot_header c.slots < 2 ^ 31
headers_small shape c ok =
    let short = (layout_fits shape c ok).jhr.1 in
    let headers : List ℕ = headers_text shape.kind 0 (entries_in c) in
    omega (arith, short, length-append (base_text (base_header shape c)) headers, base_length (base_header shape c), headers_length (link_of c.slots) shape.kind 0 1 c.slots)

pub bodies_small : (shape : Shape) (c : ConferenceContents) → IsConference shape c → sum_by body_size c.slots < 2 ^ 31
bodies_small shape c ok =
    let short = (layout_fits shape c ok).jdt.1 in
    omega (arith, short, ap length (bodies_are (link_of c.slots) 1 c.slots), bodies_length c.slots)
