-- The rules of the four files of a conference in their order: .JHR in two passes, .JDT, .JDX and .JLR, record by record.
-- A record is what the bytes give at its place, whether or not those before it are right.
use Rattle.std.specs.Prelude.{ℕ, ◌+◌, ◌*◌, ◌/◌, Bool, List, [], ◌∷◌, ◌++◌, length, map, drop, sum_by, not, ◌==◌, nat_lt, if◌then◌else◌}
use Rattle.std.specs.List.{list_any}
use Rattle.jam_records.specs.record_numbers.Numbers.{u32_at}
use Rattle.jam_records.specs.MessageHeaders.{message_header_at}
use Rattle.jam_records.specs.declared.damage.DamageRule.TheVariants.{Active, Links, Rest, Count, Missing}
use Rattle.jam_records.specs.declared.index_record.IndexRecord.{IndexRecord}
use Rattle.jam_records.specs.declared.message.Kind.{Kind}
use Rattle.jam_records.specs.declared.message.Slot.{Slot}
use Rattle.jam_threads.specs.Links.{link_of}
use Rattle.damage_rules.specs.Tests.{Tests, at_record, for_each, records_from}
use Rattle.door_outside.specs.File.{jhr_file, jdt_file, jdx_file, jlr_file}
use Rattle.jam_layout.specs.Limits.{slot_limit}
use Rattle.jam_layout.specs.Headers.{entry_of, header_rules, header_size, values_of}
use Rattle.jam_layout.specs.SecondPass.{active_in, same_link, slots_of}
use Rattle.jam_layout.specs.Bodies.{body_rules}
use Rattle.jam_layout.specs.Index.{index_rules, no_pair, pair_of}
use Rattle.jam_layout.specs.Readers.{reader_rules}
use Rattle.jam_layout.specs.Layout.{base_rules}
use Rattle.jam_layout.specs.declared.entry.HeaderEntry.{HeaderEntry}
use Rattle.jam_layout.specs.declared.entry.Front.{Front}
use Rattle.jam_layout.specs.declared.files.BaseFiles.{BaseFiles}
use Rattle.jam_layout.specs.declared.reader.Reader.{Reader}
use Rattle.jam_layout.specs.declared.shape.Shape.{Shape}

-- a header and its subfields: where they end, and the message without its body
abbrev pub header_end : List ℕ → ℕ
header_end here = 76 + (message_header_at here).subfield_len

abbrev pub header_entry : List ℕ → HeaderEntry
header_entry here = entry_of (message_header_at here) (values_of (message_header_at here) here)

-- the number of the last message, or 0
abbrev pub number_of_last : List HeaderEntry → ℕ
number_of_last [] = 0
number_of_last (e ∷ []) = e.number
number_of_last (e ∷ f ∷ entries) = number_of_last (f ∷ entries)

-- how long the bodies are together, as the headers say
abbrev pub texts_size : List HeaderEntry → ℕ
texts_size entries = sum_by (λ e. e.text_len) entries

-- what the headers before one say of it
abbrev pub front_of : List HeaderEntry → Front
front_of before = record { item = 1 + length before; last = number_of_last before; offset = texts_size before }

-- the index record of the message with a number, where the first header stands at a place in .JHR
abbrev pub pair_for : ℕ → ℕ → List HeaderEntry → IndexRecord
pair_for number at [] = no_pair
pair_for number at (e ∷ entries) = if e.number == number then pair_of e.message at else pair_for number (at + header_size e.message) entries

-- a message has a greater number
abbrev pub has_greater : ℕ → List HeaderEntry → Bool
has_greater number entries = list_any (λ e. nat_lt number e.number) entries

-- ---- a record of each kind, behind those before
abbrev pub header_tests : ℕ → Kind → List (List ℕ) → List ℕ → Tests
header_tests place kind before here = at_record (jhr_file place) (1 + length before) (header_rules kind (front_of (map header_entry before)) here)

abbrev pub link_tests : ℕ → List Slot → List HeaderEntry → HeaderEntry → Tests
link_tests place slots before e = at_record (jhr_file place) (1 + length before) ((Links, not (same_link e.link (link_of slots e.number))) ∷ [])

abbrev pub body_tests : ℕ → List ℕ → List HeaderEntry → HeaderEntry → Tests
body_tests place jdt before e = at_record (jdt_file place) (1 + length before) (body_rules e.text_len (drop (texts_size before) jdt))

abbrev pub index_tests : ℕ → List HeaderEntry → List (List ℕ) → List ℕ → Tests
index_tests place entries before here = at_record (jdx_file place) (length before) (index_rules (pair_for (1 + length before) 1024 entries) here)

abbrev pub reader_tests : ℕ → ℕ → List ℕ → List Reader → Reader → Tests
reader_tests place slots jlr before reader = at_record (jlr_file place) (length before) (reader_rules slots reader (drop (16 * length before) jlr))

unfoldable pub base_tests : Shape → BaseFiles → Tests
base_tests shape files =
    let place = shape.place in
    let headers = records_from header_end 0 (drop 1024 files.jhr) in
    let entries = map header_entry headers in
    let index = records_from (λ here. 8) 0 files.jdx in
    at_record (jhr_file place) 0 (base_rules shape files.jhr)
    ++ (for_each (header_tests place shape.kind) [] headers
    ++ (at_record (jhr_file place) 0 ((Active, not (u32_at 12 files.jhr == active_in entries)) ∷ [])
    ++ (for_each (link_tests place (slots_of 1 entries)) [] entries
    ++ (for_each (body_tests place files.jdt) [] entries
    ++ (at_record (jdt_file place) (1 + length entries) ((Rest, not (length (drop (texts_size entries) files.jdt) == 0)) ∷ [])
    ++ (at_record (jdx_file place) 0 ((Count, nat_lt slot_limit (length files.jdx / 8)) ∷ [])
    ++ (for_each (index_tests place entries) [] index
    ++ (at_record (jdx_file place) (length index) ((Missing, has_greater (length index) entries) ∷ [])
    ++ (for_each (reader_tests place (length index) files.jlr) [] shape.readers
    ++ at_record (jlr_file place) (length shape.readers) ((Rest, not (length (drop (16 * length shape.readers) files.jlr) == 0)) ∷ []))))))))))
