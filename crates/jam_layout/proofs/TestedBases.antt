-- The files of a conference are read as their flat list of rules says.
use Rattle.std.proofs.Common.{◌≡◌, ℕ, ◌+◌, ◌/◌, eqb, not, List, [], ◌∷◌, ◌++◌, length, drop, Result, Ok, refl, sym, ap, ◌∙◌, append_assoc}
use Rattle.std.specs.Prelude.{map, nat_lt}
use Rattle.jam_records.specs.record_numbers.Numbers.{u32_at}
use Rattle.jam_records.specs.declared.damage.Damage.{Damage}
use Rattle.jam_records.specs.declared.damage.DamageRule.TheVariants.{Active, Count, Missing}
use Rattle.jam_records.specs.declared.message.Slot.{Slot}
use Rattle.damage_rules.specs.Rules.{by_rules, ◌>>=◌}
use Rattle.damage_rules.specs.Tests.{Tests, at_record, for_each, records_from}
use Rattle.damage_rules.proofs.TestLists.{by_tests, value_listed, Hold, IsTested, record_tested, then_tested, same_tested}
use Rattle.door_outside.specs.File.{jhr_file, jdx_file}
use Rattle.jam_layout.specs.BaseTests.{header_end, header_entry, header_tests, link_tests, body_tests, index_tests, has_greater, reader_tests, base_tests}
use Rattle.jam_layout.specs.Headers.{entries_at}
use Rattle.jam_layout.specs.SecondPass.{active_in, second_pass, slots_of}
use Rattle.jam_layout.specs.Bodies.{bodies_at}
use Rattle.jam_layout.specs.Limits.{slot_limit}
use Rattle.jam_layout.specs.Index.{expected, slots_at}
use Rattle.jam_layout.specs.Readers.{pointers_at}
use Rattle.jam_layout.specs.Layout.{base_rules, conference_of}
use Rattle.jam_layout.specs.declared.conference.ConferenceContents.{ConferenceContents}
use Rattle.jam_layout.specs.declared.entry.HeaderEntry.{HeaderEntry}
use Rattle.jam_layout.specs.declared.files.BaseFiles.{BaseFiles}
use Rattle.jam_layout.specs.declared.shape.Shape.{Shape}
use Rattle.jam_layout.proofs.TestedBodies.{bodied, body_end, bodies_listed, reader_end, read_pointers, pointers_listed}
use Rattle.jam_layout.proofs.TestedHeaders.{headers_in, headers_listed, numbers_rise, second_tested}
use Rattle.jam_layout.proofs.TestedIndex.{found_slots, index_part, pending_part, same_part, slots_counted, slots_listed}

-- ---- the reading, part by part
abbrev made : ℕ → List Slot → List ℕ → ConferenceContents
made counter slots pointers = record { counter = counter; slots = slots; pointers = pointers }

then_pointers : Shape → BaseFiles → ℕ → List Slot → Result ConferenceContents Damage
then_pointers shape files counter slots = pointers_at shape.place (length slots) 0 shape.readers files.jlr >>= λ pointers. Ok (made counter slots pointers)

then_slots : Shape → BaseFiles → ℕ → List HeaderEntry → Result ConferenceContents Damage
then_slots shape files counter entries = slots_at shape.place 1024 entries files.jdx >>= then_pointers shape files counter

then_bodies : Shape → BaseFiles → ℕ → List HeaderEntry → Result ConferenceContents Damage
then_bodies shape files counter headers = bodies_at shape.place 1 headers files.jdt >>= then_slots shape files counter

then_second : Shape → BaseFiles → ℕ → List HeaderEntry → Result ConferenceContents Damage
then_second shape files counter headers = second_pass shape.place (u32_at 12 files.jhr) headers >>= λ (linked : Unit {0}). then_bodies shape files counter headers

then_headers : Shape → BaseFiles → ℕ → Result ConferenceContents Damage
then_headers shape files counter = entries_at shape.place shape.kind (drop 1024 files.jhr) >>= then_second shape files counter

read_in_parts : (shape : Shape) (files : BaseFiles) → conference_of shape files ≡ (by_rules (jhr_file shape.place) 0 (base_rules shape files.jhr) (u32_at 8 files.jhr) >>= then_headers shape files)
unfolding conference_of then_headers then_second then_bodies then_slots then_pointers
read_in_parts shape files = refl

-- ---- the tests, part by part
abbrev pub index_of : BaseFiles → List (List ℕ)
index_of files = records_from (λ here. 8) 0 files.jdx

reader_part : Shape → BaseFiles → Tests
reader_part shape files = for_each (reader_tests shape.place (length (index_of files)) files.jlr) [] shape.readers ++ reader_end shape.place files.jlr shape.readers

body_part : Shape → BaseFiles → List HeaderEntry → Tests
body_part shape files entries = for_each (body_tests shape.place files.jdt) [] entries ++ body_end shape.place files.jdt entries

second_part : Shape → BaseFiles → List HeaderEntry → Tests
second_part shape files entries =
    at_record (jhr_file shape.place) 0 ((Active, not (eqb (u32_at 12 files.jhr) (active_in entries))) ∷ []) ++ for_each (link_tests shape.place (slots_of 1 entries)) [] entries

behind_headers : Shape → BaseFiles → List HeaderEntry → Tests → Tests
behind_headers shape files entries index = second_part shape files entries ++ (body_part shape files entries ++ (index ++ reader_part shape files))

-- ---- each part is tested
-- The reading is tested so, and what it gives has so many slots.
pub record IsTestedBase (count : ℕ) (tests : Tests) (read : Result ConferenceContents Damage) : Type 0 where
  pub tested : IsTested tests read
  pub slots : length tested.value.slots ≡ count

then_base : {A : Type 0} (count : ℕ) (a b : Tests) (read : Result A Damage) (f : A → Result ConferenceContents Damage) → (first : IsTested a read) → IsTestedBase count b (f first.value) → IsTestedBase count (a ++ b) (read >>= f)
then_base count a b read f first next = record { tested = then_tested a b read f first next.tested; slots = next.slots }

same_base : (count : ℕ) (a b c : Tests) (read : Result ConferenceContents Damage) → (Hold a → b ≡ c) → IsTestedBase count (a ++ b) read → IsTestedBase count (a ++ c) read
same_base count a b c read e first = record { tested = same_tested a b c read e first.tested; slots = first.slots }

pointers_tested : (shape : Shape) (files : BaseFiles) (counter : ℕ) (entries : List HeaderEntry) → IsTestedBase (length (index_of files)) (reader_part shape files) (then_pointers shape files counter (found_slots entries files.jdx))
unfolding then_pointers reader_part
pointers_tested shape files counter entries =
    let slots : List Slot = found_slots entries files.jdx in
    let count : ℕ = length (index_of files) in
    let tests : Tests = reader_part shape files in
    record {
      tested = record {
        value = made counter slots (read_pointers shape.readers files.jlr);
        is =
            ap (λ (n : ℕ). pointers_at shape.place n 0 shape.readers files.jlr >>= λ pointers. Ok (made counter slots pointers)) (slots_counted entries files.jdx)
            ∙ (ap (λ (r : Result (List ℕ) Damage). r >>= λ pointers. Ok (made counter slots pointers)) (pointers_listed shape.place count files.jlr shape.readers [] 0 files.jlr refl refl)
            ∙ value_listed tests (read_pointers shape.readers files.jlr) (made counter slots));
      };
      slots = slots_counted entries files.jdx;
    }

slots_tested : (shape : Shape) (files : BaseFiles) (counter : ℕ) (entries : List HeaderEntry) → IsTestedBase (length (index_of files)) (pending_part shape.place entries files.jdx ++ reader_part shape files) (then_slots shape files counter entries)
unfolding then_slots
slots_tested shape files counter entries =
    then_base (length (index_of files)) (pending_part shape.place entries files.jdx) (reader_part shape files) (slots_at shape.place 1024 entries files.jdx) (then_pointers shape files counter)
    (record { value = found_slots entries files.jdx; is = slots_listed shape.place entries files.jdx })
    (pointers_tested shape files counter entries)

bodies_tested : (shape : Shape) (files : BaseFiles) (counter : ℕ) (headers : List HeaderEntry)
    → IsTestedBase (length (index_of files)) (body_part shape files headers ++ (pending_part shape.place (bodied headers files.jdt) files.jdx ++ reader_part shape files)) (then_bodies shape files counter headers)
unfolding then_bodies body_part
bodies_tested shape files counter headers =
    then_base (length (index_of files)) (body_part shape files headers) (pending_part shape.place (bodied headers files.jdt) files.jdx ++ reader_part shape files) (bodies_at shape.place 1 headers files.jdt) (then_slots shape files counter)
    (record { value = bodied headers files.jdt; is = bodies_listed shape.place files.jdt headers [] 1 files.jdt refl refl })
    (slots_tested shape files counter (bodied headers files.jdt))

behind_tested : (shape : Shape) (files : BaseFiles) (counter : ℕ) (headers : List HeaderEntry)
    → IsTestedBase (length (index_of files)) (behind_headers shape files headers (pending_part shape.place (bodied headers files.jdt) files.jdx)) (then_second shape files counter headers)
unfolding then_second second_part behind_headers
behind_tested shape files counter headers =
    then_base (length (index_of files)) (second_part shape files headers) (body_part shape files headers ++ (pending_part shape.place (bodied headers files.jdt) files.jdx ++ reader_part shape files))
    (second_pass shape.place (u32_at 12 files.jhr) headers) (λ (linked : Unit {0}). then_bodies shape files counter headers)
    (second_tested shape.place (u32_at 12 files.jhr) headers)
    (bodies_tested shape files counter headers)

headers_tested : (shape : Shape) (files : BaseFiles) (counter : ℕ)
    → let headers = headers_in (drop 1024 files.jhr) in
    let entries = map header_entry headers in
    IsTestedBase (length (index_of files)) (for_each (header_tests shape.place shape.kind) [] headers ++ behind_headers shape files entries (index_part shape.place entries files.jdx)) (then_headers shape files counter)
unfolding then_headers
headers_tested shape files counter =
    let headers : List (List ℕ) = headers_in (drop 1024 files.jhr) in
    let entries : List HeaderEntry = map header_entry headers in
    let tests : Tests = for_each (header_tests shape.place shape.kind) [] headers in
    let pending : Tests = pending_part shape.place (bodied entries files.jdt) files.jdx in
    let index : Tests = index_part shape.place entries files.jdx in
    same_base (length (index_of files)) tests (behind_headers shape files entries pending) (behind_headers shape files entries index) (then_headers shape files counter)
    (λ held. ap (behind_headers shape files entries) (same_part shape.place entries files.jdt files.jdx (numbers_rise shape.place shape.kind [] headers held)))
    (then_base (length (index_of files)) tests (behind_headers shape files entries pending) (entries_at shape.place shape.kind (drop 1024 files.jhr)) (then_second shape files counter)
    (record { value = entries; is = headers_listed shape.place shape.kind (drop 1024 files.jhr) })
    (behind_tested shape files counter entries))

flat : (a b c d e f g h i j k : Tests) → a ++ (b ++ ((c ++ d) ++ ((e ++ f) ++ ((g ++ (h ++ i)) ++ (j ++ k))))) ≡ a ++ (b ++ (c ++ (d ++ (e ++ (f ++ (g ++ (h ++ (i ++ (j ++ k)))))))))
flat a b c d e f g h i j k = simp append_assoc

in_parts : (shape : Shape) (files : BaseFiles)
    → let headers = headers_in (drop 1024 files.jhr) in
    let entries = map header_entry headers in
    at_record (jhr_file shape.place) 0 (base_rules shape files.jhr) ++ (for_each (header_tests shape.place shape.kind) [] headers ++ behind_headers shape files entries (index_part shape.place entries files.jdx)) ≡ base_tests shape files
unfolding base_tests behind_headers second_part body_part reader_part
in_parts shape files =
    let place : ℕ = shape.place in
    let headers : List (List ℕ) = headers_in (drop 1024 files.jhr) in
    let entries : List HeaderEntry = map header_entry headers in
    let index : List (List ℕ) = index_of files in
    flat (at_record (jhr_file place) 0 (base_rules shape files.jhr)) (for_each (header_tests place shape.kind) [] headers)
    (at_record (jhr_file place) 0 ((Active, not (eqb (u32_at 12 files.jhr) (active_in entries))) ∷ [])) (for_each (link_tests place (slots_of 1 entries)) [] entries)
    (for_each (body_tests place files.jdt) [] entries) (body_end place files.jdt entries)
    (at_record (jdx_file place) 0 ((Count, nat_lt slot_limit (length files.jdx / 8)) ∷ [])) (for_each (index_tests place entries) [] index)
    (at_record (jdx_file place) (length index) ((Missing, has_greater (length index) entries) ∷ []))
    (for_each (reader_tests place (length index) files.jlr) [] shape.readers) (reader_end place files.jlr shape.readers)

pub base_tested : (shape : Shape) (files : BaseFiles) → IsTestedBase (length (index_of files)) (base_tests shape files) (conference_of shape files)
base_tested shape files =
    let headers : List (List ℕ) = headers_in (drop 1024 files.jhr) in
    let entries : List HeaderEntry = map header_entry headers in
    let first : Tests = at_record (jhr_file shape.place) 0 (base_rules shape files.jhr) in
    let rest : Tests = for_each (header_tests shape.place shape.kind) [] headers ++ behind_headers shape files entries (index_part shape.place entries files.jdx) in
    rw (read_in_parts shape files, ← in_parts shape files)
    (then_base (length (index_of files)) first rest (by_rules (jhr_file shape.place) 0 (base_rules shape files.jhr) (u32_at 8 files.jhr)) (then_headers shape files)
    (record_tested (jhr_file shape.place) 0 (base_rules shape files.jhr) (u32_at 8 files.jhr))
    (headers_tested shape files (u32_at 8 files.jhr)))
