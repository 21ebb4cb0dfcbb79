-- The four files of a conference: the layout, and the first damage.
use Rattle.std.specs.Prelude.{ℕ, ◌+◌, List, [], ◌∷◌, ◌++◌, length, take, drop, Option, Bool, Result, Ok, not, ◌||◌, ◌==◌, nat_lt}
use Rattle.std.specs.List.{list_all}
use Rattle.std.specs.Str.{bytes_eq}
use Rattle.jam_records.specs.record_numbers.Numbers.{u32_at}
use Rattle.jam_records.specs.Signature.{signature}
use Rattle.jam_records.specs.BaseHeaders.{base_text}
use Rattle.jam_records.specs.declared.base_header.BaseHeader.{BaseHeader}
use Rattle.jam_records.specs.declared.damage.Damage.{Damage}
use Rattle.jam_records.specs.declared.damage.DamageRule.TheVariants.{Short, Signature, Created, Fields}
use Rattle.jam_records.specs.declared.message.Slot.{Slot}
use Rattle.jam_records.specs.declared.message.Slot.TheVariants.{Gone, Held}
use Rattle.jam_threads.specs.Links.{link_of}
use Rattle.jam_threads.specs.declared.link.Link.{Link}
use Rattle.damage_rules.specs.Rules.{Rules, by_rules, ◌>>=◌, damage_of}
use Rattle.door_outside.specs.File.{jhr_file}
use Rattle.jam_layout.specs.Headers.{entries_at, headers_text}
use Rattle.jam_layout.specs.SecondPass.{second_pass}
use Rattle.jam_layout.specs.Bodies.{bodies_at, bodies_text}
use Rattle.jam_layout.specs.Index.{slots_at, index_records}
use Rattle.jam_layout.specs.Readers.{pointers_at, last_reads}
use Rattle.jam_layout.specs.Conference.{live_count}
use Rattle.jam_layout.specs.declared.conference.ConferenceContents.{ConferenceContents}
use Rattle.jam_layout.specs.declared.entry.HeaderEntry.{HeaderEntry}
use Rattle.jam_layout.specs.declared.files.BaseFiles.{BaseFiles}
use Rattle.jam_layout.specs.declared.shape.Shape.{Shape}

-- the messages of slots, of which the first has number n, with their numbers and links
abbrev pub entries_of : (ℕ → Link) → ℕ → List Slot → List HeaderEntry
entries_of links n [] = []
entries_of links n (Gone ∷ slots) = entries_of links (n + 1) slots
entries_of links n (Held m ∷ slots) = record { number = n; text_len = length m.body; link = links n; message = m } ∷ entries_of links (n + 1) slots

abbrev pub entries_in : ConferenceContents → List HeaderEntry
entries_in c = entries_of (link_of c.slots) 1 c.slots

-- DateCreated, ModCounter and ActiveMsgs; no password; message numbers from 1
abbrev pub base_header : Shape → ConferenceContents → BaseHeader
base_header shape c = record {
  created = shape.created;
  mod_counter = c.counter;
  active = live_count c.slots;
  password_crc = 0xFFFF_FFFF;
  base_number = 1;
}

-- the four files of a conference
abbrev pub layout : Shape → ConferenceContents → BaseFiles
layout shape c = record {
  jhr = base_text (base_header shape c) ++ headers_text shape.kind 0 (entries_in c);
  jdt = bodies_text (entries_in c);
  jdx = index_records 1024 c.slots;
  jlr = last_reads shape.readers c.pointers;
}

-- how many bytes the four files have
abbrev pub files_size : BaseFiles → ℕ
files_size files = length files.jhr + (length files.jdt + (length files.jdx + length files.jlr))

-- PasswordCRC, BaseMsgNum or the reserved bytes aren't the door's
unfoldable pub wrong_base : List ℕ → Bool
wrong_base bytes =
    (not (u32_at 16 bytes == 0xFFFF_FFFF) || not (u32_at 20 bytes == 1)) || not (list_all (λ b. b == 0) (take 1000 (drop 24 bytes)))

-- the rules of the base header
unfoldable pub base_rules : Shape → List ℕ → Rules
base_rules shape bytes =
    (Short, nat_lt (length bytes) 1024)
    ∷ (Signature, not (bytes_eq (take 4 bytes) signature))
    ∷ (Created, not (u32_at 4 bytes == shape.created))
    ∷ (Fields, wrong_base bytes)
    ∷ []

-- the conference of the files, or the first rule that they break: file by file, record by record, rule by rule
unfoldable pub conference_of : Shape → BaseFiles → Result ConferenceContents Damage
conference_of shape files = do
  counter ← by_rules (jhr_file shape.place) 0 (base_rules shape files.jhr) (u32_at 8 files.jhr)
  headers ← entries_at shape.place shape.kind (drop 1024 files.jhr)
  linked ← second_pass shape.place (u32_at 12 files.jhr) headers
  entries ← bodies_at shape.place 1 headers files.jdt
  slots ← slots_at shape.place 1024 entries files.jdx
  pointers ← pointers_at shape.place (length slots) 0 shape.readers files.jlr
  Ok (record { counter = counter; slots = slots; pointers = pointers })

-- the first damage, or none
abbrev pub base_damage : Shape → BaseFiles → Option Damage
base_damage shape files = damage_of (conference_of shape files)
