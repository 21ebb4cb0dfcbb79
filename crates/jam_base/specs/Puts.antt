-- A change of a conference's files in place, as patches that put bytes.
use Rattle.std.specs.Prelude.{ℕ, ◌+◌, ◌*◌, ◌≤◌, List, [], ◌∷◌, ◌++◌, length, take, drop, sum_by, Option, None, Some, nat_le, if◌then◌else◌}
use Rattle.std.specs.List.{flat_map}
use Rattle.intent_journal.specs.Patches.{byte_count}
use Rattle.intent_journal.specs.declared.patch.Patch.{Patch}
use Rattle.intent_journal.specs.declared.patch.Patch.TheVariants.{Put}
use Rattle.intent_journal.specs.door_outside.File.{jhr_file, jdt_file, jdx_file}
use Rattle.jam_records.specs.record_numbers.Numbers.{u32_text, u32s_text}
use Rattle.jam_records.specs.declared.message.Message.{Message}
use Rattle.jam_records.specs.declared.message.Slot.{Slot}
use Rattle.jam_records.specs.declared.message.Slot.TheVariants.{Held}
use Rattle.jam_threads.specs.LinkChanges.{link_change}
use Rattle.jam_threads.specs.Links.{link_of}
use Rattle.jam_threads.specs.declared.link.LinkPatch.{LinkPatch}
use Rattle.jam_writing.specs.jam_layout.Conference.{live_count}
use Rattle.jam_writing.specs.jam_layout.Headers.{headers_text}
use Rattle.jam_writing.specs.jam_layout.Index.{index_records}
use Rattle.jam_writing.specs.jam_layout.Layout.{entries_of, files_size}
use Rattle.jam_writing.specs.jam_layout.Sizes.{slot_header}
use Rattle.jam_writing.specs.jam_layout.declared.conference.ConferenceContents.{ConferenceContents}
use Rattle.jam_writing.specs.jam_layout.declared.entry.HeaderEntry.{HeaderEntry}
use Rattle.jam_writing.specs.jam_layout.declared.files.BaseFiles.{BaseFiles}
use Rattle.jam_writing.specs.jam_layout.declared.shape.Shape.{Shape}
use Rattle.jam_writing.specs.Pieces.{body_piece, body_size}
use Rattle.jam_base.specs.Places.{header_place, field_place}

-- ModCounter and ActiveMsgs, which stand next to each other
abbrev pub counts_put : ℕ → ConferenceContents → Patch
counts_put place c = Put (jhr_file place) 8 (u32s_text (c.counter ∷ live_count c.slots ∷ []))

-- one link number of a message among the old slots; that of a message behind them is written with its header
abbrev pub link_put : ℕ → List Slot → Option LinkPatch → List Patch
link_put place old None = []
link_put place old (Some patch) =
    if nat_le patch.number (length old)
    then Put (jhr_file place) (header_place old patch.number + field_place patch.field) (u32_text patch.value) ∷ []
    else []

-- those that messages change which come to stand behind these slots, one after the other
abbrev pub link_puts : ℕ → List Slot → List Slot → List Message → List Patch
link_puts place old slots [] = []
link_puts place old slots (m ∷ messages) = link_put place old (link_change slots m.replyid) ++ link_puts place old (slots ++ Held m ∷ []) messages

-- the messages of the slots behind so many others, with their numbers and links
abbrev pub last_entries : ℕ → ConferenceContents → List HeaderEntry
last_entries count c = entries_of (link_of c.slots) (count + 1) (drop count c.slots)

-- what the slots behind so many others add at the end of .JHR, of .JDT and of .JDX
abbrev pub last_headers : Shape → ℕ → ConferenceContents → Patch
last_headers shape count c =
    Put (jhr_file shape.place) (1024 + sum_by slot_header (take count c.slots)) (headers_text shape.kind (sum_by body_size (take count c.slots)) (last_entries count c))

-- these are bodies, which aren't kept with the slots
abbrev pub bodies_put : ℕ → ℕ → ConferenceContents → List ℕ → Patch
bodies_put place count c bodies = Put (jdt_file place) (sum_by body_size (take count c.slots)) bodies

abbrev pub last_bodies : ℕ → ℕ → ConferenceContents → Patch
last_bodies place count c = bodies_put place count c (flat_map body_piece (drop count c.slots))

abbrev pub last_records : ℕ → ℕ → ConferenceContents → Patch
last_records place count c = Put (jdx_file place) (8 * count) (index_records (1024 + sum_by slot_header (take count c.slots)) (drop count c.slots))

-- all three, where these are the bodies
abbrev pub end_puts : Shape → ℕ → ConferenceContents → List ℕ → List Patch
end_puts shape count c bodies = last_headers shape count c ∷ bodies_put shape.place count c bodies ∷ last_records shape.place count c ∷ []

abbrev pub last_puts : Shape → ℕ → ConferenceContents → List Patch
last_puts shape count c = end_puts shape count c (flat_map body_piece (drop count c.slots))

-- messages more, behind the old slots
abbrev pub append_puts : Shape → List Slot → List Message → ConferenceContents → List Patch
append_puts shape old messages c = link_puts shape.place old old messages ++ (counts_put shape.place c ∷ last_puts shape (length old) c)

-- How many patches a change of so many messages more takes, and how many bytes they put: those by which the files grow,
-- eight for the counts, and four for a link number for each message.
pub record Costs (count : ℕ) (old new : BaseFiles) (patches : List Patch) : Type 0 where
  pub few : length patches ≤ 4 + count
  pub short : files_size old + byte_count patches ≤ files_size new + (8 + 4 * count)
