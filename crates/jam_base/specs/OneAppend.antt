-- The files of a conference after one message more.
use Rattle.std.specs.Prelude.{◌≡◌, ℕ, suc, ◌+◌, ◌≤◌, List, [], ◌∷◌, ◌++◌, length, Option, None, Some, IfSome}
use Rattle.jam_records.specs.IndexRecords.{index_text}
use Rattle.jam_records.specs.declared.message.Message.{Message}
use Rattle.jam_records.specs.declared.message.Slot.{Slot}
use Rattle.jam_records.specs.declared.message.Slot.TheVariants.{Held}
use Rattle.jam_threads.specs.Children.{original_behind}
use Rattle.jam_threads.specs.LinkChanges.{link_change}
use Rattle.jam_threads.specs.declared.link.LinkPatch.{LinkPatch}
use Rattle.jam_writing.specs.jam_layout.Conference.{live_count}
use Rattle.jam_writing.specs.jam_layout.Headers.{entry_text}
use Rattle.jam_writing.specs.jam_layout.Index.{pair_of}
use Rattle.jam_writing.specs.jam_layout.Layout.{layout}
use Rattle.jam_writing.specs.jam_layout.declared.conference.ConferenceContents.{ConferenceContents}
use Rattle.jam_writing.specs.jam_layout.declared.shape.Shape.{Shape}
use Rattle.jam_base.specs.Places.{header_place, field_place, with_number}

-- the conference with the message at the end; ModCounter is replaced once for a whole change
abbrev pub with_last : ConferenceContents → Message → ConferenceContents
with_last c m = record c { slots = c.slots ++ Held m ∷ [] }

-- .JHR with that link number of an older header replaced, or with none
abbrev pub with_link : List Slot → Option LinkPatch → List ℕ → List ℕ
with_link slots None jhr = jhr
with_link slots (Some patch) jhr = with_number (header_place slots patch.number + field_place patch.field) patch.value jhr

-- the header of the message with its subfields: it answers its original, and no message answers it; its text begins
-- where .JDT ended
abbrev pub last_header : Shape → ConferenceContents → Message → List ℕ
last_header shape c m =
    entry_text shape.kind (length (layout shape c).jdt) (record {
      number = suc (length c.slots);
      text_len = length m.body;
      link = record { to = original_behind c.slots m.replyid; first = 0; next = 0 };
      message = m;
    })

-- .JHR is the old one with ActiveMsgs and at most one link number of an older header replaced, and the new header at
-- its end. The body is at the end of .JDT and the record at that of .JDX, and .JLR is the same.
pub record OneAppend (shape : Shape) (c : ConferenceContents) (m : Message) : Type 0 where
  pub jhr : (layout shape (with_last c m)).jhr
      ≡ with_link c.slots (link_change c.slots m.replyid) (with_number 12 (live_count (with_last c m).slots) (layout shape c).jhr) ++ last_header shape c m
  pub jdt : (layout shape (with_last c m)).jdt ≡ (layout shape c).jdt ++ m.body
  pub jdx : (layout shape (with_last c m)).jdx ≡ (layout shape c).jdx ++ index_text (pair_of m (length (layout shape c).jhr))
  pub jlr : (layout shape (with_last c m)).jlr ≡ (layout shape c).jlr
  -- that link number stands whole among the old headers
  pub older : IfSome (link_change c.slots m.replyid) (λ patch. (1024 ≤ header_place c.slots patch.number) × (header_place c.slots patch.number + 76 ≤ length (layout shape c).jhr))
