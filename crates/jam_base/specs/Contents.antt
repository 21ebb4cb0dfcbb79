-- What a base is seen as, and what is asked of it.
use Rattle.std.specs.Prelude.{ℕ, ◌+◌, min, List, [], ◌∷◌, ◌++◌, length, replicate, position, slice_get, slice_set, Option, None, Some, option_and_then, unwrap_or, ◌==◌, if◌then◌else◌}
use Rattle.jam_records.specs.declared.message.Message.{Message}
use Rattle.jam_records.specs.declared.message.Slot.{Slot}
use Rattle.jam_base.specs.Slots.{slots_with_all, slots_deleted, any_due, slots_received}
use Rattle.jam_base.specs.declared.receipt.Receipt.{Receipt}
use Rattle.jam_writing.specs.jam_layout.declared.conference.ConferenceContents.{ConferenceContents}
use Rattle.jam_writing.specs.jam_layout.declared.reader.Reader.{Reader}
use Rattle.jam_writing.specs.jam_layout.declared.shape.Shape.{Shape}

-- a conference and its shape
pub record Contents : Type 0 where
  pub shape : Shape
  pub conference : ConferenceContents

-- no slots, and the pointer of each reader 0
abbrev pub no_slots : Shape → ConferenceContents
no_slots shape = record { counter = 0; slots = []; pointers = replicate (length shape.readers) 0 }

-- one reader more, whose pointer is 0
abbrev pub with_reader : ℕ → List ℕ → Contents → Contents
with_reader user name base = record {
  shape = record base.shape { readers = base.shape.readers ++ record { id = user; name = name } ∷ [] };
  conference = record base.conference { pointers = base.conference.pointers ++ 0 ∷ [] };
}

-- the place of the reader with this id, where there is one
abbrev pub reader_place : ℕ → List Reader → Option ℕ
reader_place user readers = position (λ reader. reader.id == user) readers

-- the pointer of the reader with this id, where there is one
abbrev pub pointer_of : ℕ → List Reader → List ℕ → Option ℕ
pointer_of user readers pointers = option_and_then (slice_get pointers) (reader_place user readers)

-- the change counter after one change more; it stays at its last value
abbrev pub counter_after : ℕ → ℕ
counter_after counter = min (counter + 1) 0xFFFF_FFFF

-- other slots, by one change
abbrev pub with_slots : List Slot → Contents → Contents
with_slots slots base = record base { conference = record base.conference { counter = counter_after base.conference.counter; slots = slots } }

-- the messages at the end; where there are none, nothing changes
abbrev pub with_messages : List Message → Contents → Contents
with_messages [] base = base
with_messages (m ∷ messages) base = with_slots (slots_with_all base.conference.slots (m ∷ messages)) base

-- the message of a number marked deleted
abbrev pub with_deleted : ℕ → Contents → Contents
with_deleted number base = with_slots (slots_deleted number base.conference.slots) base

-- the messages to a name that are due marked read, at their moment; where none is, nothing changes
abbrev pub with_received : List ℕ → Receipt → Contents → Contents
with_received name r base =
    if any_due name r 1 base.conference.slots then with_slots (slots_received name r 1 base.conference.slots) base else base

-- the pointers with that of the reader in this place moved to a number
abbrev pub pointers_with : Option ℕ → ℕ → List ℕ → List ℕ
pointers_with None number pointers = pointers
pointers_with (Some place) number pointers = slice_set pointers place number

-- the pointer of the reader with this id moved to a number
abbrev pub with_pointer : ℕ → ℕ → Contents → Contents
with_pointer user number base = record base {
  conference = record base.conference { pointers = pointers_with (reader_place user base.shape.readers) number base.conference.pointers };
}

-- what a reader receives whose pointer goes to a number at a moment: all above the pointer, up to that number
abbrev pub receipt_to : ℕ → ℕ → ℕ → Contents → Receipt
receipt_to user upto now base = record { above = unwrap_or (pointer_of user base.shape.readers base.conference.pointers) 0; upto = upto; now = now }

-- so it is received, in the reader's name, and then the pointer goes there
abbrev pub with_acknowledged : ℕ → List ℕ → ℕ → ℕ → Contents → Contents
with_acknowledged user name upto now base = with_pointer user upto (with_received name (receipt_to user upto now base) base)
