-- The outline of a conference: what is left of it where the length of each body is known, and no body. A length stands as a
-- body of so many line ends. So the outline of a conference is a conference too, whose lines are all empty, and what is said
-- of conferences is said of outlines in the same words.
use Rattle.std.specs.Prelude.{◌≡◌, ℕ, List, [], length, map, replicate}
use Rattle.jam_records.specs.declared.message.Message.{Message}
use Rattle.jam_records.specs.declared.message.Slot.{Slot}
use Rattle.jam_records.specs.declared.message.Slot.TheVariants.{Gone, Held}
use Rattle.jam_layout.specs.Bodies.{body_size, message_with}
use Rattle.jam_layout.specs.declared.conference.ConferenceContents.{ConferenceContents}

-- the body that stands for all of a length: so many empty lines
abbrev pub line_ends : ℕ → List ℕ
line_ends n = replicate n 0x0D

abbrev pub message_outline : Message → Message
message_outline m = message_with m (line_ends (length m.body))

abbrev pub slot_outline : Slot → Slot
slot_outline Gone = Gone
slot_outline (Held m) = Held (message_outline m)

abbrev pub outline : ConferenceContents → ConferenceContents
outline c = record c { slots = map slot_outline c.slots }

-- a slot with a body of so many line ends, where it holds a message
abbrev pub slot_with : ℕ → Slot → Slot
slot_with n Gone = Gone
slot_with n (Held m) = Held (message_with m (line_ends n))

-- a slot without the body of its message
abbrev pub slot_bare : Slot → Slot
slot_bare Gone = Gone
slot_bare (Held m) = Held (message_with m [])

-- the conferences are the same but for bodies, and these are as long
pub record SameButBodies (a b : ConferenceContents) : Type 0 where
  pub counter : a.counter ≡ b.counter
  pub slots : map slot_bare a.slots ≡ map slot_bare b.slots
  pub lengths : map body_size a.slots ≡ map body_size b.slots
  pub pointers : a.pointers ≡ b.pointers
