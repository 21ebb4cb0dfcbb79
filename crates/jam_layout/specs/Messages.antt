-- What a message may hold.
use Rattle.std.specs.Prelude.{◌≡◌, ◌⊎◌, ℕ, ◌-◌, ◌≤◌, List, length, slice_index, All, Bool, IsTrue}
use Rattle.jam_records.specs.byte_lists.Byte.{IsByte}
use Rattle.jam_records.specs.record_numbers.Numbers.{IsU32}
use Rattle.jam_records.specs.declared.message.Kind.{Kind}
use Rattle.jam_records.specs.declared.message.Message.{Message}
use Rattle.jam_records.specs.declared.message.Slot.{Slot}
use Rattle.jam_records.specs.declared.message.Slot.TheVariants.{Gone, Held}
use Rattle.jam_layout.specs.Address.{is_address}
use Rattle.jam_layout.specs.Fields.{is_text}
use Rattle.jam_layout.specs.Marks.{is_net}

-- there is none, or it passes
abbrev pub EmptyOr : (List ℕ → Bool) → List ℕ → Type 0
EmptyOr test text = (length text ≡ 0) ⊎ IsTrue (test text)

-- a body is empty or ends with 0Dh
abbrev pub IsBody : List ℕ → Type 0
IsBody body = (length body ≡ 0) ⊎ (slice_index body (length body - 1) ≡ 0x0D)

-- each text is one of bytes
pub record AreBytes (m : Message) : Type 0 where
  pub origin : All IsByte m.origin
  pub destination : All IsByte m.destination
  pub from : All IsByte m.from
  pub to : All IsByte m.to
  pub msgid : All IsByte m.msgid
  pub replyid : All IsByte m.replyid
  pub subject : All IsByte m.subject
  pub body : All IsByte m.body

-- its bytes and its moments are of their types
pub record IsTyped (m : Message) : Type 0 where
  pub bytes : AreBytes m
  pub written : IsU32 m.written
  pub received : IsU32 m.received
  pub processed : IsU32 m.processed

-- It has names of 1 to 36 bytes, a subject of at most 72, a msgid of 1 to 80 and a replyid of at most
-- 80, none with a byte below 20h. Its addresses are as they are stored, and its body has at most 16,384
-- bytes. In a net conference it is private.
pub record IsMessage (kind : Kind) (m : Message) : Type 0 where
  pub bytes : AreBytes m
  pub origin : EmptyOr is_address m.origin
  pub destination : EmptyOr is_address m.destination
  pub from : IsTrue (is_text 36 m.from)
  pub to : IsTrue (is_text 36 m.to)
  pub msgid : IsTrue (is_text 80 m.msgid)
  pub replyid : EmptyOr (is_text 80) m.replyid
  pub subject : EmptyOr (is_text 72) m.subject
  pub body : length m.body ≤ 16384
  pub ended : IsBody m.body
  pub written : IsU32 m.written
  pub received : IsU32 m.received
  pub processed : IsU32 m.processed
  pub private : IsTrue (is_net kind) → IsTrue m.private

abbrev pub IsSlot : Kind → Slot → Type 0
IsSlot kind Gone = Unit {0}
IsSlot kind (Held m) = IsMessage kind m
