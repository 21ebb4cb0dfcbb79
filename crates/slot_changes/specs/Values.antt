-- What a message has to be before it gets its msgid.
use Rattle.std.specs.Prelude.{ℕ, ◌-◌, List, length, slice_index, Bool, not, ◌&&◌, ◌||◌, ◌==◌, nat_le}
use Rattle.jam_layout.specs.Address.{is_address}
use Rattle.jam_layout.specs.Fields.{is_text}
use Rattle.jam_layout.specs.Marks.{is_net}
use Rattle.jam_layout.specs.Messages.{IsMessage}
use Rattle.jam_records.specs.declared.message.Kind.{Kind}
use Rattle.jam_records.specs.declared.message.Message.{Message}
use Rattle.slot_changes.specs.Msgids.{IsMsgid, identified}

-- with any msgid, where it has none, it is a message that a conference of this kind may hold
abbrev pub MayHold : Kind → Message → Type 0
MayHold kind m = (msgid : List ℕ) → IsMsgid msgid → IsMessage kind (identified msgid m)

-- there is none, or it passes
abbrev pub is_empty_or : (List ℕ → Bool) → List ℕ → Bool
is_empty_or test text = length text == 0 || test text

-- the names, the addresses, the ids and the subject; a msgid may be missing
unfoldable pub has_right_texts : Message → Bool
has_right_texts m =
    ((is_text 36 m.from && is_text 36 m.to) && (is_empty_or is_address m.origin && is_empty_or is_address m.destination))
    && ((is_empty_or (is_text 80) m.msgid && is_empty_or (is_text 80) m.replyid) && is_empty_or (is_text 72) m.subject)

-- it is empty, or has at most 16,384 bytes and ends with 0Dh
unfoldable pub is_right_body : List ℕ → Bool
is_right_body body = length body == 0 || (nat_le (length body) 16384 && slice_index body (length body - 1) == 0x0D)

-- it is private, or need not be
abbrev pub is_private_enough : Kind → Message → Bool
is_private_enough kind m = m.private || not (is_net kind)

-- the whole test
abbrev pub is_right : Kind → Message → Bool
is_right kind m = (has_right_texts m && is_right_body m.body) && is_private_enough kind m
