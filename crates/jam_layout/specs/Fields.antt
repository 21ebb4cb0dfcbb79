-- The values in the subfields of a header (JAM message base proposal, revision 1, the subfields' LoIDs).
use Rattle.std.specs.Prelude.{ℕ, ◌+◌, List, [], ◌∷◌, ◌++◌, length, take, drop, Option, Some, None, Bool, true, false, ◌&&◌, ◌==◌, nat_le, if◌then◌else◌}
use Rattle.std.specs.List.{list_all}
use Rattle.jam_records.specs.record_numbers.Numbers.{u16_at, u32_at}
use Rattle.jam_records.specs.declared.subfield.Subfield.{Subfield}
use Rattle.jam_records.specs.declared.message.Message.{Message}
use Rattle.jam_layout.specs.Address.{is_address}
use Rattle.jam_layout.specs.declared.fields.Values.{Values}

-- a value that isn't empty has a subfield
abbrev pub value_subfields : ℕ → List ℕ → List Subfield
value_subfields id [] = []
value_subfields id (b ∷ value) = record { lo = id; hi = 0; value = b ∷ value } ∷ []

-- OADDRESS, DADDRESS, SENDERNAME, RECEIVERNAME, MSGID, REPLYID and SUBJECT, in rising id
unfoldable pub subfields_of : Message → List Subfield
subfields_of m =
    value_subfields 0 m.origin ++ (value_subfields 1 m.destination ++ (value_subfields 2 m.from ++ (value_subfields 3 m.to ++ (value_subfields 4 m.msgid ++ (value_subfields 5 m.replyid ++ value_subfields 6 m.subject)))))

-- a whole subfield of this id is at the front
abbrev pub has_field : ℕ → List ℕ → Bool
has_field id bytes =
    (nat_le 8 (length bytes) && ((u16_at 0 bytes == id) && (u16_at 2 bytes == 0))) && nat_le (8 + u32_at 4 bytes) (length bytes)

-- the value of the subfield of this id, where it is at the front, and what follows
unfoldable pub field_at : ℕ → List ℕ → Option (List ℕ) × List ℕ
field_at id bytes = if has_field id bytes then (Some (take (u32_at 4 bytes) (drop 8 bytes)), drop (8 + u32_at 4 bytes) bytes) else (None, bytes)

-- the values of the ids that the door writes, each at most once and in rising id, and how many bytes are left
unfoldable pub values_at : List ℕ → Values
values_at bytes =
    let origin = field_at 0 bytes in
    let destination = field_at 1 origin.1 in
    let from = field_at 2 destination.1 in
    let to = field_at 3 from.1 in
    let msgid = field_at 4 to.1 in
    let replyid = field_at 5 msgid.1 in
    let subject = field_at 6 replyid.1 in
    record {
      origin = origin.0;
      destination = destination.0;
      from = from.0;
      to = to.0;
      msgid = msgid.0;
      replyid = replyid.0;
      subject = subject.0;
      left = length subject.1;
    }

-- a text of one to so many bytes, none below 20h
unfoldable pub is_text : ℕ → List ℕ → Bool
is_text most text = (nat_le 1 (length text) && nat_le (length text) most) && list_all (λ b. nat_le 0x20 b) text

-- a value that must be there, and one that may be missing
abbrev pub there : (List ℕ → Bool) → Option (List ℕ) → Bool
there test None = false
there test (Some value) = test value

abbrev pub may_miss : (List ℕ → Bool) → Option (List ℕ) → Bool
may_miss test None = true
may_miss test (Some value) = test value

-- Addresses are as they are stored. Names have at most 36 bytes, ids 80 and a subject 72.
unfoldable pub right_values : Values → Bool
right_values v =
    ((may_miss is_address v.origin && may_miss is_address v.destination) && (there (is_text 36) v.from && there (is_text 36) v.to))
    && ((there (is_text 80) v.msgid && may_miss (is_text 80) v.replyid) && may_miss (is_text 72) v.subject)
