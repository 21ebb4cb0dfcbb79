-- .JHR, first pass: the headers of messages with their subfields, one after the other.
use Rattle.std.specs.Prelude.{ℕ, ◌+◌, List, [], ◌∷◌, ◌++◌, length, take, drop, unwrap_or, Bool, Result, Ok, not, ◌||◌, ◌==◌, nat_lt, nat_le}
use Rattle.std.specs.Str.{bytes_eq}
use Rattle.name_crc.specs.JamCrc.{jam_crc}
use Rattle.jam_records.specs.record_numbers.Numbers.{u16_at}
use Rattle.jam_records.specs.Signature.{signature}
use Rattle.jam_records.specs.MessageHeaders.{message_header_at, header_text}
use Rattle.jam_records.specs.Subfields.{subfields_text}
use Rattle.jam_records.specs.declared.damage.Damage.{Damage}
use Rattle.jam_records.specs.declared.damage.DamageRule.TheVariants.{Short, Signature, Revision, Fields, Number, Attribute, Text, Subfields, Value, Crc}
use Rattle.jam_records.specs.declared.message.Kind.{Kind}
use Rattle.jam_records.specs.declared.message.Message.{Message}
use Rattle.jam_records.specs.declared.message_header.MessageHeader.{MessageHeader}
use Rattle.damage_rules.specs.Rules.{Rules, by_rules, ◌>>=◌}
use Rattle.door_outside.specs.File.{jhr_file}
use Rattle.damage_rules.specs.Walk.{WalkStep, walk}
use Rattle.jam_layout.specs.Fields.{values_at, right_values, subfields_of}
use Rattle.jam_layout.specs.Limits.{slot_limit}
use Rattle.jam_layout.specs.Marks.{attribute_of, marks_of, wrong_attribute}
use Rattle.jam_layout.specs.declared.entry.HeaderEntry.{HeaderEntry}
use Rattle.jam_layout.specs.declared.entry.Front.{Front}
use Rattle.jam_layout.specs.declared.fields.Values.{Values}
use Rattle.jam_layout.specs.declared.marks.Marks.{Marks}

-- TimesRead, Attribute2, PasswordCRC or Cost isn't the door's
unfoldable pub wrong_fields : MessageHeader → Bool
wrong_fields h = (not (h.times_read == 0) || not (h.attribute2 == 0)) || (not (h.password_crc == 0xFFFF_FFFF) || not (h.cost == 0))

-- the number is 0, above 9,999, or not above the one before
unfoldable pub wrong_number : Front → MessageHeader → Bool
wrong_number f h = (h.number == 0 || nat_lt slot_limit h.number) || nat_le h.number f.last

-- Offset isn't the sum of the lengths before, or TxtLen is above 16,384
unfoldable pub wrong_text : Front → MessageHeader → Bool
wrong_text f h = not (h.offset == f.offset) || nat_lt 16384 h.text_len

-- the values in the subfields, as SubfieldLen says
abbrev pub values_of : MessageHeader → List ℕ → Values
values_of h bytes = values_at (take h.subfield_len (drop 76 bytes))

-- MSGIDcrc or REPLYcrc isn't that of the value
unfoldable pub wrong_crc : MessageHeader → Values → Bool
wrong_crc h v = not (h.msgid_crc == jam_crc (unwrap_or v.msgid [])) || not (h.reply_crc == jam_crc (unwrap_or v.replyid []))

-- the rules of the length, the signature and the revision of the header at the front of what is left
unfoldable pub front_rules : List ℕ → Rules
front_rules bytes =
    (Short, nat_lt (length bytes) 76)
    ∷ (Signature, not (bytes_eq (take 4 bytes) signature))
    ∷ (Revision, not (u16_at 4 bytes == 1) || not (u16_at 6 bytes == 0))
    ∷ []

-- the rules of its fields
unfoldable pub field_rules : Kind → Front → MessageHeader → Rules
field_rules kind f h =
    (Fields, wrong_fields h)
    ∷ (Number, wrong_number f h)
    ∷ (Attribute, wrong_attribute kind h.attribute)
    ∷ (Text, wrong_text f h)
    ∷ []

-- the subfields pass the file's end
unfoldable pub length_rules : MessageHeader → List ℕ → Rules
length_rules h bytes = (Subfields, nat_lt (length bytes) (76 + h.subfield_len)) ∷ []

-- they don't fill SubfieldLen with the door's ids in rising order, or a value is wrong
unfoldable pub value_rules : MessageHeader → Values → Rules
value_rules h v =
    (Subfields, not (v.left == 0))
    ∷ (Value, not (right_values v))
    ∷ (Crc, wrong_crc h v)
    ∷ []

-- all rules of the header at the front of what is left
abbrev pub header_rules : Kind → Front → List ℕ → Rules
header_rules kind f bytes =
    front_rules bytes
    ++ (field_rules kind f (message_header_at bytes)
    ++ (length_rules (message_header_at bytes) bytes
    ++ value_rules (message_header_at bytes) (values_of (message_header_at bytes) bytes)))

-- the message of a header, whose body is read later
unfoldable pub message_of : MessageHeader → Values → Message
message_of h v = record {
  from = unwrap_or v.from [];
  to = unwrap_or v.to [];
  subject = unwrap_or v.subject [];
  msgid = unwrap_or v.msgid [];
  replyid = unwrap_or v.replyid [];
  origin = unwrap_or v.origin [];
  destination = unwrap_or v.destination [];
  body = [];
  written = h.written;
  received = h.received;
  processed = h.processed;
  local = (marks_of h.attribute).local;
  private = (marks_of h.attribute).private;
  seen = (marks_of h.attribute).seen;
  deleted = (marks_of h.attribute).deleted;
}

unfoldable pub entry_of : MessageHeader → Values → HeaderEntry
entry_of h v = record {
  number = h.number;
  text_len = h.text_len;
  link = record { to = h.reply_to; first = h.reply1st; next = h.reply_next };
  message = message_of h v;
}

-- what is known behind a header
abbrev pub behind : Front → HeaderEntry → Front
behind f e = record { item = f.item + 1; last = e.number; offset = f.offset + e.text_len }

-- the entry of the header at the front, and what is behind it
abbrev pub step_of : Front → MessageHeader → Values → WalkStep Front HeaderEntry
step_of f h v = record { value = entry_of h v; size = 76 + h.subfield_len; next = behind f (entry_of h v) }

unfoldable pub header_at : ℕ → Kind → Front → List ℕ → Result (WalkStep Front HeaderEntry) Damage
header_at place kind f bytes = by_rules (jhr_file place) f.item (header_rules kind f bytes) (step_of f (message_header_at bytes) (values_of (message_header_at bytes) bytes))

-- before the first header
abbrev pub start : Front
start = record { item = 1; last = 0; offset = 0 }

unfoldable pub entries_at : ℕ → Kind → List ℕ → Result (List HeaderEntry) Damage
entries_at place kind bytes = do
  found ← walk (header_at place kind) start bytes
  Ok found.0

abbrev pub marks_in : Message → Marks
marks_in m = record { local = m.local; private = m.private; seen = m.seen; deleted = m.deleted }

-- the header of a message whose text is at an offset
unfoldable pub message_header : Kind → ℕ → HeaderEntry → MessageHeader
message_header kind offset e = record {
  subfield_len = length (subfields_text (subfields_of e.message));
  times_read = 0;
  msgid_crc = jam_crc e.message.msgid;
  reply_crc = jam_crc e.message.replyid;
  reply_to = e.link.to;
  reply1st = e.link.first;
  reply_next = e.link.next;
  written = e.message.written;
  received = e.message.received;
  processed = e.message.processed;
  number = e.number;
  attribute = attribute_of kind (marks_in e.message);
  attribute2 = 0;
  offset = offset;
  text_len = e.text_len;
  password_crc = 0xFFFF_FFFF;
  cost = 0;
}

-- a header with its subfields, and its length
abbrev pub entry_text : Kind → ℕ → HeaderEntry → List ℕ
entry_text kind offset e = header_text (message_header kind offset e) ++ subfields_text (subfields_of e.message)

unfoldable pub header_size : Message → ℕ
header_size m = 76 + length (subfields_text (subfields_of m))

-- the headers, the first of which has its text at an offset
abbrev pub headers_text : Kind → ℕ → List HeaderEntry → List ℕ
headers_text kind offset [] = []
headers_text kind offset (e ∷ entries) = entry_text kind offset e ++ headers_text kind (offset + e.text_len) entries
