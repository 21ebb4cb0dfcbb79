-- What becomes of a header of another tool's base.
use Rattle.std.specs.Prelude.{ℕ, ◌+◌, List, [], ◌∷◌, length, take, drop, slice_range, codes, Option, Some, None, is_some, unwrap_or, Bool, false, not, ◌||◌, ◌==◌, nat_lt, if◌then◌else◌}
use Rattle.std.specs.Str.{bytes_eq}
use Rattle.record_numbers.specs.Numbers.{u16_at}
use Rattle.jam_records.specs.Signature.{signature}
use Rattle.jam_records.specs.MessageHeaders.{message_header_at}
use Rattle.jam_records.specs.declared.message.Message.{Message}
use Rattle.jam_records.specs.declared.message_header.MessageHeader.{MessageHeader}
use Rattle.jam_records.specs.declared.subfield.Subfield.{Subfield}
use Rattle.jam_layout.specs.Marks.{marks_of}
use Rattle.jam_adopt.specs.Bodies.{adopted_body}
use Rattle.jam_adopt.specs.Fields.{fields_of, value_of_id}
use Rattle.jam_adopt.specs.Values.{kept_text, kept_name, kept_id, kept_address}
use Rattle.jam_adopt.specs.declared.found.ForeignRule.{ForeignRule}
use Rattle.jam_adopt.specs.declared.found.ForeignRule.TheVariants as rule
use Rattle.jam_adopt.specs.declared.found.FoundVerdict.{FoundVerdict}
use Rattle.jam_adopt.specs.declared.found.FoundVerdict.TheVariants.{Taken, Refused}

-- 76 bytes from the offset pass the end of .JHR, or the signature differs, or the revision isn't 1
unfoldable pub wrong_header : List ℕ → ℕ → Bool
wrong_header jhr at =
    nat_lt (length jhr) (at + 76) || (not (bytes_eq (take 4 (drop at jhr)) signature) || not (u16_at 4 (drop at jhr) == 1))

-- the header at an offset
abbrev pub header_in : List ℕ → ℕ → MessageHeader
header_in jhr at = message_header_at (drop at jhr)

-- SubfieldLen bytes behind it
abbrev pub field_bytes : List ℕ → ℕ → MessageHeader → List ℕ
field_bytes jhr at h = slice_range jhr (at + 76) (at + 76 + h.subfield_len)

-- they pass the end of .JHR, or the subfields don't fill them
unfoldable pub wrong_subfields : List ℕ → ℕ → MessageHeader → Bool
wrong_subfields jhr at h = nat_lt (length jhr) (at + 76 + h.subfield_len) || not (is_some (fields_of (field_bytes jhr at h)))

-- Offset plus TxtLen passes the end of .JDT
abbrev pub text_past_end : List ℕ → MessageHeader → Bool
text_past_end jdt h = nat_lt (length jdt) (h.offset + h.text_len)

-- the body that is made of TxtLen bytes from Offset on
abbrev pub body_in : List ℕ → MessageHeader → List ℕ
body_in jdt h = adopted_body (slice_range jdt h.offset (h.offset + h.text_len))

-- it has more than 16,384 bytes
abbrev pub wrong_length : List ℕ → MessageHeader → Bool
wrong_length jdt h = nat_lt 16384 (length (body_in jdt h))

-- the first rule that holds, of rules in order
abbrev pub first_holding : List (ForeignRule × Bool) → Option ForeignRule
first_holding [] = None
first_holding (r ∷ rules) = if r.1 then Some r.0 else first_holding rules

-- the rules behind that of the header
unfoldable pub rules_behind : List ℕ → List ℕ → ℕ → MessageHeader → List (ForeignRule × Bool)
rules_behind jhr jdt at h =
    (rule.Subfields, wrong_subfields jhr at h)
    ∷ (rule.Text, text_past_end jdt h)
    ∷ (rule.Length, wrong_length jdt h)
    ∷ []

-- The message of a header, its subfields and its body. The ids are those of OADDRESS, DADDRESS, SENDERNAME,
-- RECEIVERNAME, MSGID, REPLYID and SUBJECT.
unfoldable pub adopted_message : MessageHeader → List Subfield → List ℕ → Message
adopted_message h fields body = record {
  from = kept_name (codes "Unknown") (value_of_id 2 fields);
  to = kept_name (codes "All") (value_of_id 3 fields);
  subject = kept_text 72 (value_of_id 6 fields);
  msgid = kept_id (value_of_id 4 fields);
  replyid = kept_id (value_of_id 5 fields);
  origin = kept_address (value_of_id 0 fields);
  destination = kept_address (value_of_id 1 fields);
  body = body;
  written = h.written;
  received = h.received;
  processed = h.processed;
  local = (marks_of h.attribute).local;
  private = (marks_of h.attribute).private;
  seen = (marks_of h.attribute).seen;
  deleted = false;
}

-- the message, where no rule holds
abbrev pub taken_unless_refused : Option ForeignRule → Message → FoundVerdict
taken_unless_refused None m = Taken m
taken_unless_refused (Some r) m = Refused r

-- the verdict behind the rule of the header
unfoldable pub verdict_behind : List ℕ → List ℕ → ℕ → MessageHeader → FoundVerdict
verdict_behind jhr jdt at h =
    taken_unless_refused (first_holding (rules_behind jhr jdt at h)) (adopted_message h (unwrap_or (fields_of (field_bytes jhr at h)) []) (body_in jdt h))

-- a header that is there: one with the mark DELETED is passed over
abbrev pub verdict_on_header : List ℕ → List ℕ → ℕ → MessageHeader → Option FoundVerdict
verdict_on_header jhr jdt at h = if (marks_of h.attribute).deleted then None else Some (verdict_behind jhr jdt at h)

-- the verdict on the header at an offset, or None where it is passed over
unfoldable pub verdict_at : List ℕ → List ℕ → ℕ → Option FoundVerdict
verdict_at jhr jdt at = if wrong_header jhr at then Some (Refused rule.Header) else verdict_on_header jhr jdt at (header_in jhr at)
