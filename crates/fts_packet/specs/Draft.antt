-- The draft of a packed message: what the board keeps of it where no rule refuses. A message without a tag is net mail.
use Rattle.std.specs.Prelude.{ℕ, List, [], unwrap_or, Bool, false, not, if◌then◌else◌}
use Rattle.jam_records.specs.declared.message.Message.{Message}
use Rattle.fts_packet.specs.Date.{moment_of_date}
use Rattle.fts_packet.specs.Lines.{has_tag, msgid_of, replyid_of, body_of}
use Rattle.fts_packet.specs.declared.packet.FtsMessage.{FtsMessage}

abbrev pub is_net_letter : FtsMessage → Bool
is_net_letter m = not (has_tag m.lines)

-- an echomail message goes to nobody's address
abbrev pub tossed_destination : FtsMessage → List ℕ
tossed_destination m = if is_net_letter m then m.destination else []

-- the draft of a message that is tossed at a moment
unfoldable pub tossed_draft : FtsMessage → ℕ → Message
tossed_draft m now = record {
  from = m.from;
  to = m.to;
  subject = m.subject;
  msgid = msgid_of m.lines;
  replyid = replyid_of m.lines;
  origin = m.origin;
  destination = tossed_destination m;
  body = body_of m.lines;
  written = unwrap_or (moment_of_date m.date) now;
  received = 0;
  processed = now;
  local = false;
  private = is_net_letter m;
  seen = false;
  deleted = false;
}
