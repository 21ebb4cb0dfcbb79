-- How a message is shown in a QWK packet.
use Rattle.std.specs.Prelude.{ℕ, ◌-◌, ◌≤◌, List, [], ◌++◌, length, map, take, codes, decimal, slice_index, Option, Some, option_map, filter_map, ◌==◌, if◌then◌else◌}
use Rattle.std.specs.List.{enumerate_from, slice_split}
use Rattle.board_layout.specs.Board.{Board}
use Rattle.jam_records.specs.declared.message.Message.{Message}
use Rattle.jam_threads.specs.Children.{original}
use Rattle.long_names.specs.Plain.{with_long, in_capitals, with_read_names}
use Rattle.long_names.specs.Value.{short_form, is_long, most_of}
use Rattle.long_names.specs.declared.line_field.LineField.{LineField}
use Rattle.long_names.specs.declared.line_field.LineField.TheVariants.{To, From, Subject}
use Rattle.qwk_blocks.specs.Text.{joined_lines}
use Rattle.qwk_blocks.specs.Written.{Writable}
use Rattle.qwk_blocks.specs.declared.message.Header.{Header}
use Rattle.qwk_blocks.specs.declared.message.QwkMessage.{QwkMessage}
use Rattle.qwk_moments.specs.Moments.{date_text, time_text}
use Rattle.board_ledger.specs.setup_file.Valid.{numbers_of}
use Rattle.offered_packets.specs.Offered.{offered}
use Rattle.board_layout.specs.Lookups.{slots_in, message_at}
use Rattle.offered_packets.specs.declared.offered_message.OfferedMessage.{OfferedMessage}

-- ---- one message
-- a space for a public message, `+` for a private one that is unread, `*` for one that is read
abbrev pub shown_status : Message → ℕ
shown_status m = if m.private then (if m.seen then 42 else 43) else 32

-- a name or a subject whole where it goes as a line, and else cut to the 25 bytes of its field
abbrev pub shown_text : LineField → List ℕ → List ℕ
shown_text field text = if is_long (most_of field) text then text else short_form text

-- what stands before each 0Dh, behind the one before
abbrev pub body_lines : List ℕ → List (List ℕ)
body_lines body = let parts = slice_split (λ b. b == 0x0D) body in take (length parts - 1) parts

-- each E3h as `?`
abbrev pub shown_line : List ℕ → List ℕ
shown_line line = map (λ b. if b == 0xE3 then 0x3F else b) line

abbrev pub shown_lines : List ℕ → List (List ℕ)
shown_lines body = map shown_line (body_lines body)

-- the number of the conference in a place
abbrev pub conference_number : Board → ℕ → ℕ
conference_number b place = slice_index (numbers_of b.ledger.setup.conferences) place

-- the header of a message of a number in a conference, which answers an original, under a logical number: with whole names and subject
abbrev pub whole_header : ℕ → ℕ → ℕ → ℕ → Message → Header
whole_header conference number answered logical m = record {
  status = shown_status m;
  number = Some number;
  date = date_text m.written;
  time = time_text m.written;
  to = shown_text To m.to;
  from = shown_text From m.from;
  subject = shown_text Subject m.subject;
  password = [];
  reference = Some answered;
  activity = 0xE1;
  conference = conference;
  logical = logical;
  tag = 32;
}

-- a message of a number in a place, under a logical number, with whole names and subject
abbrev pub whole_message : Board → ℕ → ℕ → ℕ → Message → QwkMessage
whole_message b place number logical m = record {
  header = whole_header (conference_number b place) number (original (slots_in b place) number) logical m;
  lines = shown_lines m.body;
}

-- a message as it goes: its long names and subject as lines, and To and From in ASCII capitals
abbrev pub shown_message : Board → ℕ → ℕ → ℕ → Message → QwkMessage
shown_message b place number logical m = in_capitals (with_long (whole_message b place number logical m))

-- it can be written, and its text has at most the bytes of a body and of lines that give long values
pub record IsShort (m : QwkMessage) : Type 0 where
  pub writable : Writable m
  pub short : length (joined_lines m.lines) ≤ 16551

-- the message of a number in a place as it is shown, where there is one
unfoldable pub shown : Board → ℕ → ℕ → ℕ → Option QwkMessage
shown b place number logical = option_map (shown_message b place number logical) (message_at b place number)

-- ---- a packet
-- messages as they are shown, with logical numbers from 1
unfoldable pub shown_all : Board → List OfferedMessage → List QwkMessage
shown_all b messages = filter_map (λ m. shown b m.1.place m.1.number m.0) (enumerate_from 1 messages)

-- what is offered, shown
abbrev pub packet : Board → ℕ → ℕ → List QwkMessage
packet b id limit = shown_all b (offered b id limit)

-- ---- what its reader sees
-- a message with its names and its subject whole where they are long, and else as their fields have them
abbrev pub read_message : Board → ℕ → ℕ → ℕ → Message → QwkMessage
read_message b place number logical m = with_read_names (whole_message b place number logical m)

abbrev pub read_at : Board → ℕ × OfferedMessage → Option QwkMessage
read_at b (logical, m) = option_map (read_message b m.place m.number logical) (message_at b m.place m.number)

-- messages as they are read, with logical numbers from 1
unfoldable pub read_all : Board → List OfferedMessage → List QwkMessage
read_all b messages = filter_map (read_at b) (enumerate_from 1 messages)

-- what is offered, as it is read
abbrev pub packet_read : Board → ℕ → ℕ → List QwkMessage
packet_read b id limit = read_all b (offered b id limit)

-- the notice of the packet of a number
unfoldable pub notice : ℕ → List ℕ
notice number = codes "Produced by qwkdoor, packet " ++ decimal number
