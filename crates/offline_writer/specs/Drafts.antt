-- The messages that a caller writes, as drafts: they have no place in a reply packet yet.
use Rattle.std.specs.Prelude.{ℕ, ◌-◌, ◌==◌, ◌||◌, Bool, if◌then◌else◌, List, [], ◌∷◌, Some, length, map, take, unwrap_or}
use Rattle.std.specs.List.{suffix_len}
use Rattle.std.specs.Str.Lines.{lines}
use Rattle.import_sheet.specs.declared.sheet.Sheet.{Sheet}
use Rattle.long_names.specs.Plain.{plain}
use Rattle.qwk_blocks.specs.Status.{private_status}
use Rattle.qwk_blocks.specs.declared.message.Header.{Header}
use Rattle.qwk_blocks.specs.declared.message.QwkMessage.{QwkMessage}
use Rattle.qwk_control.specs.declared.control.Control.{Control}
use Rattle.qwk_moments.specs.Moments.{date_text, time_text}
use Rattle.offline_writer.specs.declared.drafting.Envelope.{Envelope}

-- a space or a NUL
abbrev pub is_pad : ℕ → Bool
is_pad b = b == 32 || b == 0

-- a text without the spaces and NULs at its end
abbrev pub without_pads : List ℕ → List ℕ
without_pads text = take (length text - suffix_len is_pad text) text

-- a user as From: the first 25 bytes of the name, without spaces and NULs at their end
unfoldable pub sender : List ℕ → List ℕ
sender user = without_pads (take 25 user)

-- what a reply takes from the header of the message that it answers
abbrev pub reply_envelope : Header → Envelope
reply_envelope answered = record {
  to = answered.from;
  subject = answered.subject;
  reference = unwrap_or answered.number 0;
  conference = answered.conference;
  private = private_status answered.status;
}

-- what a message to a conference takes from its entry in a sheet
abbrev pub entry_envelope : ℕ → Sheet → Envelope
entry_envelope conference entry = record {
  to = entry.to;
  subject = entry.subject;
  reference = 0;
  conference = conference;
  private = entry.private;
}

-- the header of a draft that a packet's user writes at a moment
unfoldable pub draft_header : Control → Envelope → ℕ → Header
draft_header control envelope now = record {
  status = if envelope.private then 43 else 32;
  number = Some envelope.conference;
  date = date_text now;
  time = time_text now;
  to = envelope.to;
  from = sender control.user;
  subject = envelope.subject;
  password = [];
  reference = Some envelope.reference;
  activity = 0xE1;
  conference = envelope.conference;
  logical = 0;
  tag = 32;
}

-- the draft of a reply to a message as it is read, with the lines of a text
abbrev pub reply_draft : Control → QwkMessage → List ℕ → ℕ → QwkMessage
reply_draft control answered text now = record {
  header = draft_header control (reply_envelope (plain answered).header) now;
  lines = lines text;
}

-- a byte more at the front of the first line
abbrev pub with_first : ℕ → List (List ℕ) → List (List ℕ)
with_first b [] = (b ∷ []) ∷ []
with_first b (line ∷ more) = (b ∷ line) ∷ more

-- the lines of a stored text: each ends with 0Dh, but the last one may lack it
abbrev pub stored_lines : List ℕ → List (List ℕ)
stored_lines [] = []
stored_lines (b ∷ rest) = if b == 13 then [] ∷ stored_lines rest else with_first b (stored_lines rest)

-- the draft of an entry
abbrev pub entry_draft : Control → ℕ → ℕ → Sheet → QwkMessage
entry_draft control conference now entry = record {
  header = draft_header control (entry_envelope conference entry) now;
  lines = stored_lines entry.body;
}

-- the drafts of a sheet's entries, in order
abbrev pub entry_drafts : Control → ℕ → List Sheet → ℕ → List QwkMessage
entry_drafts control conference entries now = map (entry_draft control conference now) entries
