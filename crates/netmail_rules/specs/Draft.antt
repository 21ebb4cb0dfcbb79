-- The draft of an uploaded message: what the board keeps of it where no rule refuses.
use Rattle.std.specs.Prelude.{ℕ, List, [], ◌∷◌, ◌++◌, drop, map, slice_get, slice_range, unwrap_or, Option, Some, None, Bool, true, false, ◌||◌, ◌==◌, if◌then◌else◌}
use Rattle.std.specs.List.{flat_map}
use Rattle.qwk_blocks.specs.declared.message.QwkMessage.{QwkMessage}
use Rattle.qwk_moments.specs.Moments.{moment_of}
use Rattle.jam_records.specs.declared.message.Message.{Message}
use Rattle.jam_layout.specs.Marks.{is_net}
use Rattle.netmail_rules.specs.AddressLine.{net_line, stored_address}
use Rattle.qwk_blocks.specs.Status.{private_status, comment_status}
use Rattle.netmail_rules.specs.declared.net_line.NetLine.{NetLine}
use Rattle.netmail_rules.specs.declared.view.ConferenceView.{ConferenceView}
use Rattle.netmail_rules.specs.declared.view.View.{View}

-- the conference is there, and is net
abbrev pub is_net_view : Option ConferenceView → Bool
is_net_view None = false
is_net_view (Some c) = is_net c.kind

-- the message goes to a net conference
abbrev pub is_netmail : View → Bool
is_netmail v = is_net_view v.conference

-- the first line of the text, empty where there is none
abbrev pub first_line : QwkMessage → List ℕ
first_line m = unwrap_or (slice_get m.lines 0) []

-- what the address line of net mail names
abbrev pub netmail_line : View → QwkMessage → Option NetLine
netmail_line v m = if is_netmail v then net_line (first_line m) else None

-- the name of the address line, else the sysop's for a comment, else To
abbrev pub recipient_of : View → QwkMessage → Option NetLine → List ℕ
recipient_of v m (Some found) = slice_range (first_line m) found.name_from found.name_to
recipient_of v m None = if comment_status m.header.status then v.sysop else m.header.to

-- the address of the address line, as it is kept
abbrev pub destination_of : Option NetLine → List ℕ
destination_of (Some found) = stored_address found.address
destination_of None = []

-- the lines without the address line
abbrev pub kept_lines : Option NetLine → List (List ℕ) → List (List ℕ)
kept_lines (Some found) lines = drop 1 lines
kept_lines None lines = lines

-- a line as it is kept: a space for each 0Dh, and 0Dh at the end
abbrev pub kept_line : List ℕ → List ℕ
kept_line line = map (λ b. if b == 0x0D then 0x20 else b) line ++ 0x0D ∷ []

abbrev pub kept_body : List (List ℕ) → List ℕ
kept_body lines = flat_map kept_line lines

-- the draft of a message that is uploaded at a moment
unfoldable pub draft_of : View → QwkMessage → ℕ → Message
draft_of v m now = record {
  from = v.user;
  to = recipient_of v m (netmail_line v m);
  subject = m.header.subject;
  msgid = [];
  replyid = v.reply;
  origin = [];
  destination = destination_of (netmail_line v m);
  body = kept_body (kept_lines (netmail_line v m) m.lines);
  written = unwrap_or (moment_of m.header.date m.header.time) now;
  received = 0;
  processed = now;
  local = true;
  private = is_netmail v || (private_status m.header.status || comment_status m.header.status);
  seen = false;
  deleted = false;
}
