-- What of a board the rules of uploaded messages see, for one message of one user.
use Rattle.std.specs.Prelude.{ℕ, ◌+◌, ◌-◌, List, [], length, slice_get, Option, Some, None, option_map, unwrap_or, false, if◌then◌else◌}
use Rattle.board_layout.specs.Board.{Board}
use Rattle.board_layout.specs.Layout.{board_size}
use Rattle.board_layout.specs.Lookups.{user_of, place_of, slots_in, message_at}
use Rattle.board_layout.specs.Valid.{board_limit}
use Rattle.board_ledger.specs.Uploads.{upload_size}
use Rattle.board_ledger.specs.Users.{is_member}
use Rattle.board_ledger.specs.declared.ledger.Ledger.{Ledger}
use Rattle.board_ledger.specs.declared.user.User.{User}
use Rattle.netmail_rules.specs.Verdict.{verdict}
use Rattle.netmail_rules.specs.declared.verdict.Verdict.{Verdict}
use Rattle.netmail_rules.specs.declared.view.ConferenceView.{ConferenceView}
use Rattle.netmail_rules.specs.declared.view.View.{View}
use Rattle.offered_packets.specs.Sees.{is_sysop, sees}
use Rattle.qwk_blocks.specs.declared.message.QwkMessage.{QwkMessage}
use Rattle.setup_file.specs.declared.conference.Conference.{Conference as SetupConference}
use Rattle.post_changes.specs.slot_changes.Msgids.{msgid_in}

-- ---- the user
-- a user without a name, who is a member nowhere
abbrev pub nobody : User
nobody = record { name = []; net = false; members = 0; last = 0; offers = [] }

-- the user of an id that is there
abbrev pub user_with : ℕ → Board → User
user_with id b = unwrap_or (user_of id b) nobody

-- ---- the conference
-- the place of the conference of a number, where there is one
abbrev pub addressed_place : Option ℕ → Board → Option ℕ
addressed_place None b = None
addressed_place (Some number) b = place_of number b

-- the message number that comes next in a place
abbrev pub next_number : Board → ℕ → ℕ
next_number b place = length (slots_in b place) + 1

-- what is seen of a conference of the setup that is in a place
abbrev pub conference_view : Board → User → ℕ → SetupConference → ConferenceView
conference_view b u place c = record {
  number = c.number;
  kind = c.kind;
  readonly = c.readonly;
  private = c.private;
  member = is_member u place;
  slots = length (slots_in b place);
  msgid_len = length (msgid_in place b (next_number b place));
}

-- what is seen of the conference in a place, where there is one
abbrev pub conference_seen : Board → User → Option ℕ → Option ConferenceView
conference_seen b u None = None
conference_seen b u (Some place) = option_map (conference_view b u place) (slice_get b.ledger.setup.conferences place)

-- ---- the reference
-- the msgid of the message of a number in a place, nothing where there is none
abbrev pub msgid_at : Board → ℕ → ℕ → List ℕ
msgid_at b place number = unwrap_or (option_map (λ m. m.msgid) (message_at b place number)) []

-- that of a message that is live and that the user of an id may see, else nothing
unfoldable pub reply_at : Board → ℕ → ℕ → ℕ → List ℕ
reply_at b id place number = if sees b id place number then msgid_at b place number else []

-- that of the message of the reference in the place of the conference
abbrev pub reply_seen : Board → ℕ → Option ℕ → Option ℕ → List ℕ
reply_seen b id None reference = []
reply_seen b id (Some place) None = []
reply_seen b id (Some place) (Some number) = reply_at b id place number

-- ---- the whole
-- how many bytes are free in the data files behind an upload record, which has 42
abbrev pub room_of : Board → ℕ
room_of b = board_limit - (board_size b + upload_size)

-- what a user is shown of a ledger, with a conference, a reply and a room
abbrev pub view_with : Ledger → User → Option ConferenceView → List ℕ → ℕ → View
view_with l u conference reply room = record {
  user = u.name;
  net = u.net;
  is_sysop = is_sysop l u;
  sysop = l.setup.sysop;
  zones = l.setup.zones;
  conference = conference;
  reply = reply;
  room = room;
}

-- what the rules see of a board for a message of the user of an id
abbrev pub view_of : Board → ℕ → QwkMessage → View
view_of b id m =
    view_with b.ledger (user_with id b) (conference_seen b (user_with id b) (addressed_place m.header.number b)) (reply_seen b id (addressed_place m.header.number b) m.header.reference) (room_of b)

-- the verdict on a message of the user of an id at a moment
abbrev pub verdict_on : Board → ℕ → QwkMessage → ℕ → Verdict
verdict_on b id m now = verdict (view_of b id m) m now
