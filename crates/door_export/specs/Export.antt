-- What an export comes to.
use Rattle.std.specs.Prelude.{ℕ, ◌+◌, List, length, ◌==◌, ◌||◌, nat_lt, if◌then◌else◌, Option, Some, None, Result, Ok, Err}
use Rattle.board_layout.specs.Board.{Board}
use Rattle.board_layout.specs.Lookups.{user_of}
use Rattle.board_ledger.specs.declared.user.User.{User}
use Rattle.mail_board.specs.Readers.{user_id}
use Rattle.mail_board.specs.offer_changes.Changed as change
use Rattle.offered_packets.specs.Control.{control}
use Rattle.offered_packets.specs.Offered.{offered, highs}
use Rattle.offered_packets.specs.Shown.{notice, packet}
use Rattle.qwk_blocks.specs.Written.{spelling}
use Rattle.qwk_control.specs.Written.{control_text}
use Rattle.door_export.specs.declared.exporting.Exported.{Exported}

-- why no packet is handed out to the user of a name
pub data ExportRefusal : Type 0 where
  -- there is none
  NoUser : ExportRefusal
  -- the limit isn't 1 to 2,000
  Limit : ExportRefusal
  -- his last packet has the last number that there is
  Packets : ExportRefusal

-- the board on which the user of an id is offered one packet more, up to what is offered to him
abbrev pub exported : ℕ → ℕ → Board → Board
exported id limit b = change.offer_made id (highs b (offered b id limit)) b

-- the control of the user's packet, and the notice and the messages that are offered to him
abbrev pub control_file : Board → ℕ → User → ℕ → ℕ → List ℕ
control_file b id u limit now = control_text (control b u (length (offered b id limit)) now)

abbrev pub messages_file : Board → ℕ → User → ℕ → List ℕ
messages_file b id u limit = spelling (notice (u.last + 1)) (packet b id limit)

-- what is handed out as a packet: the board after it, what its files hold, its number and its count of messages
pub record Handout : Type 0 where
  pub board : Board
  pub controls : List ℕ
  pub messages : List ℕ
  pub answer : Exported

abbrev pub packet_to : ℕ → ℕ → Board → ℕ → User → Handout
packet_to limit now b id u = record {
  board = exported id limit b;
  controls = control_file b id u limit now;
  messages = messages_file b id u limit;
  answer = record { packet = u.last + 1; count = length (offered b id limit) };
}

-- why nothing is handed out to a user, the first that applies
abbrev pub user_refusal : ℕ → User → Option ExportRefusal
user_refusal limit u = if limit == 0 || nat_lt 2000 limit then Some Limit else (if u.last == 0xFFFF_FFFF then Some Packets else None)

abbrev pub handed_unless_refused : Handout → Option ExportRefusal → Result Handout ExportRefusal
handed_unless_refused p None = Ok p
handed_unless_refused p (Some why) = Err why

abbrev pub export_to : ℕ → ℕ → Board → ℕ → Option User → Result Handout ExportRefusal
export_to limit now b id None = Err NoUser
export_to limit now b id (Some u) = handed_unless_refused (packet_to limit now b id u) (user_refusal limit u)

abbrev pub export_as : ℕ → ℕ → Board → Option ℕ → Result Handout ExportRefusal
export_as limit now b None = Err NoUser
export_as limit now b (Some id) = export_to limit now b id (user_of id b)

-- the packet for the user of a name, or why there is none
abbrev pub export_of : List ℕ → ℕ → ℕ → Board → Result Handout ExportRefusal
export_of name limit now b = export_as limit now b (user_id name b)

-- the board after it
abbrev pub after_export : Board → Result Handout ExportRefusal → Board
after_export b (Ok p) = p.board
after_export b (Err why) = b
