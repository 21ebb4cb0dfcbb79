-- What each command makes of a board, and of no board: nothing, or one change, and then why, or a pack.
use Rattle.std.proofs.Common.{◌≡◌, ◌⊎◌, ℕ, ◌+◌, Bool, true, false, cond, List, Option, Some, None, Result, Ok, Err, refl, ap, ◌∙◌, inl, inr}
use Rattle.std.proofs.lemmas.Bool.{cond-false, cond-true}
use Rattle.cmd_adopt.specs.Adopt.{adopt_at, base_turn}
use Rattle.cmd_adopt.specs.Adopted.{adopted}
use Rattle.cmd_adopt.specs.BaseFiles.{base_of}
use Rattle.post_changes.specs.board_changes.Changed.{made}
use Rattle.cmd_messages.specs.cmd_board.Enroll.{enroll_refusals, enrolling, first_refusal, is_net_flag}
use Rattle.cmd_messages.specs.cmd_board.Init.{made_of}
use Rattle.cmd_messages.specs.cmd_board.State.{State, NotMade, Made, state_of}
use Rattle.cmd_messages.specs.cmd_board.Turns.{Turn, refuses}
use Rattle.board_layout.specs.Board.{Board}
use Rattle.board_layout.specs.Lookups.{user_of, place_of}
use Rattle.board_laws.proofs.Moves.{Makes, Move, Packs, moved}
use Rattle.board_laws.proofs.Uploads.{UploadTurns, upload_turns}
use Rattle.board_laws.specs.BoardCommand.{BoardCommand, board_does}
use Rattle.board_laws.specs.BoardCommand as command
use Rattle.board_ledger.specs.declared.user.User.{User}
use Rattle.cmd_words.specs.Choice.{chosen_from}
use Rattle.cmd_words.specs.declared.choice.Choice.{Choice}
use Rattle.cmd_exchange.specs.door_export.Ack.{AckRefusal, NoPacket, ack_as, ack_of}
use Rattle.cmd_exchange.specs.door_export.Ack as why
use Rattle.cmd_exchange.specs.door_export.Export.{ExportRefusal, Handout, NoUser, export_as, export_of, export_to, packet_to, handed_unless_refused, user_refusal}
use Rattle.door_outside.specs.Shelf.{ShelfFiles}
use Rattle.entry_runs.specs.Door.{World, here}
use Rattle.entry_runs.specs.Entry.{Reply}
use Rattle.entry_runs.specs.Runs.{Stepped}
use Rattle.entry_runs.specs.declared.class.Class.{Class}
use Rattle.entry_runs.specs.declared.class.Class.TheVariants.{Done}
use Rattle.cmd_exchange.specs.Ack.{acknowledged_turn as ack_turn_of}
use Rattle.cmd_exchange.specs.Export.{handing_of}
use Rattle.cmd_exchange.specs.Handing.{Handing}
use Rattle.cmd_toss.specs.fts_packet.declared.packet.FtsMessage.{FtsMessage}
use Rattle.import_sheet.specs.declared.sheet.Sheet.{Sheet}
use Rattle.jam_adopt.specs.declared.found.Found.{Found}
use Rattle.jam_records.specs.declared.message.Message.{Message}
use Rattle.cmd_messages.specs.mail_board.Readers.{is_offered, offer_of, user_id}
use Rattle.cmd_messages.specs.mail_board.declared.change.Change.{Change}
use Rattle.cmd_messages.specs.mail_board.declared.change.Change.TheVariants.{Enroll, Append, Spread, Kill, Offer, Acknowledge}
use Rattle.cmd_messages.specs.mail_board.declared.change.Change.TheVariants as change
use Rattle.cmd_messages.specs.Import.{ImportsAt, appending, import_refusals, imported_messages, sheet_turn}
use Rattle.cmd_messages.specs.Kill.{has_message, kill_at, killed_line, killing}
use Rattle.offer_changes.specs.Changed.{acknowledged}
use Rattle.offered_packets.specs.Offered.{highs, offered}
use Rattle.cmd_pack.specs.Pack.{pack_at}
use Rattle.cmd_messages.specs.packet_verdicts.Judged.{judged, refused_count}
use Rattle.cmd_messages.specs.Sample.{sample_refusals, sampled_posts, sampling}
use Rattle.setup_file.specs.declared.fields.SetupFields.{SetupFields}
use Rattle.cmd_messages.specs.shelf_files.ShelfFile.{file_within, rep_limit}
use Rattle.cmd_messages.specs.shelf_files.Halts.{done}
use Rattle.cmd_messages.specs.shelf_files.declared.refusal.Refusal.{Refusal}
use Rattle.cmd_messages.specs.shelf_files.declared.refusal.Refusal.TheVariants.{NoMessage}
use Rattle.sha2.specs.Sha256.{sha256}
use Rattle.post_changes.specs.slot_changes.Changed.{deleted}
use Rattle.cmd_exchange.specs.Upload.{UploadsFile, UploadsRead}
use Rattle.cmd_toss.specs.Toss.{packet_turn}
use Rattle.cmd_toss.specs.Tossed.{tossed}

-- ---- from no board
-- there is still none, or one that was made of a setup
abbrev pub FromNone : ℕ → State → Type 0
FromNone now next = (next ≡ NotMade) ⊎ ((setup : SetupFields) × (next ≡ Made (made setup now)))

pub from_none : (now : ℕ) (c : BoardCommand) (shelf : ShelfFiles) (stepped : Stepped (World State)) → board_does now c (here NotMade shelf) stepped → FromNone now stepped.world.state
from_none now (command.Init file) shelf stepped (same, (turn, (read, reads, is), next, reply)) = by read is
  where
    by : (read : Result SetupFields Refusal) → turn ≡ made_of now read → FromNone now stepped.world.state
    by (Ok setup) is = inr (setup, next ∙ ap (λ (t : Turn). state_of t.board) is)
    by (Err why) is = inl (next ∙ ap (λ (t : Turn). state_of t.board) is)
from_none now (command.Enroll name flags conferences) shelf stepped (same, (turn, (choice, reads, is), next, reply)) = inl (next ∙ ap (λ (t : Turn). state_of t.board) is)
from_none now command.Check shelf stepped (same, (turn, is, next, reply)) = inl (next ∙ ap (λ (t : Turn). state_of t.board) is)
from_none now (command.Import conference file) shelf stepped (same, (turn, is, next, reply)) = inl (next ∙ ap (λ (t : Turn). state_of t.board) is)
from_none now (command.Adopt conference prefix) shelf stepped (same, (turn, is, next, reply)) = inl (next ∙ ap (λ (t : Turn). state_of t.board) is)
from_none now (command.Toss file) shelf stepped (same, (turn, is, next, reply)) = inl (next ∙ ap (λ (t : Turn). state_of t.board) is)
from_none now (command.Kill conference number) shelf stepped (same, (turn, is, next, reply)) = inl (next ∙ ap (λ (t : Turn). state_of t.board) is)
from_none now (command.Pack conference) shelf stepped (same, (turn, is, next, reply)) = inl (next ∙ ap (λ (t : Turn). state_of t.board) is)
from_none now (command.Export name limit folder) shelf stepped (handing, is, next, new, reply) = inl (next ∙ ap (λ (h : Handing). state_of h.board) is)
from_none now (command.Ack name packet) shelf stepped (same, (turn, is, next, reply)) = inl (next ∙ ap (λ (t : Turn). state_of t.board) is)
from_none now (command.Upload name file) shelf stepped (same, (turn, is, next, reply)) = inl (next ∙ ap (λ (t : Turn). state_of t.board) is)
from_none now (command.Sample seed count) shelf stepped (same, (turn, is, next, reply)) = inl (next ∙ ap (λ (t : Turn). state_of t.board) is)
from_none now command.Other shelf stepped same = inl same

-- ---- from a board
-- the user of this id acknowledges a packet that is offered to him
pub record Acknowledging (b : Board) (c : BoardCommand) (class : Class) (user packet : ℕ) : Type 0 where
  pub name : List ℕ
  pub command : c ≡ command.Ack name packet
  pub user_is : user_id name b ≡ Some user
  pub offer : is_offered user packet b ≡ true
  pub done : class ≡ Done

-- a packet with these highs is exported to the user of this id
pub record Exporting (now : ℕ) (b : Board) (c : BoardCommand) (class : Class) (user : ℕ) (given : List ℕ) : Type 0 where
  pub name : List ℕ
  pub limit : ℕ
  pub folder : List ℕ
  pub command : c ≡ command.Export name limit folder
  pub user_is : user_id name b ≡ Some user
  pub u : User
  pub there : user_of user b ≡ Some u
  pub highs_are : given ≡ highs b (offered b user limit)
  pub handout : Handout
  pub export : export_of name limit now b ≡ Ok handout
  pub packet_is : handout.answer.packet ≡ u.last + 1
  pub done : class ≡ Done

-- why a command makes a change
abbrev pub Because : ℕ → Board → BoardCommand → Class → Change → Type 0
Because now b c class (Enroll name net members) = Unit {0}
Because now b c class (Append place messages) = Unit {0}
Because now b c class (Spread posts) = Unit {0}
Because now b c class (Kill place number) = Unit {0}
Because now b c class (Offer user given) = Exporting now b c class user given
Because now b c class (Acknowledge user packet at) = Acknowledging b c class user packet
Because now b c class (change.Upload user digest refused posts) = Unit {0}

-- and so of a pack, for which there is nothing to know
abbrev pub BecauseOf : ℕ → Board → BoardCommand → Class → Move → Type 0
BecauseOf now b c class (Makes change) = Because now b c class change
BecauseOf now b c class (Packs place) = Unit {0}

-- the board stays, or is moved on
abbrev pub Turns : ℕ → Board → BoardCommand → State → Class → Type 0
Turns now b c next class = (next ≡ Made b) ⊎ ((move : Move) × (next ≡ Made (moved move b)) × BecauseOf now b c class move)

module _ (now : ℕ) (b : Board) (c : BoardCommand) (next : State) (class : Class) where
  -- ---- users and messages
  by_enroll : (name : List ℕ) (net : Bool) (choice : Choice) (why : Option Refusal) (turn : Turn) → turn ≡ enrolling name net choice b why → next ≡ state_of turn.board → Turns now b c next class
  by_enroll name net choice None turn is then = inr (Makes (Enroll name net (chosen_from choice 0 b.ledger.setup.conferences)), then ∙ ap (λ (t : Turn). state_of t.board) is, tt)
  by_enroll name net choice (Some why) turn is then = inl (then ∙ ap (λ (t : Turn). state_of t.board) is)

  by_append : (conference place : ℕ) (messages : List Message) (why : Option Refusal) (turn : Turn) → turn ≡ appending conference place messages b why → next ≡ state_of turn.board → Turns now b c next class
  by_append conference place messages None turn is then = inr (Makes (Append place messages), then ∙ ap (λ (t : Turn). state_of t.board) is, tt)
  by_append conference place messages (Some why) turn is then = inl (then ∙ ap (λ (t : Turn). state_of t.board) is)

  by_sample : (seed count : ℕ) (why : Option Refusal) (turn : Turn) → turn ≡ sampling seed count now b why → next ≡ state_of turn.board → Turns now b c next class
  by_sample seed count None turn is then = inr (Makes (Spread (sampled_posts seed now b count)), then ∙ ap (λ (t : Turn). state_of t.board) is, tt)
  by_sample seed count (Some why) turn is then = inl (then ∙ ap (λ (t : Turn). state_of t.board) is)

  by_sheet : (conference place : ℕ) (read : Result (List Sheet) Refusal) (turn : Turn) → turn ≡ sheet_turn conference now place b read → next ≡ state_of turn.board → Turns now b c next class
  by_sheet conference place (Err why) turn is then = inl (then ∙ ap (λ (t : Turn). state_of t.board) is)
  by_sheet conference place (Ok entries) turn is then =
      let messages : List Message = imported_messages now place b entries in
      by_append conference place messages (first_refusal (import_refusals place messages b)) turn is then

  by_place : (conference : ℕ) (file : List ℕ) (shelf : ShelfFiles) (o : Option ℕ) (turn : Turn) → ImportsAt conference file now shelf b o turn → next ≡ state_of turn.board → Turns now b c next class
  by_place conference file shelf None turn is then = inl (then ∙ ap (λ (t : Turn). state_of t.board) is)
  by_place conference file shelf (Some place) turn (read, reads, is) then = by_sheet conference place read turn is then

  by_base : (conference place : ℕ) (read : Result (List Found) Refusal) (turn : Turn) → turn ≡ base_turn conference place b read → next ≡ state_of turn.board → Turns now b c next class
  by_base conference place (Err why) turn is then = inl (then ∙ ap (λ (t : Turn). state_of t.board) is)
  by_base conference place (Ok records) turn is then = inr (Makes (Spread (adopted conference place b records).1), then ∙ ap (λ (t : Turn). state_of t.board) is, tt)

  by_adopt : (conference : ℕ) (prefix : List ℕ) (shelf : ShelfFiles) (o : Option ℕ) (turn : Turn) → turn ≡ adopt_at conference prefix shelf b o → next ≡ state_of turn.board → Turns now b c next class
  by_adopt conference prefix shelf None turn is then = inl (then ∙ ap (λ (t : Turn). state_of t.board) is)
  by_adopt conference prefix shelf (Some place) turn is then = by_base conference place (base_of shelf prefix) turn is then

  by_packet : (read : Result (List FtsMessage) Refusal) (turn : Turn) → turn ≡ packet_turn now b read → next ≡ state_of turn.board → Turns now b c next class
  by_packet (Err why) turn is then = inl (then ∙ ap (λ (t : Turn). state_of t.board) is)
  by_packet (Ok messages) turn is then = inr (Makes (Spread (tossed b now messages).1), then ∙ ap (λ (t : Turn). state_of t.board) is, tt)

  by_kill : (conference number place : ℕ) (has : Bool) (turn : Turn) → has_message place number b ≡ has → turn ≡ killing conference number place b → next ≡ state_of turn.board → Turns now b c next class
  by_kill conference number place true turn has is then =
      inr (Makes (Kill place number), then ∙ (ap (λ (t : Turn). state_of t.board) is ∙ ap (λ (t : Turn). state_of t.board) (cond-true (has_message place number b) (record { board = Some (deleted place number b); reply = done (killed_line conference number) }) (refuses NoMessage (Some b)) has)), tt)
  by_kill conference number place false turn has is then =
      inl (then ∙ (ap (λ (t : Turn). state_of t.board) is ∙ ap (λ (t : Turn). state_of t.board) (cond-false (has_message place number b) (record { board = Some (deleted place number b); reply = done (killed_line conference number) }) (refuses NoMessage (Some b)) has)))

  by_kill_at : (conference number : ℕ) (o : Option ℕ) (turn : Turn) → turn ≡ kill_at conference number b o → next ≡ state_of turn.board → Turns now b c next class
  by_kill_at conference number None turn is then = inl (then ∙ ap (λ (t : Turn). state_of t.board) is)
  by_kill_at conference number (Some place) turn is then = by_kill conference number place (has_message place number b) turn refl is then

  by_pack : (conference : ℕ) (o : Option ℕ) (turn : Turn) → turn ≡ pack_at conference b o → next ≡ state_of turn.board → Turns now b c next class
  by_pack conference None turn is then = inl (then ∙ ap (λ (t : Turn). state_of t.board) is)
  by_pack conference (Some place) turn is then = inr (Packs place, then ∙ ap (λ (t : Turn). state_of t.board) is, tt)

  -- ---- packets
  by_export : (name : List ℕ) (limit : ℕ) (folder : List ℕ) (shelf : ShelfFiles) (handing : Handing) → c ≡ command.Export name limit folder → handing ≡ handing_of folder shelf b (export_of name limit now b) → next ≡ state_of handing.board
      → class ≡ handing.reply.class → Turns now b c next class
  by_export name limit folder shelf handing is_command is then class_is = by_id (user_id name b) refl
    where
      Ends : Result Handout ExportRefusal → Type 0
      Ends r = export_of name limit now b ≡ r → handing ≡ handing_of folder shelf b r → Turns now b c next class

      refused : (why : ExportRefusal) → Ends (Err why)
      refused why given is = inl (then ∙ ap (λ (h : Handing). state_of h.board) is)

      by_refusal : (id : ℕ) (u : User) → user_id name b ≡ Some id → user_of id b ≡ Some u → (why : Option ExportRefusal) → Ends (handed_unless_refused (packet_to limit now b id u) why)
      by_refusal id u user there (Some why) given is = refused why given is
      by_refusal id u user there None given is = inr (
        Makes (Offer id (highs b (offered b id limit))),
        then ∙ ap (λ (h : Handing). state_of h.board) is,
        record {
          name = name;
          limit = limit;
          folder = folder;
          command = is_command;
          user_is = user;
          u = u;
          there = there;
          highs_are = refl;
          handout = packet_to limit now b id u;
          export = given;
          packet_is = refl;
          done = class_is ∙ ap (λ (h : Handing). h.reply.class) is;
        },
      )

      by_user : (id : ℕ) → user_id name b ≡ Some id → (o : Option User) → user_of id b ≡ o → Ends (export_to limit now b id o)
      by_user id user None none given is = refused NoUser given is
      by_user id user (Some u) there given is = by_refusal id u user there (user_refusal limit u) given is

      by_id : (o : Option ℕ) → user_id name b ≡ o → Turns now b c next class
      by_id None none = refused NoUser (ap (export_as limit now b) none) (is ∙ ap (λ (o : Option ℕ). handing_of folder shelf b (export_as limit now b o)) none)
      by_id (Some id) user = by_user id user (user_of id b) refl (ap (export_as limit now b) user) (is ∙ ap (λ (o : Option ℕ). handing_of folder shelf b (export_as limit now b o)) user)

  by_ack : (name : List ℕ) (packet : ℕ) (turn : Turn) → c ≡ command.Ack name packet → turn ≡ ack_turn_of packet b (ack_of name packet now b) → next ≡ state_of turn.board → class ≡ turn.reply.class → Turns now b c next class
  by_ack name packet turn is_command is then class_is = by_id (user_id name b) refl
    where
      Ends : Result Board AckRefusal → Type 0
      Ends r = turn ≡ ack_turn_of packet b r → Turns now b c next class

      refused : (why : AckRefusal) → Ends (Err why)
      refused why is = inl (then ∙ ap (λ (t : Turn). state_of t.board) is)

      by_offer : (id : ℕ) → user_id name b ≡ Some id → (has : Bool) → is_offered id packet b ≡ has → Ends (cond has (Ok (acknowledged id packet now b)) (Err (NoPacket (offer_of id b))))
      by_offer id user false there is = refused (NoPacket (offer_of id b)) is
      by_offer id user true there is = inr (
        Makes (Acknowledge id packet now),
        then ∙ ap (λ (t : Turn). state_of t.board) is,
        record {
          name = name;
          command = is_command;
          user_is = user;
          offer = there;
          done = class_is ∙ ap (λ (t : Turn). t.reply.class) is;
        },
      )

      by_id : (o : Option ℕ) → user_id name b ≡ o → Turns now b c next class
      by_id None none = refused why.NoUser (is ∙ ap (λ (o : Option ℕ). ack_turn_of packet b (ack_as packet now b o)) none)
      by_id (Some id) user = by_offer id user (is_offered id packet b) refl (is ∙ ap (λ (o : Option ℕ). ack_turn_of packet b (ack_as packet now b o)) user)

  -- ---- uploads
  by_read : (user : ℕ) (read : Result (List ℕ) Refusal) (turn : Turn) → UploadsRead user now b read turn → next ≡ state_of turn.board → Turns now b c next class
  by_read user (Err why) turn is then = inl (then ∙ ap (λ (t : Turn). state_of t.board) is)
  by_read user (Ok bytes) turn (r, comes, is) then = by (upload_turns now b user bytes next turn.reply turn then refl r comes is)
    where
      by : UploadTurns now b user (sha256 bytes) next turn.reply → Turns now b c next class
      by (inl refused) = inl refused.same
      by (inr (inl again)) = inl again.same
      by (inr (inr judgement)) = inr (Makes (change.Upload user (sha256 bytes) (refused_count (judged b user now judgement.messages).0) (judged b user now judgement.messages).1), judgement.made, tt)

  by_file : (file : List ℕ) (shelf : ShelfFiles) (o : Option ℕ) (turn : Turn) → UploadsFile file now shelf b o turn → next ≡ state_of turn.board → Turns now b c next class
  by_file file shelf None turn is then = inl (then ∙ ap (λ (t : Turn). state_of t.board) is)
  by_file file shelf (Some user) turn is then = by_read user (file_within shelf file rep_limit) turn is then

-- Each command on a board.
pub turn_on : (now : ℕ) (b : Board) (c : BoardCommand) (shelf : ShelfFiles) (stepped : Stepped (World State)) → board_does now c (here (Made b) shelf) stepped → Turns now b c stepped.world.state stepped.class
turn_on now b (command.Init file) shelf stepped (same, (turn, is, next, reply)) = inl (next ∙ ap (λ (t : Turn). state_of t.board) is)
turn_on now b (command.Enroll name flags conferences) shelf stepped (same, (turn, (choice, reads, is), next, reply)) =
    by_enroll now b (command.Enroll name flags conferences) stepped.world.state stepped.class name (is_net_flag flags) choice (first_refusal (enroll_refusals name (is_net_flag flags) choice b)) turn is next
turn_on now b command.Check shelf stepped (same, (turn, is, next, reply)) = inl (next ∙ ap (λ (t : Turn). state_of t.board) is)
turn_on now b (command.Import conference file) shelf stepped (same, (turn, is, next, reply)) = by_place now b (command.Import conference file) stepped.world.state stepped.class conference file shelf (place_of conference b) turn is next
turn_on now b (command.Adopt conference prefix) shelf stepped (same, (turn, is, next, reply)) =
    by_adopt now b (command.Adopt conference prefix) stepped.world.state stepped.class conference prefix shelf (place_of conference b) turn is next
turn_on now b (command.Toss file) shelf stepped (same, (turn, (read, reads, is), next, reply)) = by_packet now b (command.Toss file) stepped.world.state stepped.class read turn is next
turn_on now b (command.Kill conference number) shelf stepped (same, (turn, is, next, reply)) = by_kill_at now b (command.Kill conference number) stepped.world.state stepped.class conference number (place_of conference b) turn is next
turn_on now b (command.Pack conference) shelf stepped (same, (turn, is, next, reply)) = by_pack now b (command.Pack conference) stepped.world.state stepped.class conference (place_of conference b) turn is next
turn_on now b (command.Export name limit folder) shelf stepped (handing, is, next, new, reply) =
    by_export now b (command.Export name limit folder) stepped.world.state stepped.class name limit folder shelf handing refl is next (ap (λ (r : Reply). r.class) reply)
turn_on now b (command.Ack name packet) shelf stepped (same, (turn, is, next, reply)) = by_ack now b (command.Ack name packet) stepped.world.state stepped.class name packet turn refl is next (ap (λ (r : Reply). r.class) reply)
turn_on now b (command.Upload name file) shelf stepped (same, (turn, is, next, reply)) =
    by_file now b (command.Upload name file) stepped.world.state stepped.class file shelf (user_id name b) turn is next
turn_on now b (command.Sample seed count) shelf stepped (same, (turn, is, next, reply)) =
    by_sample now b (command.Sample seed count) stepped.world.state stepped.class seed count (first_refusal (sample_refusals seed count now b)) turn is next
turn_on now b command.Other shelf stepped same = inl same
