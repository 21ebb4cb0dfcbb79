-- The handings of `export` and the turns of `ack` give what a lawful act asks.
use Rattle.std.proofs.Common.{◌≡◌, ◌≢◌, ℕ, List, [], Option, Some, None, Ok, Err, refl, sym, ◌∙◌, subst}
use Rattle.std.specs.Prelude.{Result}
use Rattle.cmd_board.proofs.BoardActs.{AreTurns, KeepsState}
use Rattle.cmd_board.proofs.TurnLaws.{IsTurn, refuses_is as refuses_turn, turns_of}
use Rattle.board_layout.specs.Board.{Board}
use Rattle.door_export.proofs.FolderLaws.{packet_stays}
use Rattle.door_export.specs.Ack.{AckRefusal, ack_of}
use Rattle.door_export.specs.Export.{ExportRefusal, Handout, export_of}
use Rattle.door_export.specs.Folder.{folder_names}
use Rattle.door_export.specs.declared.exporting.Exported.{Exported}
use Rattle.door_outside.specs.Shelf.{ShelfFiles, SameBut}
use Rattle.entry_runs.specs.Door.{IsLawful}
use Rattle.entry_runs.specs.declared.class.Class.TheVariants as class
use Rattle.shelf_files.proofs.Replies.{some_refusal}
use Rattle.shelf_files.specs.declared.refusal.Refusal.{Refusal}
use Rattle.shelf_files.specs.declared.refusal.Refusal.TheVariants.{NotMade}
use Rattle.cmd_exchange.proofs.HandingActs.{AreHandings, keeps_handing, lawful_handing}
use Rattle.cmd_exchange.specs.Ack.{ack_turn, acknowledged_line, ack_refusal, acknowledged_turn}
use Rattle.cmd_exchange.specs.Export.{export_handing, exports, handing_of, packet_line, export_refusal}
use Rattle.cmd_exchange.specs.Handing.{Handing, refused_handing}

-- ---- export
packet_said : (e : Exported) → packet_line e ≢ []
packet_said e is = absurd (cc is)

-- a handing that says something and no damage, writes these names alone, and leaves all where it refuses
record IsHanding (names : List (List ℕ)) (shelf : ShelfFiles) (board : Option Board) (h : Handing) : Type 0 where
  says : h.reply.text ≢ []
  refused_board : h.reply.class ≡ class.Refused → h.board ≡ board
  refused_shelf : h.reply.class ≡ class.Refused → h.shelf ≡ shelf
  undamaged : h.reply.class ≢ class.Damaged
  within : SameBut names shelf h.shelf

refuses_is : (names : List (List ℕ)) (why : Refusal) (shelf : ShelfFiles) (board : Option Board) → IsHanding names shelf board (refused_handing why shelf board)
refuses_is names why shelf board = record {
  says = some_refusal why;
  refused_board = λ is. refl;
  refused_shelf = λ is. refl;
  undamaged = λ is. absurd (cc is);
  within = λ name apart. refl;
}

module _ (name : List ℕ) (limit : ℕ) (folder : List ℕ) (now : ℕ) where
  handing_is : (shelf : ShelfFiles) (b : Board) (r : Result Handout ExportRefusal) → IsHanding (folder_names folder) shelf (Some b) (handing_of folder shelf b r)
  handing_is shelf b (Err why) = refuses_is (folder_names folder) (export_refusal why) shelf (Some b)
  handing_is shelf b (Ok p) = record {
    says = packet_said p.answer;
    refused_board = λ is. absurd (cc is);
    refused_shelf = λ is. absurd (cc is);
    undamaged = λ is. absurd (cc is);
    within = packet_stays folder p.controls p.messages shelf;
  }

  export_is : (shelf : ShelfFiles) (board : Option Board) → IsHanding (folder_names folder) shelf board (export_handing name limit folder now shelf board)
  export_is shelf None = refuses_is (folder_names folder) NotMade shelf None
  export_is shelf (Some b) = handing_is shelf b (export_of name limit now b)

  handed_is : (shelf : ShelfFiles) (board : Option Board) (h : Handing) → h ≡ export_handing name limit folder now shelf board → IsHanding (folder_names folder) shelf board h
  handed_is shelf board h is = subst (IsHanding (folder_names folder) shelf board) (sym is) (export_is shelf board)

  export_handings : AreHandings (folder_names folder) (λ shelf board h. h ≡ export_handing name limit folder now shelf board)
  export_handings = record {
    says = λ shelf board h is. (handed_is shelf board h is).says;
    refused_board = λ shelf board h is. (handed_is shelf board h is).refused_board;
    refused_shelf = λ shelf board h is. (handed_is shelf board h is).refused_shelf;
    undamaged = λ shelf board h is. (handed_is shelf board h is).undamaged;
    within = λ shelf board h is. (handed_is shelf board h is).within;
    one_handing = λ shelf board one other first second. first ∙ sym second;
  }

  pub lawful_exports : IsLawful (exports name limit folder now)
  lawful_exports = lawful_handing (folder_names folder) (λ shelf board h. h ≡ export_handing name limit folder now shelf board) export_handings

  pub keeps_exports : KeepsState (exports name limit folder now)
  keeps_exports = keeps_handing (folder_names folder) (λ shelf board h. h ≡ export_handing name limit folder now shelf board) export_handings

-- ---- ack
ack_said : (packet : ℕ) → acknowledged_line packet ≢ []
ack_said packet is = absurd (cc is)

turned_is : (packet : ℕ) (b : Board) (r : Result Board AckRefusal) → IsTurn (Some b) (acknowledged_turn packet b r)
turned_is packet b (Err why) = refuses_turn (ack_refusal why) (Some b)
turned_is packet b (Ok next) = record { says = ack_said packet; refused = λ is. absurd (cc is); undamaged = λ is. absurd (cc is) }

module _ (name : List ℕ) (packet now : ℕ) where
  ack_is : (board : Option Board) → IsTurn board (ack_turn name packet now board)
  ack_is None = refuses_turn NotMade None
  ack_is (Some b) = turned_is packet b (ack_of name packet now b)

  pub ack_turns : AreTurns (λ shelf board turn. turn ≡ ack_turn name packet now board)
  ack_turns = turns_of (ack_turn name packet now) ack_is
