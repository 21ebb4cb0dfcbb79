-- The turns of `import` and `kill` give what a lawful act asks.
use Rattle.std.proofs.Common.{◌≡◌, ◌≢◌, ℕ, List, [], Bool, true, false, cond, length, Option, Some, None, Result, Ok, Err, sym, ◌∙◌, ap, subst}
use Rattle.cmd_board.proofs.BoardActs.{AreTurns}
use Rattle.cmd_board.proofs.TurnLaws.{IsTurn, are_turns, done_is, refuses_is, turns_of}
use Rattle.cmd_board.specs.Enroll.{first_refusal}
use Rattle.cmd_board.specs.Turns.{Turn, refuses}
use Rattle.board_layout.specs.Board.{Board}
use Rattle.board_layout.specs.Lookups.{place_of}
use Rattle.door_outside.specs.Shelf.{ShelfFiles}
use Rattle.import_sheet.specs.declared.sheet.Sheet.{Sheet}
use Rattle.jam_records.specs.declared.message.Message.{Message}
use Rattle.cmd_board.proofs.shelf_files.SheetLaws.{sheet_unique}
use Rattle.cmd_board.specs.shelf_files.Halts.{done}
use Rattle.cmd_board.specs.shelf_files.declared.refusal.Refusal.{Refusal}
use Rattle.cmd_board.specs.shelf_files.declared.refusal.Refusal.TheVariants.{NotMade, NoConference, NoMessage}
use Rattle.post_changes.specs.slot_changes.Changed.{appended, deleted}
use Rattle.cmd_messages.specs.Import.{Imports, ImportsAt, appending, import_refusals, imported_line, imported_messages, sheet_turn}
use Rattle.cmd_messages.specs.Kill.{has_message, kill_at, kill_turn, killed_line}

-- ---- import
imported_some : (conference count : ℕ) → imported_line conference count ≢ []
imported_some conference count is = absurd (cc is)

module _ (conference now : ℕ) where
  appending_is : (place : ℕ) (messages : List Message) (b : Board) (why : Option Refusal) → IsTurn (Some b) (appending conference place messages b why)
  appending_is place messages b (Some why) = refuses_is why (Some b)
  appending_is place messages b None = done_is (Some b) (Some (appended place messages b)) (imported_line conference (length messages)) (imported_some conference (length messages))

  sheet_is : (place : ℕ) (b : Board) (read : Result (List Sheet) Refusal) → IsTurn (Some b) (sheet_turn conference now place b read)
  sheet_is place b (Err why) = refuses_is why (Some b)
  sheet_is place b (Ok entries) =
      let messages : List Message = imported_messages now place b entries in
      appending_is place messages b (first_refusal (import_refusals place messages b))

  module _ (file : List ℕ) (shelf : ShelfFiles) where
    at_is : (b : Board) (place : Option ℕ) (turn : Turn) → ImportsAt conference file now shelf b place turn → IsTurn (Some b) turn
    at_is b None turn is = subst (IsTurn (Some b)) (sym is) (refuses_is NoConference (Some b))
    at_is b (Some place) turn is = subst (IsTurn (Some b)) (sym is.2) (sheet_is place b is.0)

    imports_is : (board : Option Board) (turn : Turn) → Imports conference file now shelf board turn → IsTurn board turn
    imports_is None turn is = subst (IsTurn None) (sym is) (refuses_is NotMade None)
    imports_is (Some b) turn is = at_is b (place_of conference b) turn is

    at_once : (b : Board) (place : Option ℕ) (one other : Turn) → ImportsAt conference file now shelf b place one → ImportsAt conference file now shelf b place other → one ≡ other
    at_once b None one other first second = first ∙ sym second
    at_once b (Some place) one other first second = first.2 ∙ (ap (sheet_turn conference now place b) (sheet_unique shelf file first.0 second.0 first.1 second.1) ∙ sym second.2)

    imports_once : (board : Option Board) (one other : Turn) → Imports conference file now shelf board one → Imports conference file now shelf board other → one ≡ other
    imports_once None one other first second = first ∙ sym second
    imports_once (Some b) one other first second = at_once b (place_of conference b) one other first second

pub import_turns : (conference : ℕ) (file : List ℕ) (now : ℕ) → AreTurns (Imports conference file now)
import_turns conference file now = are_turns (Imports conference file now) (imports_is conference now file) (imports_once conference now file)

-- ---- kill
killed_some : (conference number : ℕ) → killed_line conference number ≢ []
killed_some conference number is = absurd (cc is)

module _ (conference number : ℕ) where
  killing_is : (b : Board) (place : ℕ) (has : Bool) → IsTurn (Some b) (cond has (record { board = Some (deleted place number b); reply = done (killed_line conference number) }) (refuses NoMessage (Some b)))
  killing_is b place true = done_is (Some b) (Some (deleted place number b)) (killed_line conference number) (killed_some conference number)
  killing_is b place false = refuses_is NoMessage (Some b)

  kill_at_is : (b : Board) (place : Option ℕ) → IsTurn (Some b) (kill_at conference number b place)
  kill_at_is b None = refuses_is NoConference (Some b)
  kill_at_is b (Some place) = killing_is b place (has_message place number b)

  kill_is : (board : Option Board) → IsTurn board (kill_turn conference number board)
  kill_is None = refuses_is NotMade None
  kill_is (Some b) = kill_at_is b (place_of conference b)

pub kill_turns : (conference number : ℕ) → AreTurns (λ shelf board turn. turn ≡ kill_turn conference number board)
kill_turns conference number = turns_of (kill_turn conference number) (kill_is conference number)
