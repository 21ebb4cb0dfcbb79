-- The turns of `adopt` give what a lawful act asks.
use Rattle.std.proofs.Common.{◌≡◌, ◌≢◌, ℕ, ◌-◌, List, [], ◌∷◌, ◌++◌, length, Option, Some, None, Result, Ok, Err, sym, ◌∙◌, subst}
use Rattle.cmd_board.proofs.BoardActs.{AreTurns}
use Rattle.cmd_board.proofs.TurnLaws.{IsTurn, are_turns, done_is, refuses_is}
use Rattle.board_layout.specs.Board.{Board}
use Rattle.board_layout.specs.Lookups.{place_of}
use Rattle.door_outside.specs.Shelf.{ShelfFiles}
use Rattle.jam_adopt.specs.declared.found.Found.{Found}
use Rattle.jam_records.specs.declared.message.Message.{Message}
use Rattle.mail_intake.specs.Lines.{counts_line, intake_text}
use Rattle.post_changes.specs.Posted.{spread}
use Rattle.shelf_files.specs.declared.refusal.Refusal.{Refusal}
use Rattle.shelf_files.specs.declared.refusal.Refusal.TheVariants.{NotMade, NoConference}
use Rattle.cmd_adopt.specs.Adopt.{adopt_at, adopt_turn, base_turn}
use Rattle.cmd_adopt.specs.Adopted.{adopted}
use Rattle.cmd_adopt.specs.BaseFiles.{base_of}

counts_some : (posted refused : ℕ) → counts_line posted refused ≢ []
counts_some posted refused is = absurd (cc is)

text_some : (lines rest : List ℕ) → rest ≢ [] → lines ++ rest ≢ []
text_some [] rest some is = some is
text_some (b ∷ lines) rest some is = absurd (cc is)

module _ (conference : ℕ) where
  base_is : (place : ℕ) (b : Board) (read : Result (List Found) Refusal) → IsTurn (Some b) (base_turn conference place b read)
  base_is place b (Err why) = refuses_is why (Some b)
  base_is place b (Ok records) =
      let all : List ℕ × List (ℕ × Message) = adopted conference place b records in
      done_is (Some b) (Some (spread all.1 b)) (intake_text (length records) all) (text_some all.0 (counts_line (length all.1) (length records - length all.1)) (counts_some (length all.1) (length records - length all.1)))

  module _ (prefix : List ℕ) (shelf : ShelfFiles) where
    at_is : (b : Board) (place : Option ℕ) → IsTurn (Some b) (adopt_at conference prefix shelf b place)
    at_is b None = refuses_is NoConference (Some b)
    at_is b (Some place) = base_is place b (base_of shelf prefix)

    turn_is : (board : Option Board) → IsTurn board (adopt_turn conference prefix shelf board)
    turn_is None = refuses_is NotMade None
    turn_is (Some b) = at_is b (place_of conference b)

pub adopt_turns : (conference : ℕ) (prefix : List ℕ) → AreTurns (λ shelf board turn. turn ≡ adopt_turn conference prefix shelf board)
adopt_turns conference prefix = are_turns (λ shelf board turn. turn ≡ adopt_turn conference prefix shelf board)
    (λ shelf board turn is. subst (IsTurn board) (sym is) (turn_is conference prefix shelf board))
    (λ shelf board one other first second. first ∙ sym second)
