-- The turns of `toss` give what a lawful act asks.
use Rattle.std.proofs.Common.{◌≡◌, ◌≢◌, ℕ, ◌-◌, List, [], ◌∷◌, ◌++◌, length, Option, Some, None, Result, Ok, Err, sym, ◌∙◌, ap, subst}
use Rattle.cmd_board.proofs.BoardActs.{AreTurns}
use Rattle.cmd_board.proofs.TurnLaws.{IsTurn, are_turns, done_is, refuses_is}
use Rattle.cmd_board.specs.Turns.{Turn}
use Rattle.board_layout.specs.Board.{Board}
use Rattle.door_outside.specs.Shelf.{ShelfFiles}
use Rattle.fts_packet.specs.declared.packet.FtsMessage.{FtsMessage}
use Rattle.jam_records.specs.declared.message.Message.{Message}
use Rattle.mail_intake.specs.Lines.{counts_line, intake_text}
use Rattle.post_changes.specs.Posted.{spread}
use Rattle.shelf_files.specs.declared.refusal.Refusal.{Refusal}
use Rattle.shelf_files.specs.declared.refusal.Refusal.TheVariants.{NotMade}
use Rattle.cmd_toss.proofs.PacketLaws.{packet_unique}
use Rattle.cmd_toss.specs.Toss.{Tosses, packet_turn}
use Rattle.cmd_toss.specs.Tossed.{tossed}

counts_some : (posted refused : ℕ) → counts_line posted refused ≢ []
counts_some posted refused is = absurd (cc is)

text_some : (lines rest : List ℕ) → rest ≢ [] → lines ++ rest ≢ []
text_some [] rest some is = some is
text_some (b ∷ lines) rest some is = absurd (cc is)

module _ (file : List ℕ) (now : ℕ) where
  packet_is : (b : Board) (read : Result (List FtsMessage) Refusal) → IsTurn (Some b) (packet_turn now b read)
  packet_is b (Err why) = refuses_is why (Some b)
  packet_is b (Ok messages) =
      let all : List ℕ × List (ℕ × Message) = tossed b now messages in
      done_is (Some b) (Some (spread all.1 b)) (intake_text (length messages) all) (text_some all.0 (counts_line (length all.1) (length messages - length all.1)) (counts_some (length all.1) (length messages - length all.1)))

  module _ (shelf : ShelfFiles) where
    tosses_is : (board : Option Board) (turn : Turn) → Tosses file now shelf board turn → IsTurn board turn
    tosses_is None turn is = subst (IsTurn None) (sym is) (refuses_is NotMade None)
    tosses_is (Some b) turn is = subst (IsTurn (Some b)) (sym is.2) (packet_is b is.0)

    tosses_once : (board : Option Board) (one other : Turn) → Tosses file now shelf board one → Tosses file now shelf board other → one ≡ other
    tosses_once None one other first second = first ∙ sym second
    tosses_once (Some b) one other first second = first.2 ∙ (ap (packet_turn now b) (packet_unique shelf file first.0 second.0 first.1 second.1) ∙ sym second.2)

pub toss_turns : (file : List ℕ) (now : ℕ) → AreTurns (Tosses file now)
toss_turns file now = are_turns (Tosses file now) (tosses_is file now) (tosses_once file now)
