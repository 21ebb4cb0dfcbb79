-- What a turn of a command gives, of which follows that its turns are lawful.
use Rattle.std.proofs.Common.{◌≡◌, ◌≢◌, ℕ, List, [], Option, refl, sym, ◌∙◌, subst}
use Rattle.cmd_board.specs.Turns.{Turn, refuses}
use Rattle.board_layout.specs.Board.{Board}
use Rattle.door_outside.specs.Shelf.{ShelfFiles}
use Rattle.entry_runs.specs.declared.class.Class.TheVariants as class
use Rattle.shelf_files.proofs.Replies.{some_refusal}
use Rattle.shelf_files.specs.Halts.{done}
use Rattle.shelf_files.specs.declared.refusal.Refusal.{Refusal}
use Rattle.cmd_board.proofs.BoardActs.{AreTurns}

-- a turn of a board, or of none, that says something and no damage, and leaves the board where it refuses
pub record IsTurn (board : Option Board) (turn : Turn) : Type 0 where
  pub says : turn.reply.text ≢ []
  pub refused : turn.reply.class ≡ class.Refused → turn.board ≡ board
  pub undamaged : turn.reply.class ≢ class.Damaged

pub refuses_is : (why : Refusal) (board : Option Board) → IsTurn board (refuses why board)
refuses_is why board = record { says = some_refusal why; refused = λ is. refl; undamaged = λ is. absurd (cc is) }

pub done_is : (board next : Option Board) (text : List ℕ) → text ≢ [] → IsTurn board (record { board = next; reply = done text })
done_is board next text some = record { says = some; refused = λ is. absurd (cc is); undamaged = λ is. absurd (cc is) }

-- turns of which each is one, and of which there is one at most
pub are_turns : (turns : ShelfFiles → Option Board → Turn → Type 0) → ((shelf : ShelfFiles) (board : Option Board) (turn : Turn) → turns shelf board turn → IsTurn board turn) → ((shelf : ShelfFiles) (board : Option Board) (one other : Turn) → turns shelf board one → turns shelf board other → one ≡ other) → AreTurns turns
are_turns turns each once = record {
  says = λ shelf board turn is. (each shelf board turn is).says;
  refused = λ shelf board turn is. (each shelf board turn is).refused;
  undamaged = λ shelf board turn is. (each shelf board turn is).undamaged;
  one_turn = once;
}

-- the same of a turn that the board alone decides
pub turns_of : (turn : Option Board → Turn) → ((board : Option Board) → IsTurn board (turn board)) → AreTurns (λ shelf board taken. taken ≡ turn board)
turns_of turn each = are_turns (λ shelf board taken. taken ≡ turn board)
    (λ shelf board taken is. subst (IsTurn board) (sym is) (each board))
    (λ shelf board one other first second. first ∙ sym second)
