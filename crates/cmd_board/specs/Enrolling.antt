-- What is found before a user is enrolled.
use Rattle.std.specs.Prelude.{◌≡◌, ℕ, List, Option, Some, Result, Ok, Err}
use Rattle.board_layout.specs.Board.{Board}
use Rattle.mail_board.specs.Changes.{changed, Fits}
use Rattle.shelf_files.specs.Halts.{done}
use Rattle.cmd_board.specs.Enroll.{Enrolls, enrolled_line}
use Rattle.cmd_board.specs.Halts.{StopsBy}
use Rattle.cmd_board.specs.Turns.{refuses}
use Rattle.cmd_board.specs.declared.enrollment.Enrolling.{Enrolling}
use Rattle.cmd_board.specs.declared.halt.BoardHalt.{BoardHalt}

-- a change that fits and takes the turn, or the refusal, or memory ran out
abbrev pub MayEnroll : List ℕ → List ℕ → List ℕ → Option Board → Result Enrolling BoardHalt → Type 0
MayEnroll name flags conferences board (Ok e) =
    (b : Board) × (board ≡ Some b) × Fits e.change b
    × Enrolls name flags conferences (Some b) (record { board = Some (changed e.change b); reply = done (enrolled_line e.user) })
MayEnroll name flags conferences board (Err e) = StopsBy (λ why. Enrolls name flags conferences board (refuses why board)) e
