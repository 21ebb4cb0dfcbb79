-- A turn that a refusal decides, on boards with one outline.
use Rattle.std.proofs.Common.{◌≡◌, ℕ, List, Option, Some, None, sym, ap}
use Rattle.board_layout.specs.Board.{Board}
use Rattle.shelf_files.specs.Halts.{done}
use Rattle.shelf_files.specs.declared.refusal.Refusal.{Refusal}
use Rattle.cmd_board.specs.Turns.{Turn, refuses}

-- the board that comes of another, and a text, unless that is refused
abbrev pub deciding : (Board → Board) → List ℕ → Board → Option Refusal → Turn
deciding next text b (Some why) = refuses why (Some b)
deciding next text b None = record { board = Some (next b); reply = done text }

-- where it isn't refused on one board
pub decided_on : (next other : Board → Board) (text line : List ℕ) (a b : Board) (found : Option Refusal) → other a ≡ next a → deciding next text b found ≡ record { board = Some (other b); reply = done line } → deciding next text a found ≡ record { board = Some (other a); reply = done line }
decided_on next other text line a b (Some why) same e = absurd (cc (ap (λ (t : Turn). t.reply.class) e))
decided_on next other text line a b None same e = λ i. record { board = Some (sym same i); reply = ap (λ (t : Turn). t.reply) e i }

-- where it is refused there
pub refuses_on : (next : Board → Board) (text : List ℕ) (a b : Board) (found : Option Refusal) (why : Refusal) → deciding next text b found ≡ refuses why (Some b) → deciding next text a found ≡ refuses why (Some a)
refuses_on next text a b (Some other) why e = λ i. record { board = Some a; reply = ap (λ (t : Turn). t.reply) e i }
refuses_on next text a b None why e = absurd (cc (ap (λ (t : Turn). t.reply.class) e))
