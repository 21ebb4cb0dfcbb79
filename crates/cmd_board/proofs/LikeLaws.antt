-- The board of a state, of which the outline is kept.
use Rattle.std.proofs.Common.{◌≡◌, Option, Some, None, Ok, refl, subst}
use Rattle.board_layout.specs.Board.{Board}
use Rattle.board_layout.specs.Valid.{IsBoard}
use Rattle.door_outside.specs.Disk.{Disk}
use Rattle.entry_runs.specs.Entry.{Finds}
use Rattle.intent_journal.specs.Recovered.{recovered}
use Rattle.mail_board.specs.Held.{AreAlike}
use Rattle.mail_board.specs.declared.loading.Loaded.{Loaded}
use Rattle.mail_board.specs.declared.loading.Loaded.TheVariants.{NotMade, Ready}
use Rattle.cmd_board.specs.Kept.{AreLike, AreSure, IsOutlined, kept_board}
use Rattle.cmd_board.specs.State.{State, Made, Stores, migrated, state_of}
use Rattle.cmd_board.specs.State as state

-- a board has its own outline
pub own_like : (kept : Option Loaded) → AreSure kept → AreLike (kept_board kept) (kept_board kept)
own_like None sure = tt
own_like (Some NotMade) sure = tt
own_like (Some (Ready held)) sure = (sure.0, refl)

-- where none is kept
pub none_outlined : (s : State) (kept : Option Board) → kept ≡ None → IsOutlined s kept → s ≡ state.NotMade
none_outlined s kept none found = by found.0 found.1 (subst (AreLike found.0) none found.2)
  where
    by : (board : Option Board) → s ≡ state_of board → AreLike board None → s ≡ state.NotMade
    by None is like = is
    by (Some b) is like = absurd like

-- where one is kept
pub record Real (s : State) (kept : Board) : Type 0 where
  pub board : Board
  pub is : s ≡ Made board
  pub valid : IsBoard board
  pub alike : AreAlike board kept

pub some_outlined : (s : State) (kept : Option Board) (b : Board) → kept ≡ Some b → IsOutlined s kept → Real s b
some_outlined s kept b some found = by found.0 found.1 (subst (AreLike found.0) some found.2)
  where
    by : (board : Option Board) → s ≡ state_of board → AreLike board (Some b) → Real s b
    by None is like = absurd like
    by (Some r) is like = record { board = r; is = is; valid = like.0; alike = like.1 }

-- the files hold it once it was found
pub real_stored : {s : State} {old mid : Disk} → Finds Stores s (migrated s) old mid (Ok (tt {0})) → (b : Board) → migrated s ≡ Made b → Stores (Made b) (recovered mid.files)
real_stored {s} {old} {mid} finds b is = subst (λ (m : State). Stores m (recovered mid.files)) is finds.done.0.stores
