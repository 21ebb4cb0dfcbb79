-- A change of all boards with one outline: the patches are the same, whatever the bodies are.
use Rattle.std.specs.Prelude.{◌≡◌, ℕ, List, option_map}
use Rattle.board_layout.specs.Board.{Board}
use Rattle.board_layout.specs.Layout.{IsLayout, base_files}
use Rattle.board_layout.specs.Outlines.{board_outline}
use Rattle.board_layout.specs.Valid.{IsBoard}
use Rattle.board_ledger.specs.Ledger.{ledger_text}
use Rattle.intent_journal.specs.declared.patch.Patch.{Patch}
use Rattle.board_layout.specs.jam_base.Contents.{Contents}
use Rattle.board_layout.specs.jam_base.Outlined.{outlined, TurnsEach}
use Rattle.board_layout.specs.jam_base.declared.change.BaseChange.{BaseChange}
use Rattle.board_changes.specs.Change.{Leads}
use Rattle.board_changes.specs.Changed.{base_at, with_base}
use Rattle.board_changes.specs.Gathered.{Gathered}

-- the board with what a change makes of the base in a place, where there is one
abbrev pub with_changed : ℕ → (Contents → Contents) → Board → Board
with_changed place change b = with_base place (option_map change (base_at place b)) b

-- Whatever base has the outline of this one: the patches make its files those of what the change makes of it, and that
-- has the outline of what the change makes of this one.
pub record ChangesEach (old : Contents) (change : Contents → Contents) (patches : List Patch) : Type 0 where
  pub files : TurnsEach old change patches
  pub outline : (base : Contents) → outlined base ≡ outlined old → outlined (change base) ≡ outlined (change old)

-- the change of this base has the outline of what another makes of it, and so it is of each base with its outline
pub record MadeBy (change : Contents → Contents) (made : BaseChange) (old : Contents) : Type 0 where
  pub base : outlined made.base ≡ outlined (change old)
  pub each : ChangesEach old change made.patches

-- whatever valid board has the outline of this one: what the change makes of it is valid
pub record KeepsEach (old : Board) (change : Board → Board) : Type 0 where
  pub valid : (board : Board) → IsBoard board → board_outline board ≡ board_outline old → IsBoard (change board)

-- Whatever valid board has the outline of this one: the patches may be carried out on its data files, and make them those
-- of what the change makes of it.
pub record LeadsEach (old : Board) (change : Board → Board) (patches : List Patch) : Type 0 where
  pub leads : (board : Board) → IsBoard board → board_outline board ≡ board_outline old → Leads (IsLayout board) (change board) patches

-- so they do with the ledger and the files of the first places
pub record GatheredEach (old : Board) (change : Board → Board) (count : ℕ) (patches : List Patch) : Type 0 where
  pub gathered : (board : Board) → IsBoard board → board_outline board ≡ board_outline old
      → Gathered (IsLayout board) (ledger_text (change board).ledger) (base_files board) (base_files (change board)) count patches
