-- What a change of a board gives, and what it leads to.
use Rattle.std.specs.Prelude.{◌≡◌, List, unwrap_or, IsTrue}
use Rattle.intent_journal.specs.Patches.{HostFiles, patched, are_within}
use Rattle.intent_journal.specs.declared.patch.Patch.{Patch}
use Rattle.board_layout.specs.Board.{Board}
use Rattle.board_layout.specs.Layout.{IsLayout, files_in}
use Rattle.board_layout.specs.Renewed.{contents_of, renewed}
use Rattle.board_changes.specs.declared.change.BoardChange.{BoardChange}
use Rattle.board_layout.specs.jam_base.Change.{SuitsIntent}
use Rattle.board_layout.specs.jam_base.Contents.{Contents}
use Rattle.board_layout.specs.jam_base.declared.change.BaseChange.{BaseChange}

-- The patches may be carried out on files such as P says, and make them the layout of the board.
pub record Leads (P : HostFiles → Type 0) (next : Board) (patches : List Patch) : Type 0 where
  pub starts : (files : HostFiles) → P files → IsTrue (are_within patches files)
  pub files : (files : HostFiles) → P files → IsLayout next (patched patches files)

-- The new ledger, where there is one, and the new bases in place of the old ones make the next board of this one.
pub record Becomes (old next : Board) (change : BoardChange) : Type 0 where
  pub ledger : unwrap_or change.ledger old.ledger ≡ next.ledger
  pub bases : renewed (contents_of old) change.bases ≡ contents_of next

-- The change of a base leaves its shape, and suits an intent.
pub record ChangesBase (old : Contents) (change : BaseChange) : Type 0 where
  pub shape : change.base.shape ≡ old.shape
  pub intent : SuitsIntent old.shape.place (files_in change.base) change.patches
