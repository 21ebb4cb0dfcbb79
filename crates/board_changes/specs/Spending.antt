-- How much a change of a board by so many messages more puts: few patches, and few bytes beside those by which the files
-- grow. The bytes that a commit writes follow from both.
use Rattle.std.specs.Prelude.{ℕ, ◌+◌, ◌*◌, ◌≤◌, List, length}
use Rattle.board_layout.specs.Board.{Board}
use Rattle.board_layout.specs.Layout.{board_size}
use Rattle.intent_journal.specs.Patches.{byte_count}
use Rattle.intent_journal.specs.declared.patch.Patch.{Patch}
use Rattle.board_layout.specs.jam_layout.Layout.{files_size}
use Rattle.board_layout.specs.jam_layout.declared.files.BaseFiles.{BaseFiles}

-- in the files of one place
pub record SpendsHere (count : ℕ) (old new : BaseFiles) (patches : List Patch) : Type 0 where
  pub few : length patches ≤ 5 * count
  pub grown : files_size old + byte_count patches ≤ files_size new + 12 * count

-- in all data files
pub record Spends (count : ℕ) (old next : Board) (patches : List Patch) : Type 0 where
  pub few : length patches ≤ 4 + 5 * count
  pub grown : board_size old + byte_count patches ≤ board_size next + (8 + 12 * count)
