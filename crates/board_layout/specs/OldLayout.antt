-- The 257 data files of a board whose ledger is of version 1, as earlier programs left it.
use Rattle.std.specs.Prelude.{◌≡◌, ◌⊎◌, ◌≤◌, ℕ, ◌+◌, length, sum_by, All}
use Rattle.board_ledger.specs.Ledger.{text_in}
use Rattle.board_ledger.specs.Users.{IsOldUser}
use Rattle.board_ledger.specs.open_offers.declared.version.Version.TheVariants.{First}
use Rattle.door_outside.specs.File.{ledger_file}
use Rattle.board_ledger.specs.intent_journal.Patches.{HostFiles}
use Rattle.jam_base.specs.jam_layout.Layout.{files_size}
use Rattle.board_layout.specs.Board.{Board}
use Rattle.board_layout.specs.Layout.{base_files, HasPlaces, IsLayout}

-- how many bytes the data files may have together where the ledger is of version 1
abbrev pub old_limit : ℕ
old_limit = 33554432

-- how many bytes those of the board have then
abbrev pub old_size : Board → ℕ
old_size b = length (text_in First b.ledger) + sum_by files_size (base_files b)

-- The data files are the layout of the board with its ledger in version 1. There each user has no open offer, or that of
-- his last packet alone.
pub record IsOldLayout (b : Board) (files : HostFiles) : Type 0 where
  pub ledger : files ledger_file ≡ text_in First b.ledger
  pub places : HasPlaces b files
  pub offers : All IsOldUser b.ledger.users
  pub small : old_size b ≤ old_limit

-- the data files are the layout of the board in either version
abbrev pub IsStoredIn : Board → HostFiles → Type 0
IsStoredIn b files = IsLayout b files ⊎ IsOldLayout b files
