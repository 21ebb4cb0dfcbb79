-- Patches that turn a board's files into those of another, gathered place by place.
use Rattle.std.specs.Prelude.{◌≡◌, ◌≢◌, ℕ, ◌+◌, ◌*◌, ◌<◌, ◌≤◌, ◌^◌, List, ◌++◌, length, take, slice_index_or, sum_by, All, IsTrue, nat_lt, if◌then◌else◌}
use Rattle.intent_journal.specs.door_outside.File.{ledger_file, journal_file, jhr_file}
use Rattle.intent_journal.specs.Journal.{journal_text, patches_text}
use Rattle.intent_journal.specs.Patches.{HostFiles, file_of, patch_offset, bytes_of, patched, are_within, is_once}
use Rattle.intent_journal.specs.declared.patch.Patch.{Patch}
use Rattle.board_layout.specs.jam_base.Change.{files_of_place}
use Rattle.board_layout.specs.jam_layout.Layout.{files_size}
use Rattle.board_layout.specs.jam_layout.declared.files.BaseFiles.{BaseFiles}
use Rattle.board_layout.specs.Layout.{no_base}

-- the files of a place, of which there are four for each conference, and none past them
abbrev pub at_place : List BaseFiles → ℕ → BaseFiles
at_place bases place = slice_index_or bases place no_base

-- the files of all places are these
abbrev pub HasBases : List BaseFiles → HostFiles → Type 0
HasBases bases files = (place : ℕ) → place < 64 → files_of_place place files ≡ at_place bases place

-- the new files in the first places, and the old ones behind them
abbrev pub mixed : ℕ → List BaseFiles → List BaseFiles → ℕ → BaseFiles
mixed count old new place = if nat_lt place count then at_place new place else at_place old place

-- the patches make the ledger of files such as P says, or leave it where it is there, and turn the old files of the
-- first places into the new ones
pub record Gathered (P : HostFiles → Type 0) (ledger : List ℕ) (old new : List BaseFiles) (count : ℕ) (patches : List Patch) : Type 0 where
  pub starts : (files : HostFiles) → P files → IsTrue (are_within patches files)
  pub ledger_is : (files : HostFiles) → P files → patched patches files ledger_file ≡ ledger
  pub bases : (files : HostFiles) → P files → (place : ℕ) → place < 64 → files_of_place place (patched patches files) ≡ mixed count old new place
  pub no_journal : All (λ patch. file_of patch ≢ journal_file) patches
  pub below : All (λ patch. file_of patch < jhr_file count) patches
  pub once : IsTrue (is_once patches)
  pub short : 5 * length (patches_text patches) ≤ 5 * (11 + length ledger + 44 * count) + 6 * sum_by files_size (take count new)

-- together they fit the journal
abbrev pub FitJournal : List ℕ → List BaseFiles → Type 0
FitJournal ledger new = 5 * (13 + (11 + length ledger + 44 * length new)) + 6 * sum_by files_size new ≤ 5 * 41943040

-- an intent may have these patches behind its own
pub record Joins (intent patches : List Patch) : Type 0 where
  pub no_journal : All (λ patch. file_of patch ≢ journal_file) patches
  pub once : IsTrue (is_once (intent ++ patches))
  pub ends : All (λ patch. patch_offset patch + length (bytes_of patch) < 2 ^ 31) patches
  pub fits : length (journal_text (intent ++ patches)) ≤ 41943040
