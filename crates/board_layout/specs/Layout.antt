-- The 257 data files of a board: the ledger, and the four files of each of the 64 places.
use Rattle.std.specs.Prelude.{◌≡◌, ℕ, zero, suc, ◌+◌, ◌<◌, List, [], ◌∷◌, length, slice_index_or, sum_by, All, IsTrue}
use Rattle.board_ledger.specs.Ledger.{ledger_text}
use Rattle.jam_records.specs.byte_lists.Byte.{IsByte}
use Rattle.door_outside.specs.File.{is_data_file, ledger_file}
use Rattle.board_ledger.specs.intent_journal.Patches.{HostFiles}
use Rattle.jam_base.specs.Change.{files_of_place}
use Rattle.jam_base.specs.Contents.{Contents}
use Rattle.jam_base.specs.jam_layout.Layout.{layout, files_size}
use Rattle.jam_base.specs.jam_layout.declared.conference.ConferenceContents.{ConferenceContents}
use Rattle.jam_base.specs.jam_layout.declared.files.BaseFiles.{BaseFiles}
use Rattle.jam_base.specs.jam_layout.declared.shape.Shape.{Shape}
use Rattle.board_layout.specs.Board.{Board, shapes_of}

-- four empty files
abbrev pub no_base : BaseFiles
no_base = record { jhr = []; jdt = []; jdx = []; jlr = [] }

-- the four files of each conference
abbrev pub layouts : List Shape → List ConferenceContents → List BaseFiles
layouts [] conferences = []
layouts (shape ∷ shapes) [] = []
layouts (shape ∷ shapes) (c ∷ conferences) = layout shape c ∷ layouts shapes conferences

abbrev pub base_files : Board → List BaseFiles
base_files b = layouts (shapes_of b.ledger) b.conferences

-- the files of the places from one on are these
abbrev pub AreAt : ℕ → List BaseFiles → HostFiles → Type 0
AreAt place [] files = Unit {0}
AreAt place (base ∷ bases) files = (files_of_place place files ≡ base) × AreAt (place + 1) bases files

-- the files of each place are those of its conference, and empty past the conferences
abbrev pub HasPlaces : Board → HostFiles → Type 0
HasPlaces b files = (place : ℕ) → place < 64 → files_of_place place files ≡ slice_index_or (base_files b) place no_base

-- the data files are the layout of the board
pub record IsLayout (b : Board) (files : HostFiles) : Type 0 where
  pub ledger : files ledger_file ≡ ledger_text b.ledger
  pub places : HasPlaces b files

-- all data files are empty
pub record AreEmpty (files : HostFiles) : Type 0 where
  pub ledger : files ledger_file ≡ []
  pub places : (place : ℕ) → place < 64 → files_of_place place files ≡ no_base

-- how many bytes the files of the first places have
unfoldable pub places_size : ℕ → HostFiles → ℕ
places_size zero files = 0
places_size (suc place) files = places_size place files + files_size (files_of_place place files)

-- how many bytes all data files have
abbrev pub data_size : HostFiles → ℕ
data_size files = length (files ledger_file) + places_size 64 files

-- how many those of the board have
abbrev pub board_size : Board → ℕ
board_size b = length (ledger_text b.ledger) + sum_by files_size (base_files b)

-- the four files of a base, and how many bytes they have
abbrev pub files_in : Contents → BaseFiles
files_in base = layout base.shape base.conference

abbrev pub base_size : Contents → ℕ
base_size base = files_size (files_in base)

-- each data file is a list of bytes
abbrev pub AreFileBytes : HostFiles → Type 0
AreFileBytes files = (file : ℕ) → IsTrue (is_data_file file) → All IsByte (files file)
