-- What the functions of this crate answer where they read by rules.
use Rattle.std.specs.Prelude.{◌≡◌, ◌≤◌, ◌⊎◌, ℕ, Bool, true, false, List, map, All, IsTrue, Option, Some, None, Result, Ok, Err, IsErrOf}
use Rattle.std.specs.List.{AllZip}
use Rattle.door_outside.specs.Cause.{Rose}
use Rattle.board_ledger.specs.declared.error.LedgerError.{LedgerError}
use Rattle.board_ledger.specs.declared.error.LedgerError.TheVariants.{Damaged as LedgerDamaged, OutOfMemory as LedgerStarved}
use Rattle.board_ledger.specs.declared.ledger.Ledger.{Ledger}
use Rattle.board_ledger.specs.damage_rules.Rules.{Answers, Stops}
use Rattle.board_ledger.specs.intent_journal.Patches.{HostFiles}
use Rattle.jam_base.specs.Contents.{Contents}
use Rattle.jam_base.specs.jam_layout.Layout.{layout}
use Rattle.jam_base.specs.jam_layout.Outlines.{outline}
use Rattle.jam_base.specs.jam_layout.Valid.{IsConference}
use Rattle.jam_base.specs.jam_layout.declared.conference.ConferenceContents.{ConferenceContents}
use Rattle.jam_base.specs.jam_layout.declared.error.BaseError.{BaseError}
use Rattle.jam_base.specs.jam_layout.declared.error.BaseError.TheVariants.{Damaged as BaseDamaged, OutOfMemory as BaseStarved}
use Rattle.jam_base.specs.jam_layout.declared.files.BaseFiles.{BaseFiles}
use Rattle.jam_base.specs.jam_layout.declared.shape.Shape.{Shape}
use Rattle.jam_records.specs.declared.damage.Damage.{Damage}
use Rattle.board_layout.specs.Board.{Board, board_with, conferences_in, shapes_of}
use Rattle.board_layout.specs.Layout.{AreAt, AreEmpty, HasPlaces, IsLayout, layouts}
use Rattle.board_layout.specs.OldLayout.{IsOldLayout}
use Rattle.board_layout.specs.Outlines.{board_outline}
use Rattle.board_layout.specs.Valid.{IsBoard, offers_fit}
use Rattle.board_layout.specs.declared.read.FoundBoard.{FoundBoard}
use Rattle.board_layout.specs.declared.error.ReadError.{ReadError}
use Rattle.board_layout.specs.declared.error.ReadError.TheVariants.{Damaged, DiskFault, OutOfMemory}

-- the damage that an error tells of, or none where a file call failed or memory ran out
abbrev pub damage_of_read : ReadError → Option Damage
damage_of_read (Damaged d) = Some d
damage_of_read DiskFault = None
damage_of_read OutOfMemory = None

-- the error for a ledger that couldn't be read, and for a base
abbrev pub of_ledger : LedgerError → ReadError
of_ledger (LedgerDamaged d) = Damaged d
of_ledger LedgerStarved = OutOfMemory

abbrev pub of_base : BaseError → ReadError
of_base (BaseDamaged d) = Damaged d
of_base BaseStarved = OutOfMemory

-- what a function answered, seen by view, is what is read, unless a file call failed or memory ran out
abbrev pub ReadGives : {X Y : Type 0} → (X → Y) → Result X ReadError → Result Y Damage → Type 0
ReadGives view result read = Answers damage_of_read view result read

-- something is read to which an answer stands so
pub record ReadSo {X Y : Type 0} (stands : X → Y → Type 0) (x : X) (read : Result Y Damage) : Type 0 where
  pub whole : Y
  pub is_read : read ≡ Ok whole
  pub holds : stands x whole

-- what a function answered stands so to what is read, unless a file call failed or memory ran out
abbrev pub GivesSo : {X Y : Type 0} → (X → Y → Type 0) → Result X ReadError → Result Y Damage → Type 0
GivesSo stands (Ok x) read = ReadSo stands x read
GivesSo stands (Err e) read = Stops (damage_of_read e) read

-- The count of disk faults doesn't fall. It rose where a fault is answered, and any other answer leaves it.
pub record HasReadCause {T : Type 0} (before now : ℕ) (result : Result T ReadError) : Type 0 where
  pub later : before ≤ now
  pub rose : IsErrOf result DiskFault → Rose before now
  pub kept : IsErrOf result DiskFault ⊎ (now ≡ before)

-- the files are the layout of the board, in version 1 where it is said to be old
abbrev pub IsLaidOutAs : Bool → Board → HostFiles → Type 0
IsLaidOutAs true b files = IsOldLayout b files
IsLaidOutAs false b files = IsLayout b files

-- The base has the outline of the conference, which is one of its shape, and the files are its layout.
pub record IsOutlineOf (files : BaseFiles) (base : Contents) (whole : ConferenceContents) : Type 0 where
  pub alike : base.conference ≡ outline whole
  pub valid : IsConference base.shape whole
  pub stored : files ≡ layout base.shape whole

-- The bases have the outlines of these conferences, each of its shape, and the files of the places are their layouts.
pub record AreOutlinesOf (shapes : List Shape) (files : HostFiles) (bases : List Contents) (wholes : List ConferenceContents) : Type 0 where
  pub alike : conferences_in bases ≡ map outline wholes
  pub valid : AllZip IsConference shapes wholes
  pub stored : AreAt 0 (layouts shapes wholes) files

-- The bases are those of the outline of the board, but for how long its files are it is valid, and they are its layout in
-- all places.
pub record ArePartsOf (ledger : Ledger) (files : HostFiles) (bases : List Contents) (whole : Board) : Type 0 where
  pub alike : board_with ledger bases ≡ board_outline whole
  pub valid : AllZip IsConference (shapes_of ledger) whole.conferences
  pub highs : All (λ u. IsTrue (offers_fit whole.conferences u.offers)) ledger.users
  pub stored : HasPlaces whole files

-- What was found is the outline of the board, which is valid, and the files are its layout, in version 1 where it is said
-- to be old.
pub record IsFoundOf (files : HostFiles) (found : FoundBoard) (whole : Board) : Type 0 where
  pub alike : found.board ≡ board_outline whole
  pub valid : IsBoard whole
  pub stored : IsLaidOutAs found.is_old whole files

-- so it is, or the files are empty where nothing was found
abbrev pub AreFoundOf : HostFiles → Option FoundBoard → Option Board → Type 0
AreFoundOf files None None = AreEmpty files
AreFoundOf files None (Some whole) = ⊥
AreFoundOf files (Some found) None = ⊥
AreFoundOf files (Some found) (Some whole) = IsFoundOf files found whole
