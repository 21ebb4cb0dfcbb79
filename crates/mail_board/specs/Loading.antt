-- What a load finds.
use Rattle.std.specs.Prelude.{◌≡◌, ◌⊎◌, false, Option, Some, None, option_map, Result, Ok, Err}
use Rattle.std.specs.Result.{result_map_both}
use Rattle.door_outside.specs.Disk.{Disk, Image}
use Rattle.intent_journal.specs.Patches.{HostFiles}
use Rattle.intent_journal.specs.Recovered.{recovered}
use Rattle.intent_journal.specs.declared.recovery.JournalError.{JournalError}
use Rattle.intent_journal.specs.declared.recovery.JournalError.TheVariants as recovery
use Rattle.board_layout.specs.Board.{Board}
use Rattle.board_layout.specs.Damage.{board_in}
use Rattle.board_layout.specs.Layout.{AreEmpty, IsLayout}
use Rattle.board_layout.specs.OldLayout.{IsOldLayout}
use Rattle.board_layout.specs.Outlines.{board_outline}
use Rattle.board_layout.specs.Rules.{IsFoundOf}
use Rattle.board_layout.specs.Valid.{IsBoard}
use Rattle.board_layout.specs.declared.error.ReadError.{ReadError}
use Rattle.board_layout.specs.declared.error.ReadError.TheVariants.{Damaged, DiskFault, OutOfMemory}
use Rattle.board_layout.specs.declared.read.FoundBoard.{FoundBoard}
use Rattle.jam_records.specs.declared.damage.Damage.{Damage}
use Rattle.mail_board.specs.Held.{AreAlike, StandsFor}
use Rattle.mail_board.specs.declared.loading.Loaded.{Loaded}
use Rattle.mail_board.specs.declared.loading.Loaded.TheVariants.{NotMade, Ready}

-- the outline of the board that was loaded, or none where there is none
abbrev pub loaded_outline : Loaded → Option Board
loaded_outline NotMade = None
loaded_outline (Ready held) = Some (board_outline held.board)

-- that of the board whose layout the files are, or none where all are empty, or their first damage
abbrev pub outline_in : HostFiles → Result (Option Board) Damage
outline_in files = result_map_both (option_map board_outline) (λ damage. damage) (board_in files)

-- it is in no doubt
abbrev pub IsSureLoad : Loaded → Type 0
IsSureLoad NotMade = Unit {0}
IsSureLoad (Ready held) = held.doubtful ≡ false

-- it is valid
abbrev pub IsValid : Loaded → Type 0
IsValid NotMade = Unit {0}
IsValid (Ready held) = IsBoard held.board

-- what was loaded stands in the files
abbrev pub StandsIn : HostFiles → Loaded → Type 0
StandsIn files NotMade = AreEmpty files
StandsIn files (Ready held) = StandsFor held.board files

-- the old files are the layout of a valid board in version 1
pub record AreOld (files : HostFiles) : Type 0 where
  pub board : Board
  pub valid : IsBoard board
  pub layout : IsOldLayout board files

-- so they are of a board with the outline of this one
pub record StandsOld (held : Board) (files : HostFiles) : Type 0 where
  pub old : AreOld files
  pub alike : AreAlike old.board held

-- what was found is the outline of a valid board, and the files are its layout, in version 1 where it is said to be old
pub record StandsFound (found : FoundBoard) (files : HostFiles) : Type 0 where
  pub whole : Board
  pub holds : IsFoundOf files found whole

-- the old files are the layout of a valid board in version 1, and the new ones in version 2
pub record IsMigration (old new : HostFiles) : Type 0 where
  pub board : Board
  pub valid : IsBoard board
  pub before : IsOldLayout board old
  pub after : IsLayout board new

-- the new files are the old ones, or these migrated
abbrev pub AreOpened : HostFiles → HostFiles → Type 0
AreOpened old new = (new ≡ old) ⊎ IsMigration old new

-- an image that recovers to the files of a disk, or to these migrated, and says nothing
pub record Opens (goal : Disk) (image : Image) : Type 0 where
  pub said : image.said ≡ goal.said
  pub files : AreOpened (recovered goal.files) (recovered image.files)

-- an answer other than a fault or want of memory
abbrev pub IsTold : {T : Type 0} → Result T ReadError → Type 0
IsTold (Ok value) = Unit {0}
IsTold (Err (Damaged d)) = Unit {0}
IsTold (Err DiskFault) = ⊥
IsTold (Err OutOfMemory) = ⊥

-- the error of a load whose recovery ended so
abbrev pub recovery_error : JournalError → ReadError
recovery_error recovery.DiskFault = DiskFault
recovery_error recovery.OutOfMemory = OutOfMemory
