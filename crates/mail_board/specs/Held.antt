-- A board that is held between changes, and the host that holds its files.
use Rattle.std.specs.Prelude.{◌≡◌, ◌⊎◌, Bool, false, IsTrue}
use Rattle.door_outside.specs.Disk.{Disk, Image, Unchanged}
use Rattle.intent_journal.specs.Hosts.{IsCalm}
use Rattle.intent_journal.specs.Patches.{HostFiles}
use Rattle.intent_journal.specs.Recovered.{recovered}
use Rattle.board_layout.specs.Board.{Board}
use Rattle.board_layout.specs.Layout.{IsLayout}
use Rattle.board_layout.specs.Outlines.{board_outline}
use Rattle.board_layout.specs.Valid.{IsBoard}

-- a board, of whose bodies the lengths alone count, and whether a disk fault left it in doubt which board the files hold
pub record HeldBoard : Type 0 where
  pub board : Board
  pub doubtful : Bool

-- a board that is in no doubt
abbrev pub sure : Board → HeldBoard
sure b = record { board = b; doubtful = false }

-- the board is as it was, and so is the disk of a host that tells
pub record AreLeft (tells : Bool) (before after : HeldBoard) (old new : Disk) : Type 0 where
  pub board : after ≡ before
  pub disk : IsTrue tells → Unchanged old new

-- the boards have one outline
abbrev pub AreAlike : Board → Board → Type 0
AreAlike a b = board_outline a ≡ board_outline b

-- the host rests, and its data files are the layout of the board
pub record Rests (b : Board) (disk : Disk) : Type 0 where
  pub calm : IsCalm disk
  pub files : IsLayout b disk.files

-- the host rests on this board, which is valid
abbrev pub Holds : Board → Disk → Type 0
Holds b disk = IsBoard b × Rests b disk

-- the files are the layout of a valid board with the outline of this one
pub record StandsFor (held : Board) (files : HostFiles) : Type 0 where
  pub board : Board
  pub valid : IsBoard board
  pub alike : AreAlike board held
  pub layout : IsLayout board files

-- the host rests, and its data files are such a layout
pub record RestsOn (held : Board) (disk : Disk) : Type 0 where
  pub calm : IsCalm disk
  pub stands : StandsFor held disk.files

-- what is held after a change to this board: a valid board with its outline, in no doubt
pub record Follows (next : Board) (held : HeldBoard) : Type 0 where
  pub valid : IsBoard held.board
  pub alike : AreAlike held.board next
  pub sure : held.doubtful ≡ false

-- nothing was said, and the files recover to such as P says, or to the layout of the next board
pub record BeforeOrNext (P : HostFiles → Type 0) (next : Board) (old : Disk) (image : Image) : Type 0 where
  pub said : image.said ≡ old.said
  pub files : P (recovered image.files) ⊎ IsLayout next (recovered image.files)
