-- What one entry owes to a run: what the calls below a command give, what a command's contract gives, and what it
-- becomes once the reply is said.
use Rattle.std.specs.Prelude.{◌≡◌, ◌≢◌, ◌⊎◌, ℕ, false, List, [], ◌++◌, Result, Ok, Err, MatchResult, OnOk, IsErrOf, IsTrue}
use Rattle.door_outside.specs.Disk.{Disk, Image, AllNow, Between, as_read}
use Rattle.door_outside.specs.Shelf.{ShelfFiles, SameBut}
use Rattle.intent_journal.specs.Hosts.{IsFirm, IsSettled}
use Rattle.intent_journal.specs.Patches as Data
use Rattle.intent_journal.specs.Recovered.{recovered}
use Rattle.entry_runs.specs.Door.{World, Act, shelf_only}
use Rattle.entry_runs.specs.Promise.{AsThen, Before, After, Replies, Stopped}
use Rattle.entry_runs.specs.Runs.{Stepped}
use Rattle.entry_runs.specs.declared.class.Class.{Class}
use Rattle.entry_runs.specs.declared.stop.Stop.{Stop}
use Rattle.entry_runs.specs.declared.stop.Stop.TheVariants.{DiskFault, ShelfFault, VoiceFault, OutOfMemory}

-- what is to be said of an entry, and how it went
pub record Reply : Type 0 where
  pub text : List ℕ
  pub class : Class

-- nothing was said, and P holds of what the files recover to
pub record Recovers (P : Data.HostFiles → Type 0) (so_far : List ℕ) (image : Image) : Type 0 where
  pub files : P (recovered image.files)
  pub said : image.said ≡ so_far

-- Calls that say nothing went by, and P holds at every moment of what the files recover to.
pub record Keeps (P : Data.HostFiles → Type 0) (old new : Disk) : Type 0 where
  pub moments : Between old new (Recovers P old.said)
  pub reads : Recovers P old.said (as_read new)
  pub settled : IsSettled new

-- an entry was carried out, refused or answered, though perhaps not all of its reply was said
abbrev pub IsDone : Result Class Stop → Type 0
IsDone (Ok class) = Unit {0}
IsDone (Err VoiceFault) = Unit {0}
IsDone (Err DiskFault) = ⊥
IsDone (Err ShelfFault) = ⊥
IsDone (Err OutOfMemory) = ⊥

-- What a command does that reaches the shelf alone.
pub record ShelfAct : Type 1 where
  -- from the shelf before it: the shelf after it, and what is to be said
  pub step : ShelfFiles → ShelfFiles → Reply → Type 0
  -- the names that it may write
  pub names : List (List ℕ)

-- such a command leaves the board, whatever that is
abbrev pub on_shelf : {State : Type 0} → ShelfAct → Act State
on_shelf act = record {
  Step = λ world stepped. act.step world.shelf stepped.world.shelf (record { text = stepped.reply; class = stepped.class }) × (stepped.world.state ≡ world.state);
  reach = shelf_only act.names;
  migrated = λ state. state;
}

-- what is only looked up on the shelf
abbrev pub looks : (ShelfFiles → Reply → Type 0) → ShelfAct
looks answers = record { step = λ old new reply. (new ≡ old) × answers old reply; names = [] }

-- What a command did that reaches the shelf alone, before its reply is said.
abbrev pub Serves : ShelfAct → ShelfFiles → ShelfFiles → Result Reply Stop → Type 0
Serves act old new (Ok reply) = act.step old new reply
Serves act old new (Err ShelfFault) = SameBut act.names old new
Serves act old new (Err OutOfMemory) = new ≡ old
Serves act old new (Err DiskFault) = ⊥
Serves act old new (Err VoiceFault) = ⊥

module _ {State : Type 0} (Stores : State → Data.HostFiles → Type 0) where
  -- the host is settled, and stands for a board
  pub record HasBoard (state : State) (disk : Disk) : Type 0 where
    pub settled : IsSettled disk
    pub stores : Stores state (recovered disk.files)

  -- between two entries: the host and the shelf stand for a world
  pub record IsAt (world : World State) (disk : Disk) (shelf : ShelfFiles) : Type 0 where
    pub board : HasBoard world.state disk
    pub shelf_is : shelf ≡ world.shelf

  -- A call looked for the board, and migrated it where it had to: it is what it was or the migrated one at every moment,
  -- and the migrated one after Ok. A firm host stays firm, unless the disk failed.
  pub record Finds {T : Type 0} (state migrated : State) (old new : Disk) (result : Result T Stop) : Type 0 where
    pub keeps : Keeps (λ files. Stores state files ⊎ Stores migrated files) old new
    pub firm : ¬ IsErrOf result DiskFault → IsFirm old → IsFirm new
    pub silent : ¬ IsErrOf result VoiceFault
    pub done : OnOk result (HasBoard migrated new × IsFirm new)

  -- A call changed the board: it is the old one or the next at every moment, and the next one after Ok.
  pub record Changes {T E : Type 0} (state next : State) (old new : Disk) (result : Result T E) : Type 0 where
    pub keeps : Keeps (λ files. Stores state files ⊎ Stores next files) old new
    pub done : OnOk result (HasBoard next new × IsFirm new)

-- an entry that does this
module _ {State : Type 0} (Stores : State → Data.HostFiles → Type 0) (act : Act State) where
  -- the files of a board, migrated or not, or those after the entry
  abbrev pub BeforeOrAfter : World State → Data.HostFiles → Type 0
  BeforeOrAfter world files = Before Stores act world.state files ⊎ After Stores act world files

  -- a command was carried out, refused or answered, and its reply is to be said
  pub record Answered (world : World State) (old new : Disk) (shelf : ShelfFiles) (reply : Reply) : Type 0 where
    pub stepped : Stepped (World State)
    pub step : act.Step world stepped
    pub text_is : stepped.reply ≡ reply.text
    pub class_is : stepped.class ≡ reply.class
    pub said_is : new.said ≡ old.said
    pub at : IsAt Stores stepped.world new shelf
    pub firm : IsTrue act.reach.board → IsFirm new

  -- a command was stopped, and nothing of a reply was said
  pub record Halted (world : World State) (old new : Disk) (shelf : ShelfFiles) (stop : Stop) : Type 0 where
    pub silent : stop ≢ VoiceFault
    pub stopped : Stopped Stores act stop world old.said new shelf

  -- What a command did, before its reply is said. This is what a command's contract gives, at each world in which it began.
  pub record Works (world : World State) (old new : Disk) (shelf : ShelfFiles) (result : Result Reply Stop) : Type 0 where
    pub keeps : Keeps (BeforeOrAfter world) old new
    pub ends : MatchResult result (Answered world old new shelf) (Halted world old new shelf)
    pub firm : ¬ IsErrOf result DiskFault → IsFirm old → IsFirm new
    pub off_board : act.reach.board ≡ false → AllNow new (AsThen old)

  -- an entry was carried out, refused or answered, and its reply was said
  pub record Carried (world : World State) (old new : Disk) (shelf : ShelfFiles) (class : Class) : Type 0 where
    pub stepped : Stepped (World State)
    pub step : act.Step world stepped
    pub class_is : stepped.class ≡ class
    pub said_is : new.said ≡ old.said ++ stepped.reply
    pub at : IsAt Stores stepped.world new shelf

  -- a crash leaves the board after the entry, and a front of its reply was said
  pub record InReply (world : World State) (so_far : List ℕ) (image : Image) : Type 0 where
    pub reply : Replies act world so_far image.said
    pub stores : Stores reply.stepped.world.state (recovered image.files)

  -- the entry doesn't touch the board: a crash leaves files as it could leave them then, and a front of its reply was said
  pub record OffBoard (world : World State) (then : Disk) (image : Image) : Type 0 where
    pub reply : Replies act world then.said image.said
    pub off_board : act.reach.board ≡ false
    pub files : AsThen then image

  -- what a crash in the middle of an entry leaves
  abbrev pub InEntry : World State → Disk → Image → Type 0
  InEntry world then image =
      Recovers (BeforeOrAfter world) then.said image ⊎ (InReply world then.said image ⊎ OffBoard world then image)

  -- What an entry did, its reply included. This is what the loop of a run takes of each entry.
  pub record Performs (world : World State) (old new : Disk) (shelf : ShelfFiles) (result : Result Class Stop) : Type 0 where
    pub moments : Between old new (InEntry world old)
    pub ends : MatchResult result (Carried world old new shelf) (λ stop. Stopped Stores act stop world old.said new shelf)
    pub settled : IsSettled new
    pub firm : ¬ IsErrOf result DiskFault → IsFirm old → IsFirm new
    pub touched : IsTrue act.reach.board → IsDone result → IsFirm new
    pub off_board : act.reach.board ≡ false → AllNow new (AsThen old)
