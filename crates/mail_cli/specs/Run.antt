-- What a run of the door promises.
use Rattle.std.specs.Prelude.{◌≡◌, ◌⊎◌, ℕ, List, [], ◌∷◌, false, IsTrue, Result}
use Rattle.door_outside.specs.Disk.{Disk, AllNow, Between}
use Rattle.door_outside.specs.Shelf.{ShelfFiles}
use Rattle.entry_runs.specs.Door.{World, here, touches, any_touches}
use Rattle.entry_runs.specs.Entry as Owed
use Rattle.entry_runs.specs.Promise as Promise
use Rattle.entry_runs.specs.Promise.{AllSince, FaultCounts}
use Rattle.entry_runs.specs.declared.class.Class.{Class}
use Rattle.entry_runs.specs.declared.status.Status.{Status}
use Rattle.entry_runs.specs.declared.status.Status.TheVariants as status
use Rattle.entry_runs.specs.declared.stop.Stop.{Stop}
use Rattle.intent_journal.specs.Recovered.{recovered}
use Rattle.cmd_board.specs.State.{State, AreSpoiled, Stores}
use Rattle.mail_cli.specs.Step.{act, door, uses_shelf}
use Rattle.cmd_entries.specs.Entries.{AreEntries, EntriesRead, HasWrong}
use Rattle.cmd_entries.specs.Words.{CommandReads}
use Rattle.cmd_entries.specs.declared.command.Command.{Command}
use Rattle.cmd_entries.specs.declared.entry.Entry.{Entry}
use Rattle.cmd_entries.specs.declared.entry.Entry.TheVariants.{Run}

-- words that are no command were answered so, unless the saying failed or memory ran out
abbrev pub AnswersUsage : Status → Type 0
AnswersUsage result = (result ≡ status.Usage) ⊎ ((result ≡ status.VoiceFault) ⊎ (result ≡ status.OutOfMemory))

-- P holds of each world for which the files at entry stand, with the shelf at entry. The law `one_state` says that
-- there is exactly one.
abbrev pub FromEntry : Disk → ShelfFiles → (World State → Type 0) → Type 0
FromEntry old shelf P = (state : State) → Stores state (recovered old.files) → P (here state shelf)

-- the last entry that a run came to was carried out, refused or answered, though perhaps not all of its reply was said
abbrev pub IsAnswered : Status → Type 0
IsAnswered status.Done = Unit {0}
IsAnswered status.Refused = Unit {0}
IsAnswered status.Usage = Unit {0}
IsAnswered status.Damaged = Unit {0}
IsAnswered status.DiskFault = ⊥
IsAnswered status.ShelfFault = ⊥
IsAnswered status.VoiceFault = Unit {0}
IsAnswered status.OutOfMemory = ⊥

-- the first of the entries touches the board
abbrev pub BeginsTouching : ℕ → List Entry → Type 0
BeginsTouching now entries = (entry : Entry) × (others : List Entry) × (entries ≡ entry ∷ others) × IsTrue (touches (door now) entry)

-- It leaves data files that are those of no board or of a valid one, and so does a crash at any moment. From a host
-- that is only settled, a crash may also leave files as it could have left them at entry.
pub record SpoilsNone (old new : Disk) : Type 0 where
  pub exit : ¬ AreSpoiled (recovered new.files)
  pub each : AllSince old new (λ image. (¬ AreSpoiled (recovered image.files)) ⊎ Promise.AsThen old image)
  -- where a crash at entry could leave no others, it leaves no others since
  pub always : AllNow old (λ image. ¬ AreSpoiled (recovered image.files)) → AllSince old new (λ image. ¬ AreSpoiled (recovered image.files))

-- so it does where those at entry are such
abbrev pub NeverSpoils : Disk → Disk → Type 0
NeverSpoils old new = ¬ AreSpoiled (recovered old.files) → SpoilsNone old new

-- Nothing was done to the data files: they read as before, and a crash, then or since, leaves them as it could have before.
pub record FilesStay (old new : Disk) : Type 0 where
  pub files : new.files ≡ old.files
  pub moments : Between old new (Promise.AsThen old)
  pub now : AllNow new (Promise.AsThen old)

-- in each world that stands at entry, this is what the entry did, its reply included
abbrev pub PerformsEntry : ℕ → Entry → Disk → Disk → ShelfFiles → ShelfFiles → Result Class Stop → Type 0
PerformsEntry now one old new shelf later result =
    (world : World State) → Owed.IsAt Stores world old shelf → Owed.Performs Stores (act now one) world old new later result

-- what the entries leave, and what a crash at any moment leaves
module _ (now : ℕ) (entries : List Entry) where
  abbrev pub EntriesEnd : Status → Disk → Disk → ShelfFiles → ShelfFiles → Type 0
  EntriesEnd result old new shelf later = FromEntry old shelf (λ start. Promise.EndsAs (door now) result start entries old new later)

  abbrev pub EntriesSurvive : Disk → Disk → ShelfFiles → Type 0
  EntriesSurvive old new shelf = FromEntry old shelf (λ start. Promise.Survives (door now) start entries old new)

-- the same of words, with the batch that the shelf holds at entry
module _ (now : ℕ) (words : List (List ℕ)) where
  -- All entries of the words were carried out, refused or answered, and said; or the status tells why one was stopped,
  -- or that they couldn't be read.
  abbrev pub RunEnds : Status → Disk → Disk → ShelfFiles → ShelfFiles → Type 0
  RunEnds result old new shelf later = FromEntry old shelf (λ start.
      ((entries : List Entry) × EntriesRead words shelf entries × Promise.EndsAs (door now) result start entries old new later)
      ⊎ Promise.IsUnread (door now) result start old new later)

  -- A crash at any moment leaves the board after some of the entries, or that board migrated by the next, and a front of
  -- these entries' replies said. Where the entries couldn't be read, that is after none.
  abbrev pub RunSurvives : Disk → Disk → ShelfFiles → Type 0
  RunSurvives old new shelf = FromEntry old shelf (λ start.
      (entries : List Entry) × (EntriesRead words shelf entries ⊎ (entries ≡ [])) × Promise.Survives (door now) start entries old new)

  -- where no count rose, the whole was done, or memory ran out
  abbrev pub RunCompletes : FaultCounts → FaultCounts → Status → Disk → Disk → ShelfFiles → ShelfFiles → Type 0
  RunCompletes before after result old new shelf later = FromEntry old shelf (λ start. Promise.NoneRose before after →
      (result ≡ status.OutOfMemory)
      ⊎ ((entries : List Entry) × EntriesRead words shelf entries × Promise.IsWhole (door now) result start entries old new later))

  -- none of the entries that were read touches the board
  abbrev pub ReadOffBoard : ShelfFiles → Type 0
  ReadOffBoard shelf = (entries : List Entry) → EntriesRead words shelf entries → any_touches (door now) entries ≡ false

  -- none of those that the words are does, whatever is read of a batch
  abbrev pub AlwaysOffBoard : Type 0
  AlwaysOffBoard = (entries : List Entry) → AreEntries words entries → any_touches (door now) entries ≡ false

  -- of the entries that were read one touches the board
  abbrev pub ReadTouching : ShelfFiles → Type 0
  ReadTouching shelf = (entries : List Entry) × EntriesRead words shelf entries × IsTrue (any_touches (door now) entries)

  -- the words are a command that touches the board
  abbrev pub AreTouching : Type 0
  AreTouching = (c : Command) × CommandReads words c × IsTrue (touches (door now) (Run c))

  -- an entry of the words touches the board, whatever was read of a batch
  abbrev pub TouchBoard : Type 0
  TouchBoard = (entries : List Entry) × AreEntries words entries × IsTrue (any_touches (door now) entries)

-- words, or a line of the batch that they are, are no command, whatever was read of it
abbrev pub HaveWrong : List (List ℕ) → Type 0
HaveWrong words = (entries : List Entry) × AreEntries words entries × HasWrong entries

-- of the words, or of the lines that were read of the batch that they are, some are no command
abbrev pub ReadWrong : List (List ℕ) → ShelfFiles → Type 0
ReadWrong words shelf = (entries : List Entry) × EntriesRead words shelf entries × HasWrong entries

-- the words are no command that names a file of the shelf
abbrev pub NameNoFile : List (List ℕ) → Type 0
NameNoFile words = (c : Command) → CommandReads words c → uses_shelf c ≡ false
