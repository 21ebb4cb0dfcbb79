-- What a run over a list of entries promises, whatever an entry does.
use Rattle.std.specs.Prelude.{◌≡◌, ◌≢◌, ◌⊎◌, ℕ, false, List, [], ◌∷◌, ◌++◌, ◌≤◌, Result, Ok, Err, IsTrue}
use Rattle.door_outside.specs.Cause.{Rose}
use Rattle.door_outside.specs.Disk.{Disk, Image, Now, AllNow}
use Rattle.door_outside.specs.Shelf.{ShelfFiles, SameBut}
use Rattle.intent_journal.specs.Hosts.{IsFirm, IsSettled}
use Rattle.intent_journal.specs.Patches as Data
use Rattle.intent_journal.specs.Recovered.{recovered}
use Rattle.entry_runs.specs.Door.{World, Act, Door, Step, touches, any_touches}
use Rattle.entry_runs.specs.Runs.{Stepped, RunOutcome, Runs, GoesOn, IsReached, AreTaken, status_of, stopped_status}
use Rattle.entry_runs.specs.declared.status.Status.{Status}
use Rattle.entry_runs.specs.declared.status.Status.TheVariants as status
use Rattle.entry_runs.specs.declared.stop.Stop.{Stop}
use Rattle.entry_runs.specs.declared.stop.Stop.TheVariants.{DiskFault, ShelfFault, VoiceFault, OutOfMemory}

-- a front of a text
pub record IsFront (heard text : List ℕ) : Type 0 where
  pub unheard : List ℕ
  pub whole : text ≡ heard ++ unheard

-- every image that a crash at some moment from old until new may have left
abbrev pub AllSince : Disk → Disk → (Image → Type 0) → Type 0
AllSince old new P = (image : Image) → new.leaves old.clock image → P image

-- the files are those of an image that a crash could leave then
pub record AsThen (then : Disk) (image : Image) : Type 0 where
  pub before : Image
  pub could_be : Now then before
  pub files : image.files ≡ before.files

-- how often the calls of a disk, a voice and a shelf had failed
pub record FaultCounts : Type 0 where
  pub disk : ℕ
  pub voice : ℕ
  pub shelf : ℕ

abbrev pub counts : ℕ → ℕ → ℕ → FaultCounts
counts disk voice shelf = record { disk = disk; voice = voice; shelf = shelf }

-- the status that a result alone would give a run
abbrev pub ended : {T : Type 0} → Result T Stop → Status
ended (Ok value) = status.Done
ended (Err stop) = stopped_status stop

-- The counts don't fall. A fault is answered only where its count rose, and any other answer leaves the count as it
-- was: so want of memory hides no fault.
pub record HasCauses (old new : FaultCounts) (result : Status) : Type 0 where
  pub disk_later : old.disk ≤ new.disk
  pub voice_later : old.voice ≤ new.voice
  pub shelf_later : old.shelf ≤ new.shelf
  pub disk_rose : result ≡ status.DiskFault → Rose old.disk new.disk
  pub voice_rose : result ≡ status.VoiceFault → Rose old.voice new.voice
  pub shelf_rose : result ≡ status.ShelfFault → Rose old.shelf new.shelf
  pub disk_kept : (result ≡ status.DiskFault) ⊎ (new.disk ≡ old.disk)
  pub voice_kept : (result ≡ status.VoiceFault) ⊎ (new.voice ≡ old.voice)
  pub shelf_kept : (result ≡ status.ShelfFault) ⊎ (new.shelf ≡ old.shelf)

-- no count rose
pub record NoneRose (old new : FaultCounts) : Type 0 where
  pub disk : ¬ Rose old.disk new.disk
  pub voice : ¬ Rose old.voice new.voice
  pub shelf : ¬ Rose old.shelf new.shelf

-- the entries that were carried out, where one was stopped: after an output fault this one too
abbrev pub carried_out : {Entry : Type 0} → Stop → List Entry → Entry → List Entry
carried_out VoiceFault front entry = front ++ entry ∷ []
carried_out DiskFault front entry = front
carried_out ShelfFault front entry = front
carried_out OutOfMemory front entry = front

-- an entry was carried out, refused or answered, and a front of its reply was said
pub record Replies {State : Type 0} (act : Act State) (world : World State) (so_far said : List ℕ) : Type 0 where
  pub stepped : Stepped (World State)
  pub step : act.Step world stepped
  pub heard : List ℕ
  pub part : IsFront heard stepped.reply
  pub said_is : said ≡ so_far ++ heard

-- what one entry leaves
module _ {State : Type 0} (Stores : State → Data.HostFiles → Type 0) (act : Act State) where
  -- the data files are those of the board, or, where the entry touches it, those of the migrated board
  abbrev pub Before : State → Data.HostFiles → Type 0
  Before state files = Stores state files ⊎ (IsTrue act.reach.board × Stores (act.migrated state) files)

  -- the data files are those of a board after the entry
  pub record After (world : World State) (files : Data.HostFiles) : Type 0 where
    pub stepped : Stepped (World State)
    pub step : act.Step world stepped
    pub stores : Stores stepped.world.state files

  -- What stands where it was stopped, by the cause: what the files recover to, what was said, and the shelf.
  abbrev pub Stopped : Stop → World State → List ℕ → Disk → ShelfFiles → Type 0
  Stopped DiskFault world so_far disk shelf =
      (Before world.state (recovered disk.files) ⊎ After world (recovered disk.files))
      × (disk.said ≡ so_far)
      × (shelf ≡ world.shelf)
  Stopped ShelfFault world so_far disk shelf =
      (Before world.state (recovered disk.files) ⊎ (IsTrue act.reach.exports × After world (recovered disk.files)))
      × (disk.said ≡ so_far)
      × SameBut act.reach.names world.shelf shelf
  Stopped VoiceFault world so_far disk shelf =
      (reply : Replies act world so_far disk.said)
      × Stores reply.stepped.world.state (recovered disk.files)
      × (shelf ≡ reply.stepped.world.shelf)
  Stopped OutOfMemory world so_far disk shelf =
      Before world.state (recovered disk.files)
      × (disk.said ≡ so_far)
      × (shelf ≡ world.shelf)

module _ {State Entry : Type 0} (door : Door State Entry) where
  -- All taken entries were carried out, refused or answered, and the status is that of their classes.
  pub record IsWhole (result : Status) (start : World State) (entries : List Entry) (old new : Disk) (shelf : ShelfFiles) : Type 0 where
    pub taken : List Entry
    pub left : List Entry
    pub outcome : RunOutcome (World State)
    pub split : entries ≡ taken ++ left
    pub runs : Runs (Step door) start taken outcome
    pub are_taken : AreTaken outcome.classes left
    pub status_is : result ≡ status_of outcome.classes
    pub stores : door.Stores outcome.world.state (recovered new.files)
    pub said_is : new.said ≡ old.said ++ outcome.replies
    pub shelf_is : shelf ≡ outcome.world.shelf
    -- from a firm host, or once the board was touched, the end is firm, and every image recovers to that board
    pub rests : IsFirm old ⊎ IsTrue (any_touches door taken) → IsFirm new
    pub durable : IsFirm old ⊎ IsTrue (any_touches door taken) → AllNow new (λ image. door.Stores outcome.world.state (recovered image.files))

  -- Some entries were carried out or refused, and the next one was stopped.
  pub record IsRunCutShort (result : Status) (start : World State) (entries : List Entry) (old new : Disk) (shelf : ShelfFiles) : Type 0 where
    pub front : List Entry
    pub entry : Entry
    pub back : List Entry
    pub outcome : RunOutcome (World State)
    pub stop : Stop
    pub split : entries ≡ front ++ entry ∷ back
    pub runs : Runs (Step door) start front outcome
    pub goes_on : GoesOn outcome.classes
    pub status_is : result ≡ stopped_status stop
    pub stopped : Stopped door.Stores (door.act entry) stop outcome.world (old.said ++ outcome.replies) new shelf
    -- as in a whole run, but for a disk fault
    pub rests : stop ≢ DiskFault → IsFirm old ⊎ IsTrue (any_touches door (carried_out stop front entry)) → IsFirm new

  -- The entries themselves couldn't be read, and nothing was done. (For a crate that reads them, from words or from the shelf.)
  pub record IsUnread (result : Status) (start : World State) (old new : Disk) (shelf : ShelfFiles) : Type 0 where
    pub stop : Stop
    pub status_is : result ≡ stopped_status stop
    pub from_shelf : (stop ≡ ShelfFault) ⊎ (stop ≡ OutOfMemory)
    pub stores : door.Stores start.state (recovered new.files)
    pub said_is : new.said ≡ old.said
    pub shelf_is : shelf ≡ start.shelf
    pub rests : IsFirm old → IsFirm new

  -- what a run leaves: the whole, or a part by its status
  abbrev pub EndsAs : Status → World State → List Entry → Disk → Disk → ShelfFiles → Type 0
  EndsAs result start entries old new shelf = IsWhole result start entries old new shelf ⊎ IsRunCutShort result start entries old new shelf

  -- Where no count rose, the run is whole, or memory ran out.
  abbrev pub Completes : FaultCounts → FaultCounts → Status → World State → List Entry → Disk → Disk → ShelfFiles → Type 0
  Completes counts after result start entries old new shelf = NoneRose counts after → (result ≡ status.OutOfMemory) ⊎ IsWhole result start entries old new shelf

  -- A run got to the end of some entries, in the last perhaps not to its end, and a front of their replies was said.
  pub record Heard (start : World State) (entries : List Entry) (so_far said : List ℕ) : Type 0 where
    pub front : List Entry
    pub back : List Entry
    pub outcome : RunOutcome (World State)
    pub heard : List ℕ
    pub split : entries ≡ front ++ back
    pub runs : Runs (Step door) start front outcome
    pub reached : IsReached outcome.classes
    pub part : IsFront heard outcome.replies
    pub said_is : said ≡ so_far ++ heard

  -- The run goes on to an entry that touches the board, and the data files are those of the migrated board.
  pub record IsMigrating (outcome : RunOutcome (World State)) (left : List Entry) (files : Data.HostFiles) : Type 0 where
    pub goes_on : GoesOn outcome.classes
    pub next : Entry
    pub back : List Entry
    pub left_is : left ≡ next ∷ back
    pub touched : IsTrue (touches door next)
    pub stores : door.Stores ((door.act next).migrated outcome.world.state) files

  -- A crash leaves the board after some of the entries, or that board migrated by the next, and a front of the replies of
  -- the entries before that was said.
  pub record IsHeld (start : World State) (entries : List Entry) (old : Disk) (image : Image) : Type 0 where
    pub reply : Heard start entries old.said image.said
    pub stores : door.Stores reply.outcome.world.state (recovered image.files) ⊎ IsMigrating reply.outcome reply.back (recovered image.files)

  -- A crash leaves files as it could leave them at entry, and a front of the replies of entries before the first that
  -- touches the board was said.
  pub record IsUntouched (start : World State) (entries : List Entry) (old : Disk) (image : Image) : Type 0 where
    pub reply : Heard start entries old.said image.said
    pub off_board : any_touches door reply.front ≡ false
    pub files : AsThen old image

  -- What a crash at any moment of a run leaves, and in what state the run leaves the host.
  pub record Survives (start : World State) (entries : List Entry) (old new : Disk) : Type 0 where
    pub each : AllSince old new (λ image. IsHeld start entries old image ⊎ IsUntouched start entries old image)
    pub firm : IsFirm old → AllSince old new (IsHeld start entries old)
    pub settled : IsSettled new
