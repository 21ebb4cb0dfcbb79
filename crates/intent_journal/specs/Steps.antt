-- What holds between the steps of a commit and of a recovery.
use Rattle.std.specs.Prelude.{◌≡◌, ◌≢◌, ℕ, ◌+◌, ◌<◌, List, [], ◌∷◌, length, take, drop, true, Some, IsTrue}
use Rattle.door_outside.specs.Disk.{Disk, Image, AllNow, Passes, Same, Torn, as_read}
use Rattle.intent_journal.specs.declared.patch.Patch.{Patch}
use Rattle.intent_journal.specs.declared.patch.Patch.TheVariants.{Whole, Put}
use Rattle.intent_journal.specs.Hosts.{IsFirm}
use Rattle.intent_journal.specs.Journal.{IsClosed, body_patches, body_text, intent_of, open_patches, spelled}
use Rattle.intent_journal.specs.Patches.{HostFiles, SameFiles, patched, are_within, data_files, is_touched}

-- the journal is that of the disk as it reads, and carrying out the patches is allowed and gives the same data files
pub record Stands (patches : List Patch) (goal image : Image) : Type 0 where
  pub said : image.said ≡ goal.said
  pub journal : image.files 1 ≡ goal.files 1
  pub within : IsTrue (are_within patches image.files)
  pub result : data_files (patched patches image.files) ≡ data_files (patched patches goal.files)

-- a file changes in any way
abbrev pub Anyhow : List ℕ → List ℕ → Type 0
Anyhow old new = Unit {0}

-- what a patch may make of its file until it is durable there
abbrev pub Partly : Patch → List ℕ → List ℕ → Type 0
Partly (Whole file bytes) old new = Anyhow old new
Partly (Put file at bytes) old new = Torn at (length bytes) old new

-- a change of the journal that keeps its first byte
abbrev pub BehindGate : List ℕ → List ℕ → Type 0
BehindGate old new = 0 < length old → take 1 new ≡ take 1 old

-- every image has the files of the patches as read
abbrev pub AreDurable : List Patch → Disk → Type 0
AreDurable patches disk = (file : ℕ) → is_touched file patches ≡ true → AllNow disk (λ image. image.files file ≡ disk.files file)

-- nothing but syncs went by
pub record OnlySynced (old new : Disk) : Type 0 where
  pub call : Passes Same Same old new
  pub same : as_read new ≡ as_read old
  pub wrote : new.wrote ≡ old.wrote

-- the journal has this body behind its gate, before free bytes, and nothing else has changed
pub record HasJournalBody (count : ℕ) (text : List ℕ) (old new : HostFiles) : Type 0 where
  pub gate : take 1 (new 1) ≡ take 1 (old 1)
  pub spells : take (12 + length text) (drop 1 (new 1)) ≡ body_text count text
  pub body : body_patches (new 1) ≡ Some (spelled count text)
  pub others : (other : ℕ) → other ≢ 1 → new other ≡ old other

-- every image has the journal as read
abbrev pub JournalKept : Disk → Type 0
JournalKept disk = AllNow disk (λ image. image.files 1 ≡ disk.files 1)

-- the data files are as they were, and the journal holds no intent
pub record Quiet (old image : Image) : Type 0 where
  pub said : image.said ≡ old.said
  pub files : data_files image.files ≡ data_files old.files
  pub closed : intent_of image.files ≡ []

-- the whole body stands behind a gate, the data files are as they were, and in every image all are as read
pub record IsStaged (patches : List Patch) (old new : Disk) : Type 0 where
  pub body : body_patches (new.files 1) ≡ Some patches
  pub gate : 0 < length (new.files 1)
  pub files : data_files new.files ≡ data_files old.files
  pub kept : AllNow new (λ image. SameFiles image.files new.files)

-- a closed gate stands alone or before a body, the data files are as they were, and in every image all are as read
pub record IsShut (old new : Disk) : Type 0 where
  pub closed : IsClosed (new.files 1)
  pub gate : 0 < length (new.files 1)
  pub files : data_files new.files ≡ data_files old.files
  pub kept : AllNow new (λ image. SameFiles image.files new.files)

-- firm, and every image has the journal as read
pub record IsSure (disk : Disk) : Type 0 where
  pub firm : IsFirm disk
  pub journal : JournalKept disk

-- an open gate stands before a body of these patches
pub record IsOpen (patches : List Patch) (journal : List ℕ) : Type 0 where
  pub intent : open_patches journal ≡ patches
  pub body : body_patches journal ≡ Some patches
  pub gate : take 1 journal ≡ 79 ∷ []
