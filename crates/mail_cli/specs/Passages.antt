-- Runs, and what crashes leave of them, one behind the other.
use Rattle.std.specs.Prelude.{◌≡◌, ◌⊎◌, ◌≤◌, ℕ, false, List, [], ◌∷◌, ◌++◌, length, map, All, Contains, IsTrue, Some}
use Rattle.std.specs.List.{flat_map}
use Rattle.cmd_board.specs.State.{State, NotMade, Made, AreSpoiled, Stores, migrated}
use Rattle.cmd_board.specs.mail_board.Written.{slot_total}
use Rattle.board_layout.specs.Board.{Board}
use Rattle.board_layout.specs.Lookups.{pointer_at}
use Rattle.board_laws.specs.History.{Deed, IsHistory, ChangesBoard, LeadsTo}
use Rattle.board_laws.specs.Kept.{IsLive, NoAckBetween}
use Rattle.board_laws.specs.Once.{IsUploadDeed}
use Rattle.board_laws.specs.Passed.{IsAcknowledged}
use Rattle.board_laws.specs.offered_packets.Offered.{offered}
use Rattle.board_laws.specs.offered_packets.Sees.{sees}
use Rattle.board_laws.specs.offered_packets.declared.offered_message.OfferedMessage.{OfferedMessage}
use Rattle.cmd_entries.specs.Entries.{EntriesRead}
use Rattle.cmd_entries.specs.declared.entry.Entry.{Entry}
use Rattle.door_outside.specs.Disk.{Disk, Image, Now, AllNow}
use Rattle.door_outside.specs.Shelf as Shelf
use Rattle.door_outside.specs.Shelf.{SameBut}
use Rattle.entry_runs.specs.Door.{World, here, Step, any_touches}
use Rattle.entry_runs.specs.Promise.{AllSince, IsFront}
use Rattle.entry_runs.specs.Runs.{RunOutcome, Runs, AreTaken, status_of, stopped_status}
use Rattle.entry_runs.specs.declared.status.Status.{Status}
use Rattle.entry_runs.specs.declared.stop.Stop.{Stop}
use Rattle.intent_journal.specs.Hosts.{IsFirm}
use Rattle.intent_journal.specs.Patches.{HostFiles}
use Rattle.intent_journal.specs.Recovered.{recovered}
use Rattle.mail_cli.specs.BoardEntry.{board_command, steps}
use Rattle.mail_cli.specs.Histories.{AreTried, StandFor, reached}
use Rattle.mail_cli.specs.Step.{act, door}

-- A run as it began: its moment, its words, and the shelf at its entry.
pub record Begun : Type 0 where
  pub now : ℕ
  pub words : List (List ℕ)
  pub shelf : Shelf.ShelfFiles

abbrev pub begun : ℕ → List (List ℕ) → Shelf.ShelfFiles → Begun
begun now words shelf = record { now = now; words = words; shelf = shelf }

-- What was carried out of a run, to its end or to where a fault or a crash cut it short: the entries, and what they came to.
pub record Passage : Type 0 where
  pub run : Begun
  pub entries : List Entry
  pub outcome : RunOutcome (World State)

abbrev pub passage : Begun → List Entry → RunOutcome (World State) → Passage
passage run entries outcome = record { run = run; entries = entries; outcome = outcome }

-- From the state for which some data files stand, these entries come to that for which others do. Where the run was cut
-- short, the next entry may have migrated it.
pub record IsPassage (before : HostFiles) (p : Passage) (behind : HostFiles) : Type 0 where
  pub start : State
  pub stores : Stores start before
  pub runs : Runs (Step (door p.run.now)) (here start p.run.shelf) p.entries p.outcome
  pub leaves : StandFor p.outcome.world.state behind

-- Its entries are the first of those that the words of its run are.
pub record TakesFirst (p : Passage) : Type 0 where
  pub all : List Entry
  pub left : List Entry
  pub tried : AreTried p.run.words p.run.shelf all
  pub split : all ≡ p.entries ++ left

-- ---- one run
-- A run brought data files to others, by a passage of it, and said a front of the replies of the entries in that.
pub record Brings (run : Begun) (before behind : HostFiles) (so_far said : List ℕ) : Type 0 where
  pub entries : List Entry
  pub outcome : RunOutcome (World State)
  pub first : TakesFirst (passage run entries outcome)
  pub is : IsPassage before (passage run entries outcome) behind
  pub heard : List ℕ
  pub part : IsFront heard outcome.replies
  pub said_is : said ≡ so_far ++ heard

module _ (run : Begun) (old new : Disk) where
  -- to its exit
  abbrev pub BringsToExit : Type 0
  BringsToExit = Brings run (recovered old.files) (recovered new.files) old.said new.said

  -- to where a crash came
  abbrev pub BringsToImage : Image → Type 0
  BringsToImage image = Brings run (recovered old.files) (recovered image.files) old.said image.said

  -- All entries that were to be taken were, and the whole of their replies was said: the status is theirs, and the shelf as
  -- they leave it.
  pub record EndsWhole (result : Status) (later : Shelf.ShelfFiles) : Type 0 where
    pub brings : BringsToExit
    pub read : EntriesRead run.words run.shelf brings.first.all
    pub are_taken : AreTaken brings.outcome.classes brings.first.left
    pub status_is : result ≡ status_of brings.outcome.classes
    pub all_said : brings.heard ≡ brings.outcome.replies
    pub shelf_is : later ≡ brings.outcome.world.shelf

  -- It was stopped, as the status says. The shelf is as the entries in the passage leave it, but for names that an
  -- entry may write in which it was stopped.
  pub record EndsStopped (result : Status) (later : Shelf.ShelfFiles) : Type 0 where
    pub brings : BringsToExit
    pub stop : Stop
    pub status_is : result ≡ stopped_status stop
    pub shelf_is : (later ≡ brings.outcome.world.shelf)
        ⊎ ((entry : Entry) × Contains brings.first.all entry × SameBut (act run.now entry).reach.names brings.outcome.world.shelf later)

  -- No entry in the passage touches the board, and the files are those of an image that a crash could leave at entry.
  pub record BringsAsThen (image : Image) : Type 0 where
    pub before : Image
    pub could_be : Now old before
    pub files : image.files ≡ before.files
    pub brings : Brings run (recovered before.files) (recovered image.files) old.said image.said
    pub off_board : any_touches (door run.now) brings.entries ≡ false

  -- A run is a passage, at its exit, and where a crash came at any moment of it. From a host that is only settled, and
  -- from no other, a crash may also leave files as it could have left them at entry.
  pub record IsOnePassage (result : Status) (later : Shelf.ShelfFiles) : Type 0 where
    pub exit : EndsWhole result later ⊎ EndsStopped result later
    pub each : AllSince old new (λ image. BringsToImage image ⊎ BringsAsThen image)
    pub firm : IsFirm old → AllSince old new BringsToImage

-- ---- many runs
-- from these data files on, passages that are one behind the other lead to those
abbrev pub AreJoined : HostFiles → List Passage → HostFiles → Type 0
AreJoined first [] last = last ≡ first
AreJoined first (p ∷ passages) last = (between : HostFiles) × IsPassage first p between × AreJoined between passages last

-- These runs, one behind the other, brought data files to others: each to its end, or to where a fault or a crash cut it short.
pub record HaveBrought (first : HostFiles) (runs : List Begun) (last : HostFiles) : Type 0 where
  pub passages : List Passage
  pub runs_are : map (λ (p : Passage). p.run) passages ≡ runs
  pub entries_are : All TakesFirst passages
  pub joined : AreJoined first passages last

-- Where runs brought some data files to what the host holds at entry, they and this run brought them to what it holds since.
-- So the next run may begin on that: on the files as they are read at exit, or on any image of a crash.
pub record RunJoins (run : Begun) (old new : Disk) : Type 0 where
  pub exit : (first : HostFiles) (runs : List Begun) → HaveBrought first runs (recovered old.files) → HaveBrought first (runs ++ run ∷ []) (recovered new.files)
  pub firm : IsFirm old → (first : HostFiles) (runs : List Begun) → HaveBrought first runs (recovered old.files)
      → AllSince old new (λ image. HaveBrought first (runs ++ run ∷ []) (recovered image.files))
  -- from a host that is only settled, with each image that a crash could leave at entry
  pub each : (first : HostFiles) (runs : List Begun) → AllNow old (λ image. HaveBrought first runs (recovered image.files))
      → AllSince old new (λ image. HaveBrought first (runs ++ run ∷ []) (recovered image.files))
  -- and so with each that it could leave at exit
  pub now : (first : HostFiles) (runs : List Begun) → AllNow old (λ image. HaveBrought first runs (recovered image.files))
      → AllNow new (λ image. HaveBrought first (runs ++ run ∷ []) (recovered image.files))

-- ---- what is kept along them
-- Behind a history they are one more, of all their entries in order. It leads to the state for which the last files
-- stand, migrated or not.
pub record AreTold (start : State) (deeds : List (Deed Entry)) (passages : List Passage) (last : HostFiles) : Type 0 where
  pub more : List (Deed Entry)
  pub entries_are : map (λ (deed : Deed Entry). deed.entry) more ≡ flat_map (λ (p : Passage). p.entries) passages
  pub history : IsHistory steps start (deeds ++ more)
  pub stores : StandFor (reached start (deeds ++ more)) last

-- Until acknowledged: what was offered to a user after the first i deeds is offered again by the board for which the
-- files stand at the end. That is so where the message is live on that board, and none of the deeds since then
-- acknowledges a packet of his.
abbrev pub OffersUntilAcknowledged : State → List (Deed Entry) → HostFiles → Type 0
OffersUntilAcknowledged start deeds files =
    (state : State) (last : Board) → Stores state files → migrated state ≡ Made last → (i : ℕ) → i ≤ length deeds → (then : Board) → LeadsTo start deeds i then
    → (user : ℕ) → NoAckBetween board_command start deeds i (length deeds) user → (limit : ℕ) (m : OfferedMessage) → Contains (offered then user limit) m → IsLive last m
    → (most : ℕ) → slot_total last ≤ most → Contains (offered last user most) m

-- Passed: take a live message that a user may see on the board for which the files stand at the end, with a number at
-- most his pointer. It was in the offered list of an export among the deeds, and he acknowledged its packet. The deeds
-- are from no board on.
abbrev pub PassesAcknowledged : List (Deed Entry) → HostFiles → Type 0
PassesAcknowledged deeds files =
    (state : State) (last : Board) → Stores state files → migrated state ≡ Made last → (user : ℕ) (m : OfferedMessage) → IsTrue (sees last user m.place m.number)
    → (pointer : ℕ) → pointer_at m.place user last ≡ Some pointer → m.number ≤ pointer → IsAcknowledged board_command NotMade deeds (length deeds) user m

-- Once per user and digest: two deeds that change the board by an upload of them are one.
abbrev pub PostsOnce : State → List (Deed Entry) → Type 0
PostsOnce start deeds =
    (user : ℕ) (digest : List ℕ) (i j : ℕ) → IsUploadDeed board_command start deeds i user digest → ChangesBoard start deeds i
    → IsUploadDeed board_command start deeds j user digest → ChangesBoard start deeds j → i ≡ j

-- Runs and crashes, one behind the other, are one history, of all entries that were carried out. By it what is offered
-- is offered until acknowledged, nothing else is passed, and each packet is posted once. The files are never spoiled.
pub record KeepPromises (start : State) (passages : List Passage) (last : HostFiles) : Type 0 where
  pub told : AreTold start [] passages last
  pub offers : OffersUntilAcknowledged start told.more last
  pub passed : start ≡ NotMade → PassesAcknowledged told.more last
  pub posts : PostsOnce start told.more
  pub unspoiled : ¬ AreSpoiled last
