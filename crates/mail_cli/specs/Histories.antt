-- A run, and what a crash leaves of it, behind a history.
use Rattle.std.specs.Prelude.{◌≡◌, ◌⊎◌, ℕ, List, [], ◌++◌, length, map, All}
use Rattle.cmd_board.specs.State.{State, Stores, migrated}
use Rattle.board_laws.specs.History.{Deed, IsHistory, after}
use Rattle.cmd_entries.specs.Entries.{EntriesRead}
use Rattle.cmd_entries.specs.declared.entry.Entry.{Entry}
use Rattle.door_outside.specs.Disk.{Disk, Image, Now}
use Rattle.door_outside.specs.Shelf as Shelf
use Rattle.intent_journal.specs.Patches.{HostFiles}
use Rattle.intent_journal.specs.Recovered.{recovered}
use Rattle.mail_cli.specs.BoardEntry.{steps}

-- the state that deeds lead to
abbrev pub reached : State → List (Deed Entry) → State
reached start deeds = after start deeds (length deeds)

-- the deeds are those of these entries, taken at one moment
pub record AreDeedsOf (now : ℕ) (entries : List Entry) (deeds : List (Deed Entry)) : Type 0 where
  pub entries_are : map (λ (deed : Deed Entry). deed.entry) deeds ≡ entries
  pub moments_are : All (λ (deed : Deed Entry). deed.now ≡ now) deeds

-- Behind a history these entries were taken at one moment: with their deeds it is a history that leads to this state.
pub record Continues (now : ℕ) (start : State) (deeds : List (Deed Entry)) (entries : List Entry) (state : State) : Type 0 where
  pub more : List (Deed Entry)
  pub are : AreDeedsOf now entries more
  pub history : IsHistory steps start (deeds ++ more)
  pub leads : reached start (deeds ++ more) ≡ state

-- the files stand for a state, or for that state migrated
abbrev pub StandFor : State → HostFiles → Type 0
StandFor state files = Stores state files ⊎ Stores (migrated state) files

-- Behind a history a front of these entries was taken, which leads to the state for which the files stand, migrated or not.
pub record HoldsFront (now : ℕ) (start : State) (deeds : List (Deed Entry)) (entries : List Entry) (files : HostFiles) : Type 0 where
  pub front : List Entry
  pub back : List Entry
  pub split : entries ≡ front ++ back
  pub state : State
  pub continues : Continues now start deeds front state
  pub stores : StandFor state files

-- ---- one run
-- the entries of the words, or none where they couldn't be read
abbrev pub AreTried : List (List ℕ) → Shelf.ShelfFiles → List Entry → Type 0
AreTried words shelf entries = EntriesRead words shelf entries ⊎ (entries ≡ [])

-- An image that a crash could leave at entry has these files, and so they hold a front of the entries behind whatever
-- history leads to that image.
pub record HoldsAsThen (now : ℕ) (entries : List Entry) (old : Disk) (image : Image) : Type 0 where
  pub before : Image
  pub could_be : Now old before
  pub holds : (start : State) (deeds : List (Deed Entry)) → IsHistory steps start deeds
      → StandFor (reached start deeds) (recovered before.files) → HoldsFront now start deeds entries (recovered image.files)

-- A run of words behind a history: at its end, and after a crash at any moment of it, the files hold a front of its entries.
module _ (now : ℕ) (words : List (List ℕ)) where
  abbrev pub RunEndsSo : State → List (Deed Entry) → Disk → Shelf.ShelfFiles → Type 0
  RunEndsSo start deeds new shelf = (entries : List Entry) × AreTried words shelf entries × HoldsFront now start deeds entries (recovered new.files)

  abbrev pub RunBreaksSo : State → List (Deed Entry) → Disk → Disk → Shelf.ShelfFiles → Type 0
  RunBreaksSo start deeds old new shelf =
      (entries : List Entry) × AreTried words shelf entries
      × ((image : Image) → new.leaves old.clock image → HoldsFront now start deeds entries (recovered image.files) ⊎ HoldsAsThen now entries old image)

  abbrev pub RunContinues : Disk → Disk → Shelf.ShelfFiles → Type 0
  RunContinues old new shelf =
      (start : State) (deeds : List (Deed Entry)) → IsHistory steps start deeds
      → StandFor (reached start deeds) (recovered old.files) → RunEndsSo start deeds new shelf × RunBreaksSo start deeds old new shelf
