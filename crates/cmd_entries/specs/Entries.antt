-- The entries of a run.
use Rattle.std.specs.Prelude.{◌≡◌, ◌⊎◌, ◌≤◌, ℕ, List, [], ◌∷◌, ◌++◌, codes, Result, IsErrOf}
use Rattle.door_outside.specs.Cause.{Rose}
use Rattle.door_outside.specs.Name.{HasParts, IsShelfName}
use Rattle.door_outside.specs.Shelf.{ShelfFiles}
use Rattle.shelf_files.specs.ShelfFile.{file_within}
use Rattle.shelf_files.specs.declared.refusal.Refusal.{Refusal}
use Rattle.cmd_entries.specs.Batch.{BatchReads, batch_limit}
use Rattle.cmd_entries.specs.Words.{CommandReads, IsBatch, IsNoCommand, NamesConferences}
use Rattle.cmd_entries.specs.declared.command.Command.{Command}
use Rattle.cmd_entries.specs.declared.command.Command.TheVariants as command
use Rattle.cmd_entries.specs.declared.entry.Entry.{Entry}
use Rattle.cmd_entries.specs.declared.entry.Entry.TheVariants.{Run, Wrong, Refuse}
use Rattle.cmd_entries.specs.declared.entry.Usage.TheVariants.{Words}
use Rattle.cmd_entries.specs.declared.unread.Unread.{Unread}
use Rattle.cmd_entries.specs.declared.unread.Unread.TheVariants.{ShelfFault}

-- ---- words
-- The words are one command, which is no batch; or a batch, of whose file this is read; or no command.
abbrev pub EntriesFrom : List (List ℕ) → (List ℕ → Result (List ℕ) Refusal) → List Entry → Type 0
EntriesFrom words read entries =
    ((c : Command) × CommandReads words c × ¬ IsBatch c × (entries ≡ Run c ∷ []))
    ⊎ (((file : List ℕ) × CommandReads words (command.Batch file) × BatchReads (read file) entries)
    ⊎ (IsNoCommand words × (entries ≡ Wrong Words ∷ [])))

-- the entries that words are, with the batch as the shelf holds it
abbrev pub EntriesRead : List (List ℕ) → ShelfFiles → List Entry → Type 0
EntriesRead words shelf entries = EntriesFrom words (λ file. file_within shelf file batch_limit) entries

-- those that they are, whatever was read of a batch
abbrev pub AreEntries : List (List ℕ) → List Entry → Type 0
AreEntries words entries = (read : List ℕ → Result (List ℕ) Refusal) × EntriesFrom words read entries

-- The count of the shelf's faults doesn't fall. A fault is answered only where it rose, and any other answer leaves it.
pub record UnreadCauses {T : Type 0} (old new : ℕ) (result : Result T Unread) : Type 0 where
  pub later : old ≤ new
  pub rose : IsErrOf result ShelfFault → Rose old new
  pub kept : IsErrOf result ShelfFault ⊎ (new ≡ old)

-- ---- entries
-- the names in a command are such as its words have; a batch is entries, and none itself
abbrev pub CanRun : Command → Type 0
CanRun (command.Ack user packet) = Unit {0}
CanRun (command.Adopt conference prefix) = IsShelfName (prefix ++ codes ".JHR")
CanRun (command.Batch file) = ⊥
CanRun command.Check = Unit {0}
CanRun (command.Compose folder conference sheet rep) = HasParts 3 folder
CanRun (command.Enroll name flags conferences) = NamesConferences conferences
CanRun (command.Export user limit folder) = HasParts 3 folder
CanRun (command.Import conference file) = Unit {0}
CanRun (command.Init file) = Unit {0}
CanRun (command.Kill conference number) = Unit {0}
CanRun (command.List file) = Unit {0}
CanRun (command.Pack conference) = Unit {0}
CanRun (command.Read folder) = HasParts 3 folder
CanRun (command.Reply folder place text rep) = HasParts 3 folder
CanRun (command.Sample seed count) = Unit {0}
CanRun (command.Show folder place) = HasParts 3 folder
CanRun (command.Scan file) = Unit {0}
CanRun (command.Toss file) = Unit {0}
CanRun (command.Upload user file) = Unit {0}

abbrev pub EntryCanRun : Entry → Type 0
EntryCanRun (Run c) = CanRun c
EntryCanRun (Wrong which) = Unit {0}
EntryCanRun (Refuse why) = Unit {0}

-- words that are no command
abbrev pub IsWrong : Entry → Type 0
IsWrong (Run c) = ⊥
IsWrong (Wrong which) = Unit {0}
IsWrong (Refuse why) = ⊥

-- one of the entries is words that are no command
abbrev pub HasWrong : List Entry → Type 0
HasWrong entries = (front back : List Entry) × (one : Entry) × IsWrong one × (entries ≡ front ++ one ∷ back)

-- the first of them is
abbrev pub BeginsWrong : List Entry → Type 0
BeginsWrong entries = (back : List Entry) × (one : Entry) × IsWrong one × (entries ≡ one ∷ back)
