-- How much a run of one command writes that posts messages.
use Rattle.std.specs.Prelude.{◌≡◌, ℕ, List, [], ◌∷◌}
use Rattle.cmd_board.specs.WriteBound.{FilesKeepBound, KeepsWriteBound}
use Rattle.cmd_entries.specs.Words.{CommandReads}
use Rattle.cmd_entries.specs.declared.command.Command.{Command}
use Rattle.cmd_entries.specs.declared.command.Command.TheVariants as command
use Rattle.cmd_entries.specs.declared.entry.Entry.{Entry}
use Rattle.cmd_entries.specs.declared.entry.Entry.TheVariants.{Run}
use Rattle.door_outside.specs.Disk.{Disk}
use Rattle.door_outside.specs.Shelf.{ShelfFiles}
use Rattle.intent_journal.specs.Journal.{IsClosed}
use Rattle.mail_cli.specs.Step.{does}

-- the command posts messages
abbrev pub PostsMessages : Command → Type 0
PostsMessages (command.Ack user packet) = ⊥
PostsMessages (command.Adopt conference prefix) = Unit {0}
PostsMessages (command.Batch file) = ⊥
PostsMessages command.Check = ⊥
PostsMessages (command.Compose folder conference sheet rep) = ⊥
PostsMessages (command.Enroll name flags conferences) = ⊥
PostsMessages (command.Export user limit folder) = ⊥
PostsMessages (command.Import conference file) = Unit {0}
PostsMessages (command.Init file) = ⊥
PostsMessages (command.Kill conference number) = ⊥
PostsMessages (command.List file) = ⊥
PostsMessages (command.Pack conference) = ⊥
PostsMessages (command.Read folder) = ⊥
PostsMessages (command.Reply folder place text rep) = ⊥
PostsMessages (command.Sample seed count) = Unit {0}
PostsMessages (command.Show folder place) = ⊥
PostsMessages (command.Scan file) = ⊥
PostsMessages (command.Toss file) = Unit {0}
PostsMessages (command.Upload user file) = Unit {0}

module _ (now : ℕ) where
  -- Where the command posts messages, and no change was under way at entry, it keeps the bound of what it does then. (The
  -- bound itself is of a ledger in today's version.)
  abbrev pub CommandKeepsBound : Command → Disk → Disk → ShelfFiles → Type 0
  CommandKeepsBound c old new shelf = PostsMessages c → IsClosed (old.files 1) → KeepsWriteBound (does now c) old new shelf

  -- so does an entry, and a list of one
  abbrev pub EntryKeepsBound : Entry → Disk → Disk → ShelfFiles → Type 0
  EntryKeepsBound one old new shelf = (c : Command) → one ≡ Run c → CommandKeepsBound c old new shelf

  abbrev pub OneKeepsBound : List Entry → Disk → Disk → ShelfFiles → Type 0
  OneKeepsBound entries old new shelf = (c : Command) → entries ≡ Run c ∷ [] → CommandKeepsBound c old new shelf

  -- and words that are one command
  abbrev pub RunKeepsBound : List (List ℕ) → Disk → Disk → ShelfFiles → Type 0
  RunKeepsBound words old new shelf = (c : Command) → CommandReads words c → CommandKeepsBound c old new shelf

-- Where the command posts messages, and no change was under way at entry, the bound is kept between the boards for which the
-- files at entry and at exit stand.
abbrev pub CommandFilesKeepBound : Command → Disk → Disk → Type 0
CommandFilesKeepBound c old new = PostsMessages c → IsClosed (old.files 1) → FilesKeepBound old new

-- so it is of an entry, of a list of one, and of words that are one command
abbrev pub EntryFilesKeepBound : Entry → Disk → Disk → Type 0
EntryFilesKeepBound one old new = (c : Command) → one ≡ Run c → CommandFilesKeepBound c old new

abbrev pub OneFilesKeepBound : List Entry → Disk → Disk → Type 0
OneFilesKeepBound entries old new = (c : Command) → entries ≡ Run c ∷ [] → CommandFilesKeepBound c old new

abbrev pub RunFilesKeepBound : List (List ℕ) → Disk → Disk → Type 0
RunFilesKeepBound words old new = (c : Command) → CommandReads words c → CommandFilesKeepBound c old new
