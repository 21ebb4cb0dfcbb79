-- A run of one command that posts messages writes no more than these may: from what the command wrote to what the run did.
use Rattle.std.proofs.Common.{◌≡◌, inl, inr, ℕ, zero, suc, List, [], ◌∷◌, drop, refl, sym, ◌∙◌, ap, subst, arith}
use Rattle.std.proofs.lemmas.List.{drop_all}
use Rattle.std.specs.Prelude.{Result, Ok, Err}
use Rattle.cmd_board.specs.WriteBound.{KeepsWriteBound, WritesWithin}
use Rattle.cmd_entries.proofs.OneCommand.{command_unique, never_both}
use Rattle.cmd_entries.specs.Entries.{AreEntries, EntriesFrom, EntriesRead}
use Rattle.cmd_board.specs.shelf_files.ShelfFile.{file_within}
use Rattle.cmd_board.specs.shelf_files.declared.refusal.Refusal.{Refusal}
use Rattle.cmd_entries.specs.Batch.{batch_limit}
use Rattle.cmd_entries.specs.Words.{CommandReads}
use Rattle.cmd_entries.specs.declared.command.Command.{Command}
use Rattle.cmd_entries.specs.declared.command.Command.TheVariants as command
use Rattle.cmd_entries.specs.declared.entry.Entry.{Entry}
use Rattle.cmd_entries.specs.declared.entry.Entry.TheVariants.{Run}
use Rattle.door_outside.specs.Disk.{Disk}
use Rattle.door_outside.specs.Shelf as Shelf
use Rattle.entry_runs.specs.Entry.{Reply}
use Rattle.entry_runs.specs.Saying.{Spoken, Voiced}
use Rattle.entry_runs.specs.declared.class.Class.{Class}
use Rattle.entry_runs.specs.declared.stop.Stop.{Stop}
use Rattle.mail_cli.specs.CommandBound.{CommandFilesKeepBound, CommandKeepsBound, EntryFilesKeepBound, EntryKeepsBound, OneFilesKeepBound, OneKeepsBound, PostsMessages, RunFilesKeepBound, RunKeepsBound}
use Rattle.mail_cli.specs.Step.{does}

-- nothing was written
pub unwritten : (now : ℕ) (words : List (List ℕ)) (disk : Disk) (shelf : Shelf.ShelfFiles) → RunKeepsBound now words disk disk shelf
unwritten now words disk shelf c reads posts closed state stores today stepped step = omega arith

module _ (now : ℕ) where
  -- the reply was said, which writes nothing
  said_bound : (c : Command) (old : Disk) {mid new : Disk} (shelf : Shelf.ShelfFiles) {text : List ℕ} {T E : Type 0} {result : Result T E} → Voiced text mid new result → CommandKeepsBound now c old mid shelf → CommandKeepsBound now c old new shelf
  said_bound c old {mid} {new} shelf voiced kept posts closed state stores today stepped step =
      subst (λ (n : ℕ). WritesWithin state stepped.world.state old.wrote n) (sym voiced.wrote) (kept posts closed state stores today stepped step)

  pub spoken_bound : (c : Command) {Host : Type 0} (disk : Host → Disk) (old : Disk) {mid new : Host} (shelf : Shelf.ShelfFiles) (answer : Result Reply Stop) (result : Result Class Stop) → Spoken disk answer mid new result
      → CommandKeepsBound now c old (disk mid) shelf → CommandKeepsBound now c old (disk new) shelf
  spoken_bound c disk old shelf (Ok reply) result spoken kept = said_bound c old shelf spoken.1 kept
  spoken_bound c disk old shelf (Err stop) result spoken kept = subst (λ host. CommandKeepsBound now c old (disk host) shelf) (sym spoken.0) kept

  pub command_bound : (c : Command) (old new : Disk) (shelf : Shelf.ShelfFiles) → CommandKeepsBound now c old new shelf → EntryKeepsBound now (Run c) old new shelf
  command_bound c old new shelf kept other is =
      let same : c ≡ other = cc in
      subst (λ (x : Command). CommandKeepsBound now x old new shelf) same kept

  -- of a list of one entry a run is at the first, and nothing was done before it
  alone : (entries back : List Entry) (item : Entry) (index : ℕ) → drop index entries ≡ item ∷ back → (one : Entry) → entries ≡ one ∷ [] → (index ≡ 0) × (item ≡ one)
  alone entries back item index more one is = at index (subst (λ (xs : List Entry). drop index xs ≡ item ∷ back) is more)
    where
      at : (i : ℕ) → drop i (one ∷ []) ≡ item ∷ back → (i ≡ 0) × (item ≡ one)
      at zero here = let same : item ≡ one = cc in (refl, same)
      at (suc i) here = let never : [] ≡ item ∷ back = sym (drop_all (suc i) (one ∷ []) (omega arith)) ∙ here in absurd (cc never)

  module _ {Host Files : Type 0} (disk : Host → Disk) (files : Files → Shelf.ShelfFiles) (entries back : List Entry) (item : Entry) (index : ℕ) (more : drop index entries ≡ item ∷ back) {old mid : Host} {first later : Files} where
    pub one_bound : (index ≡ 0 → (mid ≡ old) × (later ≡ first)) → (new : Host) → EntryKeepsBound now item (disk mid) (disk new) (files later) → OneKeepsBound now entries (disk old) (disk new) (files first)
    one_bound unbegun new kept c is =
        let here = alone entries back item index more (Run c) is in
        let same = unbegun here.0 in
        subst (λ (host : Host). CommandKeepsBound now c (disk host) (disk new) (files first)) same.0
        (subst (λ (shelf : Files). CommandKeepsBound now c (disk mid) (disk new) (files shelf)) same.1 (kept c here.1))

  -- ---- words
  -- the entries of words that are a command that posts messages
  entries_are : (words : List (List ℕ)) (read : List ℕ → Result (List ℕ) Refusal) (entries : List Entry) → EntriesFrom words read entries → (c : Command) → CommandReads words c → PostsMessages c → entries ≡ Run c ∷ []
  entries_are words read entries (inl (other, reads, single, is)) c taken posts = is ∙ ap (λ (x : Command). Run x ∷ []) (command_unique words other c reads taken)
  entries_are words read entries (inr (inl (file, reads, lines))) c taken posts = absurd (subst PostsMessages (command_unique words c (command.Batch file) taken reads) posts)
  entries_are words read entries (inr (inr (never, is))) c taken posts = absurd (never_both words c taken never)

  pub run_bound : (words : List (List ℕ)) (old new : Disk) (shelf later : Shelf.ShelfFiles) (entries : List Entry) → later ≡ shelf → EntriesRead words shelf entries → OneKeepsBound now entries old new later → RunKeepsBound now words old new shelf
  run_bound words old new shelf later entries same reads kept c taken posts closed =
      subst (λ (files : Shelf.ShelfFiles). KeepsWriteBound (does now c) old new files) same (kept c (entries_are words (λ file. file_within shelf file batch_limit) entries reads c taken posts) posts closed)

  -- ---- whatever the shelf holds
  pub unwritten_between : (words : List (List ℕ)) (disk : Disk) → RunFilesKeepBound words disk disk
  unwritten_between words disk c reads posts closed state next stores today after = omega arith

  pub entry_between : (c : Command) (old new : Disk) → CommandFilesKeepBound c old new → EntryFilesKeepBound (Run c) old new
  entry_between c old new kept other is =
      let same : c ≡ other = cc in
      subst (λ (x : Command). CommandFilesKeepBound x old new) same kept

  pub one_between : {Host : Type 0} (disk : Host → Disk) (entries back : List Entry) (item : Entry) (index : ℕ) → drop index entries ≡ item ∷ back → {old mid : Host} → (index ≡ 0 → mid ≡ old) → (new : Host)
      → EntryFilesKeepBound item (disk mid) (disk new) → OneFilesKeepBound entries (disk old) (disk new)
  one_between disk entries back item index more unbegun new kept c is =
      let here = alone entries back item index more (Run c) is in
      subst (λ host. CommandFilesKeepBound c (disk host) (disk new)) (unbegun here.0) (kept c here.1)

  pub run_between : (words : List (List ℕ)) (old new : Disk) (entries : List Entry) → AreEntries words entries → OneFilesKeepBound entries old new → RunFilesKeepBound words old new
  run_between words old new entries are kept c taken posts closed = kept c (entries_are words are.0 entries are.1 c taken posts) posts closed
