-- Files and a shelf that stay as they are.
use Rattle.std.proofs.Common.{◌≡◌, inl, inr, ℕ, Bool, true, false, List, ◌∷◌, drop, refl, sym, ◌∙◌, ap, subst}
use Rattle.std.proofs.lemmas.Bool.{true≢false}
use Rattle.std.specs.List.{list_any}
use Rattle.std.specs.Prelude.{◌||◌, Result, Ok, Err}
use Rattle.cmd_entries.specs.Entries.{AreEntries, EntriesRead}
use Rattle.cmd_entries.specs.Words.{CommandReads}
use Rattle.cmd_entries.specs.declared.command.Command.TheVariants as command
use Rattle.cmd_entries.specs.declared.entry.Entry.{Entry}
use Rattle.door_outside.proofs.Moments.{still, joined, weaker}
use Rattle.door_outside.specs.Disk.{Disk}
use Rattle.door_outside.specs.Shelf.{ShelfFiles}
use Rattle.entry_runs.proofs.Voice.{as_before, as_now}
use Rattle.entry_runs.specs.Entry.{Reply}
use Rattle.entry_runs.specs.Promise.{AsThen}
use Rattle.entry_runs.specs.Saying.{Spoken, Voiced}
use Rattle.entry_runs.specs.declared.class.Class.{Class}
use Rattle.entry_runs.specs.declared.stop.Stop.{Stop}
use Rattle.mail_cli.proofs.Wrongs.{some_from}
use Rattle.mail_cli.specs.Run.{FilesStay, NameNoFile}
use Rattle.mail_cli.specs.Step.{any_uses_shelf, uses_shelf}

-- ---- files
pub nothing_done : (disk : Disk) → FilesStay disk disk
nothing_done disk = record { files = refl; moments = still disk (AsThen disk); now = as_now disk }

pub and_on : {old mid new : Disk} → FilesStay old mid → FilesStay mid new → FilesStay old new
and_on {old} {mid} {new} first second = record {
  files = second.files ∙ first.files;
  moments = joined first.moments (weaker second.moments (λ image then. as_before old mid first.now image then));
  now = λ image left. as_before old mid first.now image (second.now image left);
}

-- a text was said
pub said_only : {T E : Type 0} {text : List ℕ} {old new : Disk} {result : Result T E} → Voiced text old new result → FilesStay old new
said_only voiced = record {
  files = voiced.files;
  moments = weaker voiced.moments (λ image says. says.files);
  now = λ image left. (voiced.now image left).files;
}

-- what a command answers was said, or nothing
pub spoken_only : {Host : Type 0} (disk : Host → Disk) {old new : Host} (answer : Result Reply Stop) (result : Result Class Stop) → Spoken disk answer old new result → FilesStay (disk old) (disk new)
spoken_only disk (Ok reply) result spoken = said_only spoken.1
spoken_only disk {old} (Err stop) result spoken = subst (λ host. FilesStay (disk old) (disk host)) (sym spoken.0) (nothing_done (disk old))

-- ---- entries
off_or_on : (b : Bool) → (b ≡ true → b ≡ false) → b ≡ false
off_or_on true on = on refl
off_or_on false on = refl

-- where none of the entries has a property, the one that a run is at has it neither
pub none_at : (p : Entry → Bool) (entries back : List Entry) (entry : Entry) (i : ℕ) → drop i entries ≡ entry ∷ back → list_any p entries ≡ false → p entry ≡ false
none_at p entries back entry i is none = off_or_on (p entry) (λ on. absurd (true≢false (sym (some_from p entries back entry i is on) ∙ none)))

one_alone : (b : Bool) → b ≡ false → (b || false) ≡ false
one_alone true is = is
one_alone false is = refl

-- words that name no file of the shelf are no batch, and entries of which none does
pub names_no_batch : (words : List (List ℕ)) → NameNoFile words → (file : List ℕ) → ¬ CommandReads words (command.Batch file)
names_no_batch words none file reads = true≢false (none (command.Batch file) reads)

pub none_uses_shelf : (words : List (List ℕ)) (entries : List Entry) → NameNoFile words → AreEntries words entries → any_uses_shelf entries ≡ false
none_uses_shelf words entries none (read, inl (c, reads, single, is)) = ap any_uses_shelf is ∙ one_alone (uses_shelf c) (none c reads)
none_uses_shelf words entries none (read, inr (inl (file, reads, lines))) = absurd (names_no_batch words none file reads)
none_uses_shelf words entries none (read, inr (inr (never, is))) = ap any_uses_shelf is

-- their entries are read so from every shelf
pub read_anywhere : (words : List (List ℕ)) (entries : List Entry) → NameNoFile words → AreEntries words entries → (shelf : ShelfFiles) → EntriesRead words shelf entries
read_anywhere words entries none (read, inl one) shelf = inl one
read_anywhere words entries none (read, inr (inl (file, reads, lines))) shelf = absurd (names_no_batch words none file reads)
read_anywhere words entries none (read, inr (inr never)) shelf = inr (inr never)
