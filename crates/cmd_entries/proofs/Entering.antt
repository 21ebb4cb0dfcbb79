-- The entries that words are.
use Rattle.std.proofs.Common.{◌≡◌, inl, inr, ℕ, List, [], ◌∷◌, sym, subst}
use Rattle.std.proofs.lemmas.List.Elements.{All-cons, All-nil}
use Rattle.std.specs.Prelude.{Result, Ok, Err, All, IfOk}
use Rattle.shelf_files.specs.declared.refusal.Refusal.TheVariants.{NoFile}
use Rattle.cmd_entries.proofs.OneCommand.{never_both}
use Rattle.cmd_entries.specs.Batch.{AreReadEntries}
use Rattle.cmd_entries.specs.Entries.{AreEntries, BeginsWrong, EntryCanRun}
use Rattle.cmd_entries.specs.Words.{CommandReads, IsBatch, IsNoCommand}
use Rattle.cmd_entries.specs.declared.command.Command.{Command}
use Rattle.cmd_entries.specs.declared.command.Command.TheVariants as command
use Rattle.cmd_entries.specs.declared.entry.Entry.{Entry}
use Rattle.cmd_entries.specs.declared.entry.Entry.TheVariants.{Run, Wrong}
use Rattle.cmd_entries.specs.declared.entry.Usage.TheVariants.{Words}

-- one entry that may be carried out
pub one_runs : (entry : Entry) (entries : List Entry) → entries ≡ entry ∷ [] → EntryCanRun entry → All EntryCanRun entries
one_runs entry entries is runs = subst (All EntryCanRun) (sym is) (All-cons EntryCanRun entry [] runs (All-nil EntryCanRun))

-- words that are no command are that entry
pub begins_wrong : (words : List (List ℕ)) (entries : List Entry) → AreEntries words entries → IsNoCommand words → BeginsWrong entries
begins_wrong words entries (read, inl (c, reads, single, is)) none = absurd (never_both words c reads none)
begins_wrong words entries (read, inr (inl (file, reads, lines))) none = absurd (never_both words (command.Batch file) reads none)
begins_wrong words entries (read, inr (inr (never, is))) none = ([], Wrong Words, tt, is)

-- words that are one command, and those that are a batch
pub command_entries : (words : List (List ℕ)) (c : Command) (entries : List Entry) → CommandReads words c → ¬ IsBatch c → entries ≡ Run c ∷ [] → AreEntries words entries
command_entries words c entries reads single is = ((λ file. Err (NoFile file)), inl (c, reads, single, is))

pub batch_entries : {E : Type 0} (words : List (List ℕ)) (file : List ℕ) (result : Result (List Entry) E) → CommandReads words (command.Batch file) → IfOk result AreReadEntries → IfOk result (AreEntries words)
batch_entries words file (Ok entries) reads some = ((λ name. some.0), inr (inl (file, reads, some.1)))
batch_entries words file (Err e) reads some = tt
