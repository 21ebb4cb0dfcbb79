use Rattle.std.proofs.Common.{rules, ◌≡◌, inl, inr, refl, ◌∷◌, []}
use Rattle.std.specs.Prelude.{Err}
use Rattle.shelf_files.specs.declared.refusal.Refusal.TheVariants.{NoFile}
use Rattle.cmd_entries.proofs.Entering.{batch_entries, command_entries, one_runs}
use Rattle.cmd_entries.proofs.MayRun.{command_runs}
use Rattle.cmd_entries.proofs.OneCommand.{never_both}
use Rattle.cmd_entries.specs.Words.{CommandReads, IsBatch, IsNoCommand}
use Rattle.cmd_entries.specs.declared.command.Command.TheVariants as command
use Rattle.cmd_entries.specs.declared.entry.Entry.TheVariants.{Run}
use Rattle.cmd_entries.proofs.entries.entries_of.Goals as goal

pub returns-in-Some-Batch-clause-some : goal.returns-in-Some-Batch-clause-some
returns-in-Some-Batch-clause-some g c =
    let reads : CommandReads c.args.words.now (command.Batch c.in-Some-Batch.file) = search rules in
    batch_entries c.args.words.now c.in-Some-Batch.file c.entries_of_batch.result reads c.entries_of_batch.ensures.some

pub returns-in-Some-Batch-clause-no_command : goal.returns-in-Some-Batch-clause-no_command
returns-in-Some-Batch-clause-no_command g c none =
    let reads : CommandReads c.args.words.now (command.Batch c.in-Some-Batch.file) = search rules in
    absurd (never_both c.args.words.now (command.Batch c.in-Some-Batch.file) reads none)

pub returns-in-Some-Batch-clause-no_batch : goal.returns-in-Some-Batch-clause-no_batch
returns-in-Some-Batch-clause-no_batch g c none =
    let reads : CommandReads c.args.words.now (command.Batch c.in-Some-Batch.file) = search rules in
    absurd (none c.in-Some-Batch.file reads)

pub returns-in_ok-only-in-Some : goal.returns-in_ok-only-in-Some
returns-in_ok-only-in-Some g c =
    let words = c.args.words.now in
    let reads : CommandReads words c.in-Some.command = search rules in
    let single : ¬ IsBatch c.in-Some.command = search rules in
    let is : c.in_ok-only-in-Some.field-0 ≡ Run c.in-Some.command ∷ [] = c.in_ok-only-in-Some.ensures in
    record {
      reads = λ tells. inl (c.in-Some.command, reads, single, is);
      some = command_entries words c.in-Some.command c.in_ok-only-in-Some.field-0 reads single is;
      can_run = one_runs (Run c.in-Some.command) c.in_ok-only-in-Some.field-0 is (command_runs words c.in-Some.command reads single);
      unchanged = search rules;
      causes = search rules;
      no_command = search rules;
      no_batch = λ none. refl;
    }

pub returns-in_ok-only-in-None-clause-some : goal.returns-in_ok-only-in-None-clause-some
returns-in_ok-only-in-None-clause-some g c =
    let none : IsNoCommand c.args.words.now = search rules in
    ((λ file. Err (NoFile file)), inr (inr (none, c.in_ok-only-in-None.ensures)))
