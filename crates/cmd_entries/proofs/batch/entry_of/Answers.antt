use Rattle.std.proofs.Common.{rules, refl}
use Rattle.line_words.specs.Line.{LineReads}
use Rattle.cmd_entries.proofs.Batches.{no_inner, no_line}
use Rattle.cmd_entries.proofs.MayRun.{command_runs}
use Rattle.cmd_entries.specs.Words.{CommandReads, IsBatch, IsNoCommand}
use Rattle.cmd_entries.specs.declared.command.Command.TheVariants as command
use Rattle.cmd_entries.proofs.batch.entry_of.Goals as goal

pub returns-in-Some-Batch-clause-reads : goal.returns-in-Some-Batch-clause-reads
returns-in-Some-Batch-clause-reads c =
    let are : LineReads c.args.line.now c.in-Some.words = search rules in
    let reads : CommandReads c.in-Some.words (command.Batch c.in-Some-Batch.field-0-0) = search rules in
    (no_inner c.args.line.now c.in-Some.words (command.Batch c.in-Some-Batch.field-0-0) are reads (c.in-Some-Batch.field-0-0, refl), refl)

pub returns-clause-reads : goal.returns-clause-reads
returns-clause-reads c =
    let are : LineReads c.args.line.now c.in-Some.words = search rules in
    let none : IsNoCommand c.in-Some.words = search rules in
    (no_line c.args.line.now c.in-Some.words are none, refl)

pub returns-in-Some-2 : goal.returns-in-Some-2
returns-in-Some-2 c =
    let are : LineReads c.args.line.now c.in-Some.words = search rules in
    let reads : CommandReads c.in-Some.words c.in-Some-2.command = search rules in
    let single : ¬ IsBatch c.in-Some-2.command = search rules in
    record {
      reads = record { words = c.in-Some.words; are_words = are; are_command = reads; no_batch = single };
      can_run = command_runs c.in-Some.words c.in-Some-2.command reads single;
    }
