use Rattle.std.proofs.Common.{length}
use Rattle.std.specs.Prelude.{All}
use Rattle.std.specs.Str.Lines.{lines}
use Rattle.text_fields.specs.Numbered.{IsNumbered}
use Rattle.cmd_entries.proofs.Batches.{SoFar}
use Rattle.cmd_entries.specs.Entries.{EntryCanRun}
use Rattle.cmd_entries.proofs.batch.entries_in.Given as goal

abbrev pub invariant-loop-line : goal.invariant-loop-line
invariant-loop-line l = record {
  reads : SoFar (lines l.text) l.number (lines l.rest) l.entries;
  can_run : All EntryCanRun l.entries;
  numbered : IsNumbered (lines l.rest) l.number;
}

abbrev pub decreases-loop-line : goal.decreases-loop-line
decreases-loop-line l = length (lines l.rest)
