use Rattle.std.proofs.Common.{◌+◌, ◌-◌, ◌≤◌, length}
use Rattle.memory_outside.specs.Contents.{SameContents}
use Rattle.memory_outside.proofs.contents.Contents.reach.Given as goal

abbrev pub invariant-loop-file : goal.invariant-loop-file
invariant-loop-file l = record {
  few : length l.self-inside.files.items ≤ 258;
  same : SameContents l.initial.self-inside.files.items l.self-inside.files.items;
}

abbrev pub decreases-loop-file : goal.decreases-loop-file
decreases-loop-file l = (l.file + 1) - length l.self-inside.files.items
