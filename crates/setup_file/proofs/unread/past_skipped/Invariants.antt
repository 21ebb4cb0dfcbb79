use Rattle.std.proofs.Common.{ℕ, List, length}
use Rattle.std.specs.Str.Lines.{lines}
use Rattle.setup_file.specs.State.{IsNumbered, Ahead, AllSkipped}
use Rattle.setup_file.proofs.unread.past_skipped.Given as goal

-- the lines so far are skipped
abbrev pub invariant-loop-line : goal.invariant-loop-line
invariant-loop-line l = record {
  skipped : List (List ℕ);
  each : AllSkipped skipped;
  ahead : Ahead (lines l.start.text.now) l.start.line (lines l.here.text.now) l.here.line skipped;
  numbered : IsNumbered (lines l.here.text.now) l.here.line;
}

abbrev pub decreases-loop-line : goal.decreases-loop-line
decreases-loop-line l = length (lines l.here.text.now)
