use Rattle.std.proofs.Common.{ℕ, List, length}
use Rattle.std.specs.Str.Lines.{lines}
use Rattle.import_sheet.specs.Sheet.{AllEmpty}
use Rattle.import_sheet.specs.State.{IsNumbered, Ahead}
use Rattle.import_sheet.proofs.unread.without_empty_lines.Given as goal

-- the lines so far are empty
abbrev pub invariant-loop-line : goal.invariant-loop-line
invariant-loop-line l = record {
  blanks : List (List ℕ);
  empty : AllEmpty blanks;
  ahead : Ahead (lines l.start.text.now) l.start.line (lines l.here.text.now) l.here.line blanks;
  numbered : IsNumbered (lines l.here.text.now) l.here.line;
}

abbrev pub decreases-loop-line : goal.decreases-loop-line
decreases-loop-line l = length (lines l.here.text.now)
