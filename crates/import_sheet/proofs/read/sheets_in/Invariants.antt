use Rattle.std.proofs.Common.{ℕ, List, length}
use Rattle.std.specs.Str.Lines.{lines}
use Rattle.import_sheet.specs.Sheet.{SheetsAre}
use Rattle.import_sheet.specs.State.{IsNumbered, Ahead}
use Rattle.import_sheet.proofs.read.sheets_in.Given as goal

-- the lines so far are those of the messages
abbrev pub invariant-loop-start : goal.invariant-loop-start
invariant-loop-start l = record {
  before : List (List ℕ);
  read : SheetsAre before l.sheets;
  ahead : Ahead (lines l.bytes) 1 (lines l.here.text.now) l.here.line before;
  numbered : IsNumbered (lines l.here.text.now) l.here.line;
}

abbrev pub decreases-loop-start : goal.decreases-loop-start
decreases-loop-start l = length (lines l.here.text.now)
