use Rattle.std.proofs.Common.{◌≡◌, ℕ, List, length}
use Rattle.std.specs.Str.Lines.{lines}
use Rattle.import_sheet.specs.Sheet.{BodyLines, stored_body}
use Rattle.import_sheet.specs.State.{IsNumbered, Ahead}
use Rattle.import_sheet.proofs.body.body_of.Given as goal

-- the lines so far are body lines, and the body is their text
abbrev pub invariant-loop-line : goal.invariant-loop-line
invariant-loop-line l = record {
  taken : List (List ℕ);
  bodied : BodyLines taken;
  text : l.body ≡ stored_body taken;
  ahead : Ahead (lines l.start.text.now) l.start.line (lines l.here.text.now) l.here.line taken;
  numbered : IsNumbered (lines l.here.text.now) l.here.line;
}

abbrev pub decreases-loop-line : goal.decreases-loop-line
decreases-loop-line l = length (lines l.here.text.now)
