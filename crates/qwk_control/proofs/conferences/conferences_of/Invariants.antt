use Rattle.std.proofs.Common.{◌≡◌, ◌+◌, ◌*◌, ℕ, List, length}
use Rattle.std.specs.Str.Lines.{lines}
use Rattle.qwk_control.specs.Control.{ListedRead}
use Rattle.qwk_control.specs.Fault.{KeptBefore}
use Rattle.qwk_control.proofs.conferences.conferences_of.Given as goal

abbrev pub invariant-loop-i : goal.invariant-loop-i
invariant-loop-i l = record {
  count : length l.listed ≡ l.i;
  read : ListedRead (lines l.text) l.listed (lines l.rest);
  reached : (all : List (List ℕ)) → KeptBefore all 11 (lines l.text) → KeptBefore all (11 + 2 * l.i) (lines l.rest);
}
