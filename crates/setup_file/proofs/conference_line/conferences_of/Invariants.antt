use Rattle.std.proofs.Common.{◌≡◌, ℕ, List, ◌++◌, length}
use Rattle.std.specs.Str.Lines.{lines}
use Rattle.setup_file.specs.Rules.{number_before}
use Rattle.setup_file.specs.State.{IsNumbered, StartsCounted, Kept, conferences_of_lines}
use Rattle.setup_file.proofs.conference_line.conferences_of.Given as goal

-- the conferences so far are those of the lines so far, which were kept
abbrev pub invariant-loop-line : goal.invariant-loop-line
invariant-loop-line l = record {
  numbered : IsNumbered (lines l.here.text.now) l.here.line;
  starts : StartsCounted (lines l.here.text.now);
  own : List (List ℕ);
  are : l.conferences ≡ conferences_of_lines own;
  last : (kept : List (List ℕ)) → length kept ≡ 7 → l.last ≡ number_before (kept ++ own);
  kept : (all kept : List (List ℕ)) → length kept ≡ 7 → Kept all (lines l.start.text.now) l.start.line kept → Kept all (lines l.here.text.now) l.here.line (kept ++ own);
}

abbrev pub decreases-loop-line : goal.decreases-loop-line
decreases-loop-line l = length (lines l.here.text.now)
