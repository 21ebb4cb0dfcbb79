use Rattle.std.proofs.Common.{length}
use Rattle.text_fields.specs.Blank.{IsBlank}
use Rattle.text_fields.proofs.Trimming.{CutBoth}
use Rattle.text_fields.proofs.trim.trimmed.Given as goal

abbrev pub invariant-loop-text : goal.invariant-loop-text
invariant-loop-text l = CutBoth (IsBlank l.blank) l.field l.text

abbrev pub decreases-loop-text : goal.decreases-loop-text
decreases-loop-text l = length l.text
