use Rattle.std.proofs.Common.{length}
use Rattle.line_words.proofs.LineLaws.{SoFar}
use Rattle.line_words.proofs.words.words_of.Given as goal

-- the words so far
abbrev pub invariant-loop-rest : goal.invariant-loop-rest
invariant-loop-rest l = SoFar l.fn.line l.rest l.words

-- the rest gets shorter
abbrev pub decreases-loop-rest : goal.decreases-loop-rest
decreases-loop-rest l = length l.rest
