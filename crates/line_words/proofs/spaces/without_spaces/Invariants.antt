use Rattle.std.proofs.Common.{length}
use Rattle.line_words.proofs.LineLaws.{Taken}
use Rattle.line_words.proofs.spaces.without_spaces.Given as goal

-- spaces were taken
abbrev pub invariant-loop-rest : goal.invariant-loop-rest
invariant-loop-rest l = Taken l.fn.line l.rest

-- the rest gets shorter
abbrev pub decreases-loop-rest : goal.decreases-loop-rest
decreases-loop-rest l = length l.rest
