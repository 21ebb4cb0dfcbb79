use Rattle.std.proofs.Common.{length}
use Rattle.cmd_words.proofs.JoinedWords.{NumbersSoFar}
use Rattle.cmd_words.proofs.number.numbers_of.Given as goal

-- the words so far are numbers
abbrev pub invariant-loop-word : goal.invariant-loop-word
invariant-loop-word l = NumbersSoFar l.fn.text l.rest l.numbers

-- the rest gets shorter
abbrev pub decreases-loop-word : goal.decreases-loop-word
decreases-loop-word l = length l.rest
