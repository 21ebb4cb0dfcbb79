use Rattle.std.proofs.Common.{◌≡◌, length}
use Rattle.setup_file.specs.Words.{words}
use Rattle.setup_file.proofs.word.next_word.Given as goal

-- what was passed has no words
abbrev pub invariant-loop-word : goal.invariant-loop-word
invariant-loop-word l = words l.text ≡ words l.here

abbrev pub decreases-loop-word : goal.decreases-loop-word
decreases-loop-word l = length l.here
