use Rattle.std.proofs.Common.{length}
use Rattle.setup_file.specs.Words.{words}
use Rattle.setup_file.proofs.ZoneWords.{ZonesTaken}
use Rattle.setup_file.proofs.zones_line.zones_in.Given as goal

-- the zones so far are those of the words so far
abbrev pub invariant-loop-word : goal.invariant-loop-word
invariant-loop-word l = ZonesTaken l.value (words l.here) l.zones

abbrev pub decreases-loop-word : goal.decreases-loop-word
decreases-loop-word l = length (words l.here)
