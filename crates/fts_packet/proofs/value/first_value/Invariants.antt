use Rattle.std.proofs.Common.{◌≡◌, length}
use Rattle.fts_packet.specs.Lines.{first_value}
use Rattle.fts_packet.proofs.value.first_value.Given as goal

-- the lines so far don't begin with the key
abbrev pub invariant-loop-rest : goal.invariant-loop-rest
invariant-loop-rest l = first_value l.key l.rest ≡ first_value l.key l.lines

abbrev pub decreases-loop-rest : goal.decreases-loop-rest
decreases-loop-rest l = length l.rest
