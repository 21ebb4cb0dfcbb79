-- A written moment spells its minute.
use Rattle.qwk_moments.proofs.Readings.{spelling_reads, written_spells}
use Rattle.qwk_moments.proofs.laws.written_moment_reads.Goals as goal

pub returns : goal.returns
returns c = λ seconds h. spelling_reads _ _ _ (written_spells seconds h)
