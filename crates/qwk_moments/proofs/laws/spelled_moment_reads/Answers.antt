-- moment_of reads what is spelled, and nothing else.
use Rattle.qwk_moments.proofs.Readings.{reading_spells, spelling_reads}
use Rattle.qwk_moments.proofs.laws.spelled_moment_reads.Goals as goal

pub returns : goal.returns
returns c = λ date time seconds. (reading_spells date time seconds, spelling_reads date time seconds)
