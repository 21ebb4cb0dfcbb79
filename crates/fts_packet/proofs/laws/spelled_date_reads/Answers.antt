-- moment_of_date reads what FTS-0001 spells, and nothing else.
use Rattle.fts_packet.proofs.DateSpelling.{date_reads, date_spells}
use Rattle.fts_packet.proofs.laws.spelled_date_reads.Goals as goal

pub returns : goal.returns
returns c = λ date seconds long. (date_spells date seconds long, date_reads date seconds)
