use Rattle.jam_records.proofs.HeaderLemmas.{last_stands}
use Rattle.jam_records.proofs.laws.written_last.Goals as goal

pub returns : goal.returns
returns c = last_stands
