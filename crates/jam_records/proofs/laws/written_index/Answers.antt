use Rattle.jam_records.proofs.HeaderLemmas.{index_stands}
use Rattle.jam_records.proofs.laws.written_index.Goals as goal

pub returns : goal.returns
returns c = index_stands
