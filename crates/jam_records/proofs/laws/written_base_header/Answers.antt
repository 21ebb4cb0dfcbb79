use Rattle.jam_records.proofs.HeaderLemmas.{base_stands}
use Rattle.jam_records.proofs.laws.written_base_header.Goals as goal

pub returns : goal.returns
returns c = base_stands
