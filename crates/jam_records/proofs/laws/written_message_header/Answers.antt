use Rattle.jam_records.proofs.HeaderLemmas.{header_stands}
use Rattle.jam_records.proofs.laws.written_message_header.Goals as goal

pub returns : goal.returns
returns c = header_stands
