use Rattle.jam_adopt.proofs.FilledFields.{filled_reads}
use Rattle.jam_adopt.proofs.laws.subfields_fill.Goals as goal

pub returns : goal.returns
returns c = filled_reads
