use Rattle.reading_laws.proofs.Controls.{control_or_fault}
use Rattle.reading_laws.proofs.laws.control_or_fault.Goals as goal

pub returns : goal.returns
returns c = control_or_fault
