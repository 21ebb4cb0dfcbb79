use Rattle.std.specs.Str.Lines.{lines}
use Rattle.qwk_control.proofs.Single.{only_ok, only_fault}
use Rattle.qwk_control.proofs.read.read_control.Goals as goal

pub returns-clause-only_ok : goal.returns-clause-only_ok
returns-clause-only_ok c = only_ok (lines c.args.bytes.now) c.control_in.result c.control_in.ensures

pub returns-clause-only_fault : goal.returns-clause-only_fault
returns-clause-only_fault c = only_fault (lines c.args.bytes.now) c.control_in.result c.control_in.ensures
