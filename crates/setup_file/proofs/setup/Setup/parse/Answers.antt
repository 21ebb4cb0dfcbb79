use Rattle.std.specs.Str.Lines.{lines}
use Rattle.setup_file.proofs.Single.{only_ok, is_fault, only_fault}
use Rattle.setup_file.proofs.setup.Setup.parse.Goals as goal

pub returns-clause-only_ok : goal.returns-clause-only_ok
returns-clause-only_ok c = only_ok (lines c.args.bytes.now) c.setup_in.result c.setup_in.ensures

pub returns-clause-fault : goal.returns-clause-fault
returns-clause-fault c = is_fault (lines c.args.bytes.now) c.setup_in.result c.setup_in.ensures

pub returns-clause-only_fault : goal.returns-clause-only_fault
returns-clause-only_fault c = only_fault (lines c.args.bytes.now) c.setup_in.result c.setup_in.ensures
