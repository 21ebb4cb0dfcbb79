use Rattle.std.specs.Str.Lines.{lines}
use Rattle.import_sheet.proofs.Single.{only_ok, is_fault, only_fault}
use Rattle.import_sheet.proofs.read.read_sheet.Goals as goal

pub returns-clause-only_ok : goal.returns-clause-only_ok
returns-clause-only_ok c = only_ok (lines c.args.bytes.now) c.sheets_in.result c.sheets_in.ensures

pub returns-clause-fault : goal.returns-clause-fault
returns-clause-fault c = is_fault (lines c.args.bytes.now) c.sheets_in.result c.sheets_in.ensures

pub returns-clause-only_fault : goal.returns-clause-only_fault
returns-clause-only_fault c = only_fault (lines c.args.bytes.now) c.sheets_in.result c.sheets_in.ensures
