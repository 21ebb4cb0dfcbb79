use Rattle.std.specs.Str.Lines.{lines}
use Rattle.import_sheet.proofs.Single.{sheets_once}
use Rattle.import_sheet.proofs.laws.one_reading.Goals as goal

pub returns : goal.returns
returns c = λ bytes. sheets_once (lines bytes)
