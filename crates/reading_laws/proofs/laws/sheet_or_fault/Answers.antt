use Rattle.reading_laws.proofs.Sheets.{sheet_or_fault}
use Rattle.reading_laws.proofs.laws.sheet_or_fault.Goals as goal

pub returns : goal.returns
returns c = sheet_or_fault
