use Rattle.std.proofs.Common.{length}
use Rattle.std.specs.Str.Lines.{lines}
use Rattle.import_sheet.proofs.headers.+headers_from.Given as goal

abbrev pub decreases-headers_from : goal.decreases-headers_from
decreases-headers_from l = length (lines l.here.text.now)
