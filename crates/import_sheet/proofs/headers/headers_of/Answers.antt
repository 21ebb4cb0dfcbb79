use Rattle.std.proofs.Common.{[]}
use Rattle.std.specs.Str.Lines.{lines}
use Rattle.text_fields.proofs.Numbered.{none_taken}
use Rattle.import_sheet.proofs.headers.headers_of.Goals as goal

pub returns : goal.returns
returns c = c.headers_from.ensures (lines c.args.start.text.now) [] c.args.start.line c.requires.begun tt c.none.ensures (none_taken (lines c.args.start.text.now) c.args.start.line)
