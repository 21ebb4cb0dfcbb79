use Rattle.std.proofs.lemmas.Bool.{false≢true}
use Rattle.text_fields.proofs.Splits.{not_split}
use Rattle.import_sheet.proofs.body.has_no_return.Goals as goal

pub returns-in-Some : goal.returns-in-Some
returns-in-Some c =
    ((λ e. absurd (false≢true e)), (λ lacks. absurd (not_split 13 c.args.line.now c.in-Some.field-0.0.now c.in-Some.field-0.1.now lacks c.in-Some.ensures.whole)))
