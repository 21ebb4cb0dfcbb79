use Rattle.import_sheet.proofs.Given.{fields_are}
use Rattle.import_sheet.proofs.found.Found.sheet.Goals as goal

pub returns-clause-fields : goal.returns-clause-fields
returns-clause-fields c = λ headers whole holds.
    fields_are headers c.args.self _ whole holds
    (record {
      from = c.in_ok-text.ensures;
      to = c.in_ok-text-2.ensures;
      subject = c.in_ok-text-3.ensures;
      msgid = c.in_ok-text-4.ensures;
      reply = c.in_ok-text-5.ensures;
    })
    (c.date.ensures headers whole.headed holds) (c.private.ensures headers whole.headed holds)
