use Rattle.std.proofs.Common.{subst}
use Rattle.import_sheet.specs.declared.field.Field.TheVariants.{Date}
use Rattle.import_sheet.proofs.Given.{HoldsOf, date_given}
use Rattle.import_sheet.proofs.found.Found.date.Goals as goal

pub returns-in-Some : goal.returns-in-Some
returns-in-Some c = λ headers h holds. date_given headers c.in-Some.value.now c.date_of.result h (subst (HoldsOf headers Date) c.in-Some.is (holds Date)) c.date_of.ensures

pub returns-in-None : goal.returns-in-None
returns-in-None c = λ headers h holds. subst (HoldsOf headers Date) c.in-None.is (holds Date)
