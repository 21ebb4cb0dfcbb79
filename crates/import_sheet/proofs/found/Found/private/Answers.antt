use Rattle.std.proofs.Common.{subst}
use Rattle.std.proofs.lemmas.Bool.{false≢true}
use Rattle.import_sheet.specs.declared.field.Field.TheVariants.{Private}
use Rattle.import_sheet.proofs.Given.{HoldsOf, yes_given, no_yes}
use Rattle.import_sheet.proofs.found.Found.private.Goals as goal

pub returns-in-Some : goal.returns-in-Some
returns-in-Some c = λ headers h holds. yes_given headers c.in-Some.value.now c.says_yes.result h (subst (HoldsOf headers Private) c.in-Some.is (holds Private)) c.says_yes.ensures.0 c.says_yes.ensures.1

pub returns-in-None : goal.returns-in-None
returns-in-None c = λ headers h holds. (λ t. absurd (false≢true t), λ g. absurd (no_yes headers (subst (HoldsOf headers Private) c.in-None.is (holds Private)) g))
