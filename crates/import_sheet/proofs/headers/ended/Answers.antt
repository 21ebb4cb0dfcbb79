use Rattle.std.proofs.Common.{◌≡◌, ◌⊎◌, refl, sym, ◌∙◌, subst}
use Rattle.std.proofs.lemmas.Bool.{false≢true}
use Rattle.import_sheet.specs.Sheet.{HasNone}
use Rattle.import_sheet.specs.State.{SheetFaultOrMemory}
use Rattle.import_sheet.specs.declared.fault.SheetRule.TheVariants.{Missing}
use Rattle.import_sheet.specs.declared.field.Field.TheVariants.{From, To}
use Rattle.import_sheet.proofs.Given.{one_missing}
use Rattle.import_sheet.proofs.headers.ended.Goals as goal

pub returns-then-not-is_whole-clause-whole : goal.returns-then-not-is_whole-clause-whole
returns-then-not-is_whole-clause-whole c = λ headers h holds.
    subst (SheetFaultOrMemory (λ at broken. (at ≡ c.args.here.line) × (broken ≡ Missing) × (HasNone headers From ⊎ HasNone headers To))) (sym c.breaks.ensures)
    (refl, refl, one_missing headers c.args.found holds (λ both. false≢true (sym c.if-not-is_whole.true ∙ (c.is_whole.ensures headers holds).1 both)))
