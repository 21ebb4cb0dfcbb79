use Rattle.std.proofs.Common.{◌≡◌, refl, sym, subst}
use Rattle.import_sheet.specs.Fault.{LineBreaks}
use Rattle.import_sheet.specs.State.{SheetFaultOrMemory}
use Rattle.import_sheet.proofs.headers.with_header.Goals as goal

pub returns-in-Err : goal.returns-in-Err
returns-in-Err c = λ headers h holds.
    subst (SheetFaultOrMemory (λ at broken. (at ≡ c.args.here.line) × LineBreaks headers c.args.line.now broken)) (sym c.breaks.ensures) (refl, c.in-Err.ensures headers h holds)
