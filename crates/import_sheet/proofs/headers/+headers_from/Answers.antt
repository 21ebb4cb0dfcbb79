use Rattle.std.proofs.Common.{◌≡◌, ℕ, List, [], ◌∷◌, ◌++◌, sym, subst, arith}
use Rattle.std.proofs.lemmas.Bool.Decides.{nat_tests}
use Rattle.std.proofs.lemmas.Result.{err_from_is_err_and}
use Rattle.std.specs.Str.Lines.{lines}
use Rattle.import_sheet.specs.Fault.{LineBreaks}
use Rattle.import_sheet.specs.State.{Ahead, SheetFaultOrMemory, FaultAt}
use Rattle.text_fields.proofs.Numbered.{more_taken}
use Rattle.import_sheet.proofs.Lines.{no_length}
use Rattle.import_sheet.proofs.Reading.{weaker_fault, end_fault, line_fault, ended_cases}
use Rattle.import_sheet.proofs.headers.+headers_from.Goals as goal

pub returns-in_default : goal.returns-in_default
returns-in_default t c = λ all headers number s h holds ahead.
    subst (SheetFaultOrMemory (FaultAt all number)) (sym c.breaks.ensures) (end_fault all (lines c.args.here.text.now) headers number c.args.here.line s h ahead c.in_default.ensures)

pub returns-then-is_empty : goal.returns-then-is_empty
returns-then-is_empty t c = λ all headers number s h holds ahead.
    let here = c.args.here in
    let after = c.in-Some.after in
    let empty : c.in-Some.line.now ≡ [] = no_length c.in-Some.line.now (grind (arith, nat_tests)) in
    let last = subst (λ (line : List ℕ). Ahead (lines here.text.now) here.line (lines after.text.now) after.line (line ∷ [])) empty c.in-Some.ensures in
    ended_cases all (lines here.text.now) headers number here.line c.args.found after c.ended.result s h holds ahead last c.ended.ensures.same (c.ended.ensures.whole headers h holds)

pub returns-in_err-with_header : goal.returns-in_err-with_header
returns-in_err-with_header t c = λ all headers number s h holds ahead.
    let p = err_from_is_err_and c.from_residual.result c.from_residual.ensures.1 in
    let here = c.args.here in
    let line = c.in-Some.line.now in
    rw (p.1, p.2)
    (weaker_fault (λ at broken. (at ≡ here.line) × LineBreaks headers line broken) (FaultAt all number) (λ n rule f. line_fault all (lines here.text.now) (lines c.in-Some.after.text.now) headers line number here.line n rule h ahead c.in-Some.ensures.whole f)
    c.in_err-with_header.field-0.0 (c.in_err-with_header.ensures headers h holds))

pub returns : goal.returns
returns t c = λ all headers number s h holds ahead.
    let here = c.args.here in
    let after = c.in-Some.after in
    let line = c.in-Some.line.now in
    let p = c.in_ok-with_header.ensures headers h holds in
    c.headers_from.ensures all (headers ++ line ∷ []) number s p.0 p.1 (more_taken all (lines here.text.now) (lines after.text.now) headers (line ∷ []) number here.line after.line ahead c.in-Some.ensures)
