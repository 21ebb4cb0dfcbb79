use Rattle.std.proofs.Common.{[], ◌∷◌, ◌++◌}
use Rattle.std.proofs.lemmas.Result.{err_from_is_err_and}
use Rattle.std.specs.Str.Lines.{lines}
use Rattle.import_sheet.specs.State.{FaultAt, BodyFaultAt}
use Rattle.text_fields.proofs.Numbered.{left_numbered}
use Rattle.import_sheet.proofs.Reading.{weaker_fault, body_fault, sheet_taken}
use Rattle.import_sheet.proofs.read.sheet_of.Goals as goal

pub body_of-requires : goal.body_of-requires
body_of-requires c =
    let t = c.in_ok-found.ensures in
    left_numbered (lines c.args.start.text.now) (lines c.in_ok-found.behind.text.now) (t.0 ++ [] ∷ []) c.args.start.line c.in_ok-found.behind.line c.requires.numbered t.3

pub returns-in_err-found : goal.returns-in_err-found
returns-in_err-found c =
    let p = err_from_is_err_and c.from_residual.result c.from_residual.ensures.1 in
    rw (p.1, p.2) c.in_err-found.ensures

pub returns-in_err-body : goal.returns-in_err-body
returns-in_err-body c =
    let p = err_from_is_err_and c.from_residual-in_err-body.result c.from_residual-in_err-body.ensures.1 in
    let all = lines c.args.start.text.now in
    let behind = c.in_ok-found.behind in
    rw (p.1, p.2) (weaker_fault (BodyFaultAt (lines behind.text.now) behind.line) (FaultAt all c.args.start.line) (body_fault all (lines behind.text.now) c.args.start.line behind.line c.in_ok-found.found c.in_ok-found.ensures) c.in_err-body.field-0.0 c.in_err-body.ensures)

pub returns : goal.returns
returns c =
    let behind = c.in_ok-found.behind in
    let rest = c.in_ok-body.rest in
    let t = c.in_ok-found.ensures in
    sheet_taken (lines c.args.start.text.now) (lines behind.text.now) (lines rest.text.now) c.args.start.line behind.line rest.line c.in_ok-found.found c.in_ok-body.body c.in_ok-sheet.field-0 t c.in_ok-body.ensures
    (c.in_ok-sheet.ensures.fields t.0 t.1 t.2) c.in_ok-sheet.ensures.text
