use Rattle.std.proofs.Common.{◌≡◌, ℕ, List, [], ◌++◌, sym, subst}
use Rattle.std.proofs.lemmas.List.Elements.{All-nil}
use Rattle.std.proofs.lemmas.Result.{err_from_is_err_and}
use Rattle.std.specs.Str.Lines.{lines}
use Rattle.import_sheet.specs.Sheet.{SheetsAre}
use Rattle.import_sheet.specs.Fault.{SheetLinesFault}
use Rattle.import_sheet.specs.State.{FaultAt}
use Rattle.text_fields.proofs.Numbered.{none_taken, more_taken, left_numbered, lines_numbered}
use Rattle.import_sheet.proofs.Reading.{weaker_fault, sheets_push, sheets_blanks, file_fault}
use Rattle.import_sheet.proofs.read.sheets_in.Goals as goal

pub loop-start-init : goal.loop-start-init
loop-start-init c = record {
  before = [];
  read = subst (SheetsAre []) (sym c.new-sheets.ensures) (All-nil (λ (line : List ℕ). line ≡ []));
  ahead = none_taken (lines c.args.bytes.now) 1;
  numbered = lines_numbered c.args.bytes.now c.requires;
}

pub loop-start-preserved : goal.loop-start-preserved
loop-start-preserved c =
    let h = c.loop-start.invariant in
    let all = lines c.args.bytes.now in
    let here = c.loop-start.here in
    let start = c.in-Some.start in
    let rest = c.in_ok-sheet.rest in
    let e = c.in-Some.ensures in
    let t = c.in_ok-sheet.ensures in
    let own = more_taken (lines here.text.now) (lines start.text.now) (lines rest.text.now) e.0 t.0 here.line start.line rest.line e.2 t.2 in
    record {
      before = h.before ++ (e.0 ++ t.0);
      read = subst (SheetsAre (h.before ++ (e.0 ++ t.0))) (sym c.in_ok-add.ensures.ok) (sheets_push h.before e.0 t.0 c.loop-start.sheets c.in_ok-sheet.sheet h.read e.1 t.1);
      ahead = more_taken all (lines here.text.now) (lines rest.text.now) h.before (e.0 ++ t.0) 1 here.line rest.line h.ahead own;
      numbered = left_numbered (lines here.text.now) (lines rest.text.now) (e.0 ++ t.0) here.line rest.line h.numbered own;
    }

pub returns-in_err-sheet : goal.returns-in_err-sheet
returns-in_err-sheet c =
    let p = err_from_is_err_and c.from_residual.result c.from_residual.ensures.1 in
    let h = c.loop-start.invariant in
    let all = lines c.args.bytes.now in
    let here = c.loop-start.here in
    let start = c.in-Some.start in
    let e = c.in-Some.ensures in
    rw (p.1, p.2)
    (weaker_fault (FaultAt (lines start.text.now) start.line) (SheetLinesFault all)
    (λ n rule. file_fault all (lines here.text.now) (lines start.text.now) h.before e.0 c.loop-start.sheets here.line start.line n rule h.read h.ahead e.1 e.2)
    c.in_err-sheet.field-0.0 c.in_err-sheet.ensures)

pub returns : goal.returns
returns c =
    let h = c.loop-start.invariant in
    let left = lines c.loop-start.here.text.now in
    subst (λ (all : List (List ℕ)). SheetsAre all c.loop-start.sheets) (sym h.ahead.whole) (sheets_blanks h.before left c.loop-start.sheets h.read c.in_default.ensures)
