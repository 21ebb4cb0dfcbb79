use Rattle.std.proofs.Common.{◌≡◌, ℕ, List, [], ◌∷◌, ◌++◌, ◌≤◌, ◌<◌, ◌+◌, length, refl, sym, ap, ◌∙◌, subst, arith}
use Rattle.std.proofs.lemmas.Bool.{false≢true}
use Rattle.std.specs.Str.Lines.{lines}
use Rattle.import_sheet.specs.Sheet.{stored_body, without_dot}
use Rattle.import_sheet.specs.Fault.{with_return, too_long}
use Rattle.import_sheet.specs.State.{Ahead, SheetFaultOrMemory, BodyFaultAt}
use Rattle.text_fields.proofs.Numbered.{more_taken, left_numbered}
use Rattle.import_sheet.proofs.Bodies.{body_push, body_text_push, broken_body, over, no_room}
use Rattle.import_sheet.proofs.body.body_of.Goals as goal

pub returns-then-is_dot : goal.returns-then-is_dot
returns-then-is_dot c =
    let h = c.loop-line.invariant in
    let all = lines c.args.start.text.now in
    let here = c.loop-line.here in
    let after = c.in-Some.after in
    let taken = more_taken all (lines here.text.now) (lines after.text.now) h.taken (c.in-Some.line.now ∷ []) c.args.start.line here.line after.line h.ahead c.in-Some.ensures in
    (h.taken, h.bodied, h.text, subst (λ (line : List ℕ). Ahead all c.args.start.line (lines after.text.now) after.line (h.taken ++ line ∷ [])) (c.is_dot.ensures.0 c.if-is_dot.true) taken)

pub returns-then-not-has_no_return : goal.returns-then-not-has_no_return
returns-then-not-has_no_return c =
    let h = c.loop-line.invariant in
    let here = c.loop-line.here in
    subst (SheetFaultOrMemory (BodyFaultAt (lines c.args.start.text.now) c.args.start.line)) (sym c.breaks.ensures)
    (broken_body (lines c.args.start.text.now) (lines here.text.now) h.taken c.args.start.line here.line _ h.ahead h.bodied
    (with_return c.in-Some.line.now refl (lines c.in-Some.after.text.now, c.in-Some.ensures.whole) (λ clear. false≢true (sym c.if-not-has_no_return.true ∙ c.has_no_return.ensures.1 clear))))

pub returns-then-not-has_room : goal.returns-then-not-has_room
returns-then-not-has_room c =
    let h = c.loop-line.invariant in
    let here = c.loop-line.here in
    let line = c.in-Some.line.now in
    let many : 16384 ≤ length (stored_body h.taken) + length (without_dot line) = omega (arith, no_room (length c.loop-line.body + length c.without_dot-text.result.now) c.has_room.result c.if-not-has_room.true c.has_room.ensures.1, ap length h.text, ap length c.without_dot-text.ensures) in
    subst (SheetFaultOrMemory (BodyFaultAt (lines c.args.start.text.now) c.args.start.line)) (sym c.breaks-then-not-has_room.ensures)
    (broken_body (lines c.args.start.text.now) (lines here.text.now) h.taken c.args.start.line here.line _ h.ahead h.bodied
    (too_long line refl (lines c.in-Some.after.text.now, c.in-Some.ensures.whole) (λ e. false≢true (sym c.if-is_dot.false ∙ c.is_dot.ensures.1 e)) (c.has_no_return.ensures.0 c.if-not-has_no_return.false) (over h.taken line many)))

pub loop-line-preserved : goal.loop-line-preserved
loop-line-preserved c =
    let h = c.loop-line.invariant in
    let here = c.loop-line.here in
    let after = c.in-Some.after in
    let line = c.in-Some.line.now in
    let fits : length (stored_body h.taken) + length (without_dot line) < 16384 = omega (arith, c.has_room.ensures.0 c.if-not-has_room.false, ap length h.text, ap length c.without_dot-text.ensures) in
    let text : c.add_body_line.new.body ≡ stored_body (h.taken ++ line ∷ []) =
    c.in_ok-add_body_line.ensures
    ∙ (ap (λ (body : List ℕ). body ++ (c.without_dot-text.result.now ++ 13 ∷ [])) h.text
    ∙ (ap (λ (part : List ℕ). stored_body h.taken ++ (part ++ 13 ∷ [])) c.without_dot-text.ensures ∙ sym (body_text_push h.taken line))) in
    record {
      taken = h.taken ++ line ∷ [];
      bodied = body_push h.taken line h.bodied (λ e. false≢true (sym c.if-is_dot.false ∙ c.is_dot.ensures.1 e)) (c.has_no_return.ensures.0 c.if-not-has_no_return.false) fits;
      text = text;
      ahead = more_taken (lines c.args.start.text.now) (lines here.text.now) (lines after.text.now) h.taken (line ∷ []) c.args.start.line here.line after.line h.ahead c.in-Some.ensures;
      numbered = left_numbered (lines here.text.now) (lines after.text.now) (line ∷ []) here.line after.line h.numbered c.in-Some.ensures;
    }
