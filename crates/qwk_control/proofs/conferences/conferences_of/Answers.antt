use Rattle.std.proofs.Common.{◌+◌, ◌*◌, List, ℕ, [], ◌∷◌, ◌++◌, length, sym, ap, ◌∙◌, subst, inr, arith}
use Rattle.std.proofs.lemmas.List.{length_push}
use Rattle.std.proofs.lemmas.Result.{err_from_is_err_and}
use Rattle.std.specs.Str.Lines.{lines}
use Rattle.qwk_control.specs.Control.{ListedRead}
use Rattle.qwk_control.proofs.Kept.{conference_more, conference_push, within_more}
use Rattle.qwk_control.proofs.conferences.conferences_of.Goals as goal

pub returns-in_err-number : goal.returns-in_err-number
returns-in_err-number c =
    let p = err_from_is_err_and c.from_residual.result c.from_residual.ensures.1 in
    rw (p.1, p.2) (inr (λ all h. within_more all (13 + 2 * c.loop-i.i) (13 + 2 * c.args.last) c.in_err-number.field-0.0 (omega arith) (c.in_err-number.ensures all (c.loop-i.invariant.reached all h))))

pub loop-i-preserved : goal.loop-i-preserved
loop-i-preserved c =
    let p = c.in_ok-number.ensures in
    let e = c.in_ok-add.ensures.ok ∙ ap (λ (name : List ℕ). c.loop-i.listed ++ (c.in_ok-number.number, name) ∷ []) c.in_ok-from_slice.ensures in
    record {
      count = omega (arith, ap length e, length_push c.loop-i.listed (c.in_ok-number.number, c.in_ok-number.name.now), c.loop-i.invariant.count);
      read = subst (λ listed. ListedRead (lines c.args.text.now) listed (lines c.in_ok-number.after.now)) (sym e)
          (conference_push (lines c.args.text.now) c.loop-i.listed p.0 c.in_ok-number.name.now (lines c.in_ok-number.after.now) c.in_ok-number.number (subst (ListedRead (lines c.args.text.now) c.loop-i.listed) p.1 c.loop-i.invariant.read) p.2);
      reached = λ all h. conference_more all c.loop-i.i c.in_ok-number.number p.0 c.in_ok-number.name.now (lines c.loop-i.rest.now) (lines c.in_ok-number.after.now) (c.loop-i.invariant.reached all h) p.1 p.2;
    }
