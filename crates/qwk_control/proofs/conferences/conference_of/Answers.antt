use Rattle.std.proofs.Common.{◌+◌, ◌*◌, sym, subst}
use Rattle.std.proofs.lemmas.Result.{err_from_is_err_and}
use Rattle.std.specs.Str.Lines.{lines}
use Rattle.qwk_control.specs.Fault.{FaultBehind}
use Rattle.qwk_control.proofs.Kept.{no_first, bad_first, no_name}
use Rattle.qwk_control.proofs.conferences.conference_of.Goals as goal

pub returns-in_err-first : goal.returns-in_err-first
returns-in_err-first c =
    let p = err_from_is_err_and c.from_residual.result c.from_residual.ensures.1 in
    rw (p.1, p.2) (subst (FaultBehind (11 + 2 * c.args.place) (lines c.args.text.now) (13 + 2 * c.args.place)) (sym c.in_err-first.ensures.0) (no_first c.args.place (lines c.args.text.now) c.in_err-first.ensures.1))

pub returns-in_default : goal.returns-in_default
returns-in_default c = bad_first c.args.place c.in_ok-first.first.now (lines c.args.text.now) (lines c.in_ok-first.after.now) c.in_ok-first.ensures c.in_default.ensures

pub returns-in_err-name : goal.returns-in_err-name
returns-in_err-name c =
    let p = err_from_is_err_and c.from_residual-in_err-name.result c.from_residual-in_err-name.ensures.1 in
    rw (p.1, p.2) (subst (FaultBehind (11 + 2 * c.args.place) (lines c.args.text.now) (13 + 2 * c.args.place)) (sym c.in_err-name.ensures.0)
    (no_name c.args.place c.in-Some.number c.in_ok-first.first.now (lines c.args.text.now) (lines c.in_ok-first.after.now) c.in_ok-first.ensures c.in-Some.ensures c.in_err-name.ensures.1))
