use Rattle.std.proofs.Common.{List, ℕ, ◌++◌, sym, ap, ◌∙◌, subst}
use Rattle.std.proofs.lemmas.Result.{err_from_is_err_and}
use Rattle.std.specs.Str.Lines.{lines}
use Rattle.qwk_control.specs.Fault.{FaultBehind}
use Rattle.qwk_control.specs.declared.fault.ControlError.TheVariants.{BadNumber}
use Rattle.qwk_control.proofs.Kept.{six_texts, packet_ends, no_last}
use Rattle.qwk_control.proofs.head.packet_of.Goals as goal

pub returns-in_err-rest : goal.returns-in_err-rest
returns-in_err-rest c =
    let p = err_from_is_err_and c.from_residual.result c.from_residual.ensures.1 in
    rw (p.1, p.2) (subst (FaultBehind 5 (lines c.args.text.now) 11) (sym c.in_err-rest.ensures.taken.0) (packet_ends (lines c.args.text.now) c.in_err-rest.ensures.taken.1))

pub returns-in_default : goal.returns-in_default
returns-in_default c =
    subst (λ (all : List (List ℕ)). FaultBehind 5 all 11 (BadNumber 11)) (sym (c.in_ok-rest.ensures.taken ∙ ap (λ ls. ls ++ lines c.in_ok-rest.rest.now) (six_texts c.take_lines.new.taken _ c.take_lines.ensures.count)))
    (no_last _ _ _ _ _ _ (lines c.in_ok-rest.rest.now) c.in_default.ensures)

pub returns : goal.returns
returns c = (_, _, _, c.in_ok-rest.ensures.taken ∙ ap (λ ls. ls ++ lines c.in_ok-rest.rest.now) (six_texts c.take_lines.new.taken _ c.take_lines.ensures.count), c.count_of.ensures, c.in-Some.ensures)
