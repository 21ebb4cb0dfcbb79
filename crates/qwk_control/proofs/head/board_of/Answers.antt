use Rattle.std.proofs.Common.{List, ℕ, ◌++◌, sym, ap, ◌∙◌, subst}
use Rattle.std.proofs.lemmas.Result.{err_from_is_err_and}
use Rattle.std.specs.Str.Lines.{lines}
use Rattle.qwk_control.specs.Fault.{FaultBehind}
use Rattle.qwk_control.specs.declared.fault.ControlError.TheVariants.{BadBoardId}
use Rattle.qwk_control.proofs.Kept.{five_texts, board_ends, no_board_id}
use Rattle.qwk_control.proofs.head.board_of.Goals as goal

pub returns-in_err-rest : goal.returns-in_err-rest
returns-in_err-rest c =
    let p = err_from_is_err_and c.from_residual.result c.from_residual.ensures.1 in
    rw (p.1, p.2) (subst (FaultBehind 0 (lines c.args.text.now) 5) (sym c.in_err-rest.ensures.taken.0) (board_ends (lines c.args.text.now) c.in_err-rest.ensures.taken.1))

pub returns-in_default : goal.returns-in_default
returns-in_default c =
    subst (λ (all : List (List ℕ)). FaultBehind 0 all 5 BadBoardId) (sym (c.in_ok-rest.ensures.taken ∙ ap (λ ls. ls ++ lines c.in_ok-rest.rest.now) (five_texts c.take_lines.new.taken _ c.take_lines.ensures.count)))
    (no_board_id _ _ _ _ _ (lines c.in_ok-rest.rest.now) c.in_default.ensures)

pub returns : goal.returns
returns c = (_, c.in_ok-rest.ensures.taken ∙ ap (λ ls. ls ++ lines c.in_ok-rest.rest.now) (five_texts c.take_lines.new.taken _ c.take_lines.ensures.count), c.in-Some.ensures)
