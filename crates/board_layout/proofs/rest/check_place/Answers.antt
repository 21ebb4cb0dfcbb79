use Rattle.std.proofs.Common.{◌∙◌, sym, subst}
use Rattle.std.proofs.lemmas.Result.{err_from_is_err_and}
use Rattle.board_ledger.specs.damage_rules.Rules.{Stops}
use Rattle.board_layout.specs.Rules.{damage_of_read, ReadGives}
use Rattle.board_layout.proofs.RestLaws.{asked, jhr_fails, jdt_fails, jdx_fails, at_last}
use Rattle.board_layout.proofs.rest.check_place.Goals as goal

pub returns-in_err-check_rest-clause-gives : goal.returns-in_err-check_rest-clause-gives
returns-in_err-check_rest-clause-gives g c =
    let p = err_from_is_err_and c.from_residual.result c.from_residual.ensures.1 in
    let e = damage_of_read c.in_err-check_rest.field-0.0 in
    let files = (g.H.Host.disk c.args.host.now).files in
    rw (p.1, p.2) (λ tells. jhr_fails c.args.place files e (subst (Stops e) (asked _ _ files files c.jhr.ensures (λ i. files)) (c.in_err-check_rest.ensures.gives tells)))

pub returns-in_err-check_rest-2-clause-gives : goal.returns-in_err-check_rest-2-clause-gives
returns-in_err-check_rest-2-clause-gives g c =
    let p = err_from_is_err_and c.from_residual-in_err-check_rest-2.result c.from_residual-in_err-check_rest-2.ensures.1 in
    let e = damage_of_read c.in_err-check_rest-2.field-0.0 in
    let files = (g.H.Host.disk c.args.host.now).files in
    rw (p.1, p.2) (λ tells.
    let same = (c.check_rest.ensures.unchanged tells).files in
    let jhr = sym (asked _ _ files files c.jhr.ensures (λ i. files)) ∙ c.in_ok-check_rest.ensures.gives tells in
    jdt_fails c.args.place files _ e jhr (subst (Stops e) (asked _ _ _ files c.jdt.ensures same) (c.in_err-check_rest-2.ensures.gives tells)))

pub returns-in_err-check_rest-3-clause-gives : goal.returns-in_err-check_rest-3-clause-gives
returns-in_err-check_rest-3-clause-gives g c =
    let p = err_from_is_err_and c.from_residual-in_err-check_rest-3.result c.from_residual-in_err-check_rest-3.ensures.1 in
    let e = damage_of_read c.in_err-check_rest-3.field-0.0 in
    let files = (g.H.Host.disk c.args.host.now).files in
    rw (p.1, p.2) (λ tells.
    let one = (c.check_rest.ensures.unchanged tells).files in
    let two = (c.check_rest-2.ensures.unchanged tells).files ∙ one in
    let jhr = sym (asked _ _ files files c.jhr.ensures (λ i. files)) ∙ c.in_ok-check_rest.ensures.gives tells in
    let jdt = sym (asked _ _ _ files c.jdt.ensures one) ∙ c.in_ok-check_rest-2.ensures.gives tells in
    jdx_fails c.args.place files _ _ e jhr jdt (subst (Stops e) (asked _ _ _ files c.jdx.ensures two) (c.in_err-check_rest-3.ensures.gives tells)))

pub returns-clause-gives : goal.returns-clause-gives
returns-clause-gives g c = λ tells.
    let files = (g.H.Host.disk c.args.host.now).files in
    let one = (c.check_rest.ensures.unchanged tells).files in
    let two = (c.check_rest-2.ensures.unchanged tells).files ∙ one in
    let three = (c.check_rest-3.ensures.unchanged tells).files ∙ two in
    let jhr = sym (asked _ _ files files c.jhr.ensures (λ i. files)) ∙ c.in_ok-check_rest.ensures.gives tells in
    let jdt = sym (asked _ _ _ files c.jdt.ensures one) ∙ c.in_ok-check_rest-2.ensures.gives tells in
    let jdx = sym (asked _ _ _ files c.jdx.ensures two) ∙ c.in_ok-check_rest-3.ensures.gives tells in
    subst (ReadGives (λ x. x) c.check_rest-4.result) (asked _ _ _ files c.jlr.ensures three ∙ sym (at_last c.args.place files _ _ _ jhr jdt jdx)) (c.check_rest-4.ensures.gives tells)
