use Rattle.std.proofs.Common.{arith, ap, ◌∙◌}
use Rattle.std.proofs.lemmas.Result.{err_from_is_err_and}
use Rattle.board_ledger.specs.Rules.{damage_of_ledger}
use Rattle.open_offers.specs.Versions.{version_of}
use Rattle.board_ledger.proofs.OpeningTests.{fixed_fails, behind_fails, opening_read, fixed_counts}
use Rattle.board_ledger.proofs.opening.opening_of.Goals as goal

pub returns-in-Some-clause-gives : goal.returns-in-Some-clause-gives
returns-in-Some-clause-gives c = rw c.damaged.ensures (fixed_fails c.args.bytes.now c.in-Some.rule c.in-Some.ensures.rule)

pub returns-in_err-setup-clause-gives : goal.returns-in_err-setup-clause-gives
returns-in_err-setup-clause-gives c =
    let p = err_from_is_err_and c.from_residual.result c.from_residual.ensures.1 in
    rw (p.1, p.2) (behind_fails c.args.bytes.now (damage_of_ledger c.in_err-setup.field-0.0) c.in_default.ensures.rule c.in_err-setup.ensures.gives)

pub returns-clause-gives : goal.returns-clause-gives
returns-clause-gives c = opening_read c.args.bytes.now _ _ _ _ _ _ _ c.in_default.ensures.rule c.in_ok-setup.ensures.gives (c.of_number.ensures ∙ ap version_of c.u16_at.ensures) c.u32_at.ensures c.u16_at-2.ensures c.u16_at-3.ensures c.u32_at-2.ensures

pub returns-clause-counts : goal.returns-clause-counts
returns-clause-counts c =
    let fit = fixed_counts c.args.bytes.now c.in_default.ensures.rule in
    (omega (arith, fit.conferences, c.u16_at-2.ensures), omega (arith, fit.users, c.u16_at-3.ensures), omega (arith, fit.uploads, c.u32_at-2.ensures))
