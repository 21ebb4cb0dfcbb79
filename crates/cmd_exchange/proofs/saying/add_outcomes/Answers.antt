use Rattle.std.proofs.Common.{rules, ◌≡◌, Err, length, refl, ap, arith}
use Rattle.std.proofs.lemmas.List.{drop_all}
use Rattle.cmd_exchange.proofs.OutcomeLines.{all_lines, line_cut, line_more, no_lines}
use Rattle.cmd_exchange.proofs.saying.add_outcomes.Goals as goal

pub loop-index-init : goal.loop-index-init
loop-index-init g c = record { gathered = λ tells. no_lines c.args.outcomes.now _ _; voice = refl; disk = refl }

pub loop-index-preserved : goal.loop-index-preserved
loop-index-preserved g c = record {
  gathered = λ tells. line_more c.args.outcomes.now c.as_slice-outcome-items.result.now c.as_slice-outcome-items.ensures c.loop-index.index _ (c.loop-index.invariant.gathered tells) (omega arith) (c.in_ok-add_outcome.ensures.gathers tells);
  voice = search rules;
  disk = search rules;
}

pub returns-in_err-add_outcome-clause-gathers : goal.returns-in_err-add_outcome-clause-gathers
returns-in_err-add_outcome-clause-gathers g c tells =
    let is : c.from_residual.result ≡ Err c.in_err-add_outcome.field-0.0 = search rules in
    rw is (line_cut c.args.outcomes.now c.as_slice-outcome-items.result.now c.as_slice-outcome-items.ensures c.loop-index.index _ (c.loop-index.invariant.gathered tells) (omega arith) (c.in_err-add_outcome.ensures.gathers tells))

pub returns-clause-gathers : goal.returns-clause-gathers
returns-clause-gathers g c tells = all_lines c.args.outcomes.now c.loop-index.index (c.loop-index.invariant.gathered tells) (drop_all c.loop-index.index c.args.outcomes.now (let same : c.as_slice-outcome-items.result.now ≡ c.args.outcomes.now = c.as_slice-outcome-items.ensures in omega (arith, ap length same)))
