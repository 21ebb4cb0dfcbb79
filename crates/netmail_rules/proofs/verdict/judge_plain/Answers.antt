use Rattle.std.proofs.Common.{Some, None}
use Rattle.netmail_rules.proofs.Verdicts.{refused_first, judged_later}
use Rattle.netmail_rules.proofs.verdict.judge_plain.Goals as goal

pub returns-in-Some : goal.returns-in-Some
returns-in-Some c = refused_first c.args.view.now c.args.message.now c.args.now c.rules_before.result c.in-Some.rule c.rules_before.ensures c.in-Some.ensures

pub returns-in-Some-refusal_in : goal.returns-in-Some-refusal_in
returns-in-Some-refusal_in c =
    judged_later c.args.view.now c.args.message.now c.args.now c.rules_before.result c.in_ok-draft.draft (Some c.in-Some-refusal_in.rule) c.rules_before.ensures c.in_default.ensures c.in_ok-draft.ensures c.in-Some-refusal_in.ensures

pub returns-in-None : goal.returns-in-None
returns-in-None c =
    judged_later c.args.view.now c.args.message.now c.args.now c.rules_before.result c.in_ok-draft.draft None c.rules_before.ensures c.in_default.ensures c.in_ok-draft.ensures c.in-None.ensures
