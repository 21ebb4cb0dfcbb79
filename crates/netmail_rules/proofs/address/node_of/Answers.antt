use Rattle.std.proofs.Common.{◌∙◌, sym, ap, Some}
use Rattle.netmail_rules.specs.AddressLine.{both, part_of}
use Rattle.netmail_rules.proofs.AddressLines.{node_at, node_whole, no_point}
use Rattle.netmail_rules.proofs.address.node_of.Goals as goal

pub returns-in_err-part_of-in-Some-clause-value : goal.returns-in_err-part_of-in-Some-clause-value
returns-in_err-part_of-in-Some-clause-value c =
    let parts = node_at _ _ _ c.in-Some.ensures in
    c.from_residual.ensures ∙ sym (parts ∙ ap (λ node. both node (part_of c.in-Some.point.now)) (sym c.in_err-part_of-in-Some.ensures.value))

pub returns-in_err-part_of-in-Some-2-clause-value : goal.returns-in_err-part_of-in-Some-2-clause-value
returns-in_err-part_of-in-Some-2-clause-value c =
    let parts = node_at _ _ _ c.in-Some.ensures in
    c.from_residual-in_err-part_of-in-Some-2.ensures ∙ sym (parts ∙ (ap (λ point. both (part_of c.in-Some.node.now) point) (sym c.in_err-part_of-in-Some-2.ensures.value) ∙ no_point (part_of c.in-Some.node.now)))

pub returns-in_ok-part_of-in-Some-2-clause-value : goal.returns-in_ok-part_of-in-Some-2-clause-value
returns-in_ok-part_of-in-Some-2-clause-value c =
    let parts = node_at _ _ _ c.in-Some.ensures in
    sym (parts ∙ (ap (λ node. both node (part_of c.in-Some.point.now)) (sym c.in_ok-part_of-in-Some.ensures.value) ∙ ap (λ point. both (Some c.in_ok-part_of-in-Some.field-0) point) (sym c.in_ok-part_of-in-Some-2.ensures.value)))

pub returns-in_err-part_of-in-None-clause-value : goal.returns-in_err-part_of-in-None-clause-value
returns-in_err-part_of-in-None-clause-value c =
    c.from_residual-in_err-part_of-in-None.ensures ∙ sym (node_whole c.args.text.now c.in-None.ensures ∙ ap (λ node. both node (Some 0)) (sym c.in_err-part_of-in-None.ensures.value))

pub returns-in_ok-part_of-in-None-clause-value : goal.returns-in_ok-part_of-in-None-clause-value
returns-in_ok-part_of-in-None-clause-value c =
    sym (node_whole c.args.text.now c.in-None.ensures ∙ ap (λ node. both node (Some 0)) (sym c.in_ok-part_of-in-None.ensures.value))
