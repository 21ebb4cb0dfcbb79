use Rattle.std.proofs.Common.{◌∙◌, sym, ap, Some}
use Rattle.netmail_rules.specs.AddressLine.{address_from, part_of, node_of}
use Rattle.netmail_rules.proofs.AddressLines.{address_at, address_without, net_without, no_net, no_node}
use Rattle.netmail_rules.proofs.address.address_of.Goals as goal

pub returns-in_err-zone-clause-value : goal.returns-in_err-zone-clause-value
returns-in_err-zone-clause-value c = c.from_residual.ensures ∙ sym (address_without c.args.text.now c.in_err-zone.ensures)

pub returns-in_err-net-clause-value : goal.returns-in_err-net-clause-value
returns-in_err-net-clause-value c = c.from_residual-in_err-net.ensures ∙ sym (net_without c.args.text.now _ _ c.in_ok-zone.ensures c.in_err-net.ensures)

pub returns-in_err-zone-2-clause-value : goal.returns-in_err-zone-2-clause-value
returns-in_err-zone-2-clause-value c =
    let parts = address_at _ _ _ _ _ c.in_ok-zone.ensures c.in_ok-net.ensures in
    c.from_residual-in_err-zone-2.ensures ∙ sym (parts ∙ ap (λ zone. address_from zone (part_of c.in_ok-net.net.now) (node_of c.in_ok-net.behind_net.now)) (sym c.in_err-zone-2.ensures.value))

pub returns-in_err-net-2-clause-value : goal.returns-in_err-net-2-clause-value
returns-in_err-net-2-clause-value c =
    let parts = address_at _ _ _ _ _ c.in_ok-zone.ensures c.in_ok-net.ensures in
    c.from_residual-in_err-net-2.ensures ∙ sym (parts ∙ (ap (λ net. address_from (part_of c.in_ok-zone.zone.now) net (node_of c.in_ok-net.behind_net.now)) (sym c.in_err-net-2.ensures.value) ∙ no_net _ _))

pub returns-in_err-node-clause-value : goal.returns-in_err-node-clause-value
returns-in_err-node-clause-value c =
    let parts = address_at _ _ _ _ _ c.in_ok-zone.ensures c.in_ok-net.ensures in
    c.from_residual-in_err-node.ensures ∙ sym (parts ∙ (ap (λ found. address_from (part_of c.in_ok-zone.zone.now) (part_of c.in_ok-net.net.now) found) (sym c.in_err-node.ensures.value) ∙ no_node _ _))

pub returns-clause-value : goal.returns-clause-value
returns-clause-value c =
    let parts = address_at _ _ _ _ _ c.in_ok-zone.ensures c.in_ok-net.ensures in
    sym (parts ∙ (ap (λ zone. address_from zone (part_of c.in_ok-net.net.now) (node_of c.in_ok-net.behind_net.now)) (sym c.in_ok-zone-2.ensures.value)
    ∙ (ap (λ net. address_from (Some c.in_ok-zone-2.zone) net (node_of c.in_ok-net.behind_net.now)) (sym c.in_ok-net-2.ensures.value)
    ∙ ap (λ found. address_from (Some c.in_ok-zone-2.zone) (Some c.in_ok-net-2.net) found) (sym c.in_ok-node.ensures.value))))
