use Rattle.std.proofs.Common.{rules, ◌≡◌, ap, not, ◌&&◌, length, is_none, ltb}
use Rattle.netmail_rules.specs.AddressLine.{is_plain}
use Rattle.netmail_rules.specs.Draft.{is_netmail, netmail_line}
use Rattle.netmail_rules.specs.Rules.{has_zone}
use Rattle.netmail_rules.proofs.RuleLists.{same_table}
use Rattle.netmail_rules.proofs.rules.rules_in.Goals as goal
use Rattle.netmail_rules.proofs.rules.rules_in.Goals.{then-conference, else-conference, then-net, else-net, then-net-2, else-net-2, then-net-3, else-net-3}

pub returns : goal.returns
returns c =
    let v = c.args.view.now in
    let m = c.args.message.now in
    let readonly : c.if-conference.result ≡ (c.args.conference.now.readonly && not v.is_sysop) = elim c.if-conference.branch [ then-conference w ↦ search rules | else-conference w ↦ search rules ] in
    let subject : c.is_plain.result ≡ is_plain m.header.subject = search rules in
    let long : ltb 16384 (length c.as_slice-2.result.now) ≡ ltb 16384 (length c.args.draft.now.body) = search rules in
    let netuser : c.if-net.result ≡ (is_netmail v && not v.net) = elim c.if-net.branch [ then-net w ↦ search rules | else-net w ↦ search rules ] in
    let address : c.if-net-2.result ≡ (is_netmail v && is_none (netmail_line v m)) = elim c.if-net-2.branch [ then-net-2 w ↦ search rules | else-net-2 w ↦ search rules ] in
    let zone : c.if-net-3.result ≡ (is_netmail v && not (has_zone v.zones (netmail_line v m))) = elim c.if-net-3.branch [ then-net-3 w ↦ search rules | else-net-3 w ↦ search rules ] in
    same_table readonly (ap not c.is_from_user.ensures) (search rules) (ap not subject) long (search rules) netuser address zone c.is_full.ensures
