use Rattle.std.proofs.Common.{◌∙◌, sym, refl}
use Rattle.netmail_rules.proofs.AddressLines.{line_without, line_unnamed, line_unaddressed, line_read, line_is, reads_none, reads_some}
use Rattle.netmail_rules.proofs.net_line.address_line.Goals as goal

pub returns-in_err-front-clause-value : goal.returns-in_err-front-clause-value
returns-in_err-front-clause-value c = c.from_residual.ensures ∙ sym (line_without c.args.line.now c.in_err-front.ensures)

pub returns-in_err-front-clause-reads : goal.returns-in_err-front-clause-reads
returns-in_err-front-clause-reads c = reads_none _ _ c.from_residual.ensures (c.from_residual.ensures ∙ sym (line_without c.args.line.now c.in_err-front.ensures))

pub returns-then-not-is_name-clause-value : goal.returns-then-not-is_name-clause-value
returns-then-not-is_name-clause-value c = sym (line_unnamed _ _ _ _ c.in_ok-front.ensures c.past_spaces-name.ensures (sym c.is_name.ensures ∙ c.if-not-is_name.true))

pub returns-then-not-is_name-clause-reads : goal.returns-then-not-is_name-clause-reads
returns-then-not-is_name-clause-reads c = reads_none _ _ refl (sym (line_unnamed _ _ _ _ c.in_ok-front.ensures c.past_spaces-name.ensures (sym c.is_name.ensures ∙ c.if-not-is_name.true)))

pub returns-in_err-address-clause-value : goal.returns-in_err-address-clause-value
returns-in_err-address-clause-value c = c.from_residual-in_err-address.ensures ∙ sym (line_unaddressed _ _ _ _ c.in_ok-front.ensures c.trimmed_end.ensures (sym c.in_err-address.ensures.value))

pub returns-in_err-address-clause-reads : goal.returns-in_err-address-clause-reads
returns-in_err-address-clause-reads c =
    reads_none _ _ c.from_residual-in_err-address.ensures (c.from_residual-in_err-address.ensures ∙ sym (line_unaddressed _ _ _ _ c.in_ok-front.ensures c.trimmed_end.ensures (sym c.in_err-address.ensures.value)))

pub returns-clause-value : goal.returns-clause-value
returns-clause-value c =
    sym (line_is _ _ (line_read _ _ _ _ _ c.in_ok-address.address c.in_ok-front.ensures c.past_spaces-name.ensures (sym c.is_name.ensures ∙ c.if-not-is_name.false) c.trimmed_end.ensures c.in_ok-address.ensures.reads))

pub returns-clause-reads : goal.returns-clause-reads
returns-clause-reads c =
    let read = line_read _ _ _ _ _ c.in_ok-address.address c.in_ok-front.ensures c.past_spaces-name.ensures (sym c.is_name.ensures ∙ c.if-not-is_name.false) c.trimmed_end.ensures c.in_ok-address.ensures.reads in
    reads_some _ _ read (sym (line_is _ _ read))
