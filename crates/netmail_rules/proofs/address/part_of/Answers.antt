use Rattle.std.proofs.Common.{◌∙◌, sym, arith}
use Rattle.netmail_rules.proofs.AddressLines.{part_is, part_long, part_none, part_above}
use Rattle.netmail_rules.proofs.address.part_of.Goals as goal

pub returns-then-digits-gt5-clause-value : goal.returns-then-digits-gt5-clause-value
returns-then-digits-gt5-clause-value c = sym (part_long c.args.digits.now (omega arith))

pub returns-in_err-number-clause-value : goal.returns-in_err-number-clause-value
returns-in_err-number-clause-value c = c.from_residual.ensures ∙ sym (part_none c.args.digits.now c.in_err-number.ensures)

pub returns-then-number-gt32767-clause-value : goal.returns-then-number-gt32767-clause-value
returns-then-number-gt32767-clause-value c = sym (part_above c.args.digits.now c.in_ok-number.number c.in_ok-number.ensures (omega arith))

pub returns-clause-value : goal.returns-clause-value
returns-clause-value c = sym (part_is c.args.digits.now c.in_ok-number.number record { digits = c.in_ok-number.ensures; short = omega arith; small = omega arith })
