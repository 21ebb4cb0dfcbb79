use Rattle.std.proofs.Common.{arith}
use Rattle.text_fields.specs.Blank.{IsBlank}
use Rattle.text_fields.proofs.Numbers.{no_number, number_from_digits}
use Rattle.text_fields.proofs.number.number_of.Goals as goal

pub returns-then-digits-most : goal.returns-then-digits-most
returns-then-digits-most c = no_number (IsBlank c.args.blank) c.args.most c.args.field.now c.trimmed-digits.result.now c.trimmed-digits.ensures (λ n short x. omega arith)

pub returns : goal.returns
returns c = number_from_digits (IsBlank c.args.blank) c.args.most c.args.field.now c.trimmed-digits.result.now c.digits_of.result c.trimmed-digits.ensures c.if-digits-most.false c.digits_of.ensures
