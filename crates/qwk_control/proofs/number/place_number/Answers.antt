use Rattle.std.proofs.Common.{arith}
use Rattle.qwk_control.proofs.Once.{line_number_unique}
use Rattle.qwk_control.proofs.number.place_number.Goals as goal

pub returns-in_default : goal.returns-in_default
returns-in_default c = λ n x. omega (arith, x.small, line_number_unique _ c.in-Some.number n c.in-Some.ensures x.number, c.if-number-le65535.false)

pub returns-in_default-2 : goal.returns-in_default-2
returns-in_default-2 c = λ n x. c.in_default.ensures n x.number
