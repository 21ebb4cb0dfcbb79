use Rattle.std.proofs.Common.{arith}
use Rattle.text_fields.proofs.Numbers.{number_unique}
use Rattle.qwk_blocks.specs.Header.{IsPad}
use Rattle.qwk_blocks.proofs.header.count_of.Goals as goal

pub returns-in_default : goal.returns-in_default
returns-in_default c = λ n x. omega (arith, x.positive, number_unique IsPad 6 6 _ c.in-Some.count n c.in-Some.ensures x.number, c.if-count-gt0.false)

pub returns-in_default-2 : goal.returns-in_default-2
returns-in_default-2 c = λ n x. c.in_default.ensures n x.number
