use Rattle.std.proofs.Common.{arith}
use Rattle.setup_file.proofs.Numbers.{number_is, number_value, number_small, no_number, too_long}
use Rattle.setup_file.proofs.word.number_of.Goals as goal

pub returns-then-word-gt5 : goal.returns-then-word-gt5
returns-then-word-gt5 c = too_long c.args.word.now (omega arith)

pub overflow_cast-result : goal.overflow_cast-result
overflow_cast-result c = omega (arith, number_small c.args.word.now c.in-Some.number c.in-Some.ensures (omega arith))

pub returns-in-Some : goal.returns-in-Some
returns-in-Some c = (number_is c.args.word.now c.in-Some.number c.in-Some.ensures (omega arith), number_value c.args.word.now c.in-Some.number c.in-Some.ensures)

pub returns-in-None : goal.returns-in-None
returns-in-None c = no_number c.args.word.now c.in-None.ensures
