use Rattle.std.proofs.Common.{arith}
use Rattle.text_fields.proofs.Numbers.{number_small}
use Rattle.qwk_control.specs.Line.{IsSpace}
use Rattle.qwk_control.proofs.number.line_number.Goals as goal

pub overflow_cast-result : goal.overflow_cast-result
overflow_cast-result c = omega (arith, number_small IsSpace 9 _ c.in-Some.number c.in-Some.ensures)
