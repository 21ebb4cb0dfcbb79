use Rattle.std.proofs.Common.{arith}
use Rattle.name_crc.proofs.TableRule.{table_word}
use Rattle.name_crc.proofs.table.steps_of.Goals as goal

pub returns : goal.returns
returns c = table_word c.args.byte (omega arith)
