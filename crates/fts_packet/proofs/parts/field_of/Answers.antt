use Rattle.std.proofs.Common.{arith}
use Rattle.fts_packet.proofs.Nuls.{field_without, field_long}
use Rattle.fts_packet.proofs.parts.field_of.Goals as goal

pub returns-in_default : goal.returns-in_default
returns-in_default c = field_without c.args.width c.args.bytes.now c.field_fault.result c.in_default.ensures c.field_fault.ensures

pub returns-then-text-width : goal.returns-then-text-width
returns-then-text-width c =
    field_long c.args.width c.args.bytes.now c.in-Some.text.now c.in-Some.rest.now c.field_fault-then-text-width.result c.in-Some.ensures (omega arith) c.field_fault-then-text-width.ensures

pub returns : goal.returns
returns c = (c.in-Some.ensures, omega arith)
