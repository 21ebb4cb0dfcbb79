use Rattle.std.proofs.Common.{arith}
use Rattle.fts_packet.proofs.Messages.{cut_at_once, other_kind, cut_front, front_taken}
use Rattle.fts_packet.proofs.parts.front_of.Goals as goal

pub returns-then-bytes-lt2 : goal.returns-then-bytes-lt2
returns-then-bytes-lt2 c = cut_at_once c.args.bytes.now (omega arith)

pub returns-then-u16_at-ne2 : goal.returns-then-u16_at-ne2
returns-then-u16_at-ne2 c = other_kind c.args.bytes.now c.u16_at.result (omega arith) c.u16_at.ensures (λ e. omega (arith, e))

pub returns-then-bytes-lt-FRONT : goal.returns-then-bytes-lt-FRONT
returns-then-bytes-lt-FRONT c = cut_front c.args.bytes.now c.u16_at.result (omega arith) (omega arith) c.u16_at.ensures (omega arith)

pub returns : goal.returns
returns c = front_taken c.args.bytes.now c.split_at.result.0.now c.split_at.result.1.now c.u16_at.result c.split_at.ensures.by_index.0 c.split_at.ensures.front_len c.u16_at.ensures (omega arith)
