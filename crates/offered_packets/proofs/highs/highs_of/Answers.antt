use Rattle.std.proofs.Common.{◌∙◌, length, ap, arith}
use Rattle.offered_packets.proofs.HighLaws.{raise_next, raise_none, zeros_are}
use Rattle.offered_packets.proofs.highs.highs_of.Goals as goal
use Rattle.offered_packets.proofs.highs.highs_of.Goals.{then-place-len, else-place-len}

pub loop-message-init : goal.loop-message-init
loop-message-init c = zeros_are (length c.args.board.now.conferences) c.from.result c.new-zeros.result c.fill.new.self c.into_vec-numbers.result.items c.new-zeros.ensures c.in_ok-fill.ensures (c.from.ensures ∙ c.place_count.ensures.count) c.into_vec-numbers.ensures

pub loop-message-preserved : goal.loop-message-preserved
loop-message-preserved c = elim c.if-place-len.branch [
  | then-place-len w ↦
      raise_next (length c.args.board.now.conferences) c.loop-message.message-index c.args.offered.now c.as_slice-message-items.result.now _ c.loop-message.numbers.items c.if-place-len.numbers.items c.from-place.result w.index.result.now w.max.result
      c.as_slice-message-items.ensures c.loop-message-test.true c.loop-message.invariant c.from-place.ensures
      (omega (arith, w.if-place-len.true, c.len.ensures, c.loop-message.numbers.ok.0)) w.index.ensures w.max.ensures (ap (λ v. v.items) w.numbers-is)
  | else-place-len w ↦
      raise_none (length c.args.board.now.conferences) c.loop-message.message-index c.args.offered.now c.as_slice-message-items.result.now _ c.loop-message.numbers.items c.if-place-len.numbers.items c.from-place.result
      c.as_slice-message-items.ensures c.loop-message-test.true c.loop-message.invariant c.from-place.ensures
      (omega (arith, w.if-place-len.false, c.len.ensures, c.loop-message.numbers.ok.0)) (ap (λ v. v.items) w.numbers-is)
]
