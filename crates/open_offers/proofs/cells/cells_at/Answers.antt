use Rattle.std.proofs.Common.{◌+◌, ◌-◌, ◌≤◌, length, ap, arith}
use Rattle.std.proofs.lemmas.List.Elements.{All-push}
use Rattle.open_offers.specs.declared.offer.OpenOffer.{OpenOffer}
use Rattle.open_offers.proofs.CellTests.{cells_more, size_more}
use Rattle.open_offers.proofs.cells.cells_at.Goals as goal

pub overflow_add-number : goal.overflow_add-number
overflow_add-number c =
    let more = size_more c.args.conferences (4 - c.loop.counter) (4 - (c.loop.counter + 1)) (omega arith) in
    omega (arith, more, c.loop.invariant.whole)

pub read-requires-clause-number : goal.read-requires-clause-number
read-requires-clause-number c =
    let more = size_more c.args.conferences (4 - c.loop.counter) (4 - (c.loop.counter + 1)) (omega arith) in
    omega (arith, more, c.loop.invariant.whole)

pub read-requires-clause-highs : goal.read-requires-clause-highs
read-requires-clause-highs c =
    let more = size_more c.args.conferences (4 - c.loop.counter) (4 - (c.loop.counter + 1)) (omega arith) in
    omega (arith, more, c.loop.invariant.whole)

pub overflow_add-number-in-loop : goal.overflow_add-number-in-loop
overflow_add-number-in-loop c =
    let more = size_more c.args.conferences (4 - c.loop.counter) (4 - (c.loop.counter + 1)) (omega arith) in
    omega (arith, more, c.loop.invariant.whole, c.size.ensures)

pub loop-preserved : goal.loop-preserved
loop-preserved c =
    let more = size_more c.args.conferences (4 - c.loop.counter) (4 - (c.loop.counter + 1)) (omega arith) in
    record {
      read = cells_more c.loop.number _ c.args.conferences (4 - c.loop.counter) (4 - (c.loop.counter + 1)) c.args.bytes.now c.loop.cells c.add.new.self c.in_ok-read.field-0 _ (omega arith) (ap (λ n. c.loop.number + n) c.size.ensures)
          c.in_ok-read.ensures.cell c.in_ok-add.ensures.ok c.loop.invariant.read;
      whole = omega (arith, more, c.loop.invariant.whole, c.size.ensures);
      highs = rw c.in_ok-add.ensures.ok (All-push (λ (o : OpenOffer). length o.highs ≤ 64) _ _ c.loop.invariant.highs (omega (arith, c.in_ok-read.ensures.highs, c.requires.conferences)));
    }
