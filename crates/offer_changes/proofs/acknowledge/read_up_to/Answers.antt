use Rattle.offer_changes.proofs.EachOffer.{above_each}
use Rattle.offer_changes.proofs.acknowledge.read_up_to.Goals as goal

pub returns-clause-each : goal.returns-clause-each
returns-clause-each c =
    above_each c.args.id c.args.name.now c.args.now c.args.high c.args.base.now c.in-Some.pointer c.in_ok-acknowledged.field-0.patches c.in-Some.ensures c.if-high-pointer.false c.in_ok-acknowledged.ensures.each
