use Rattle.jam_adopt.proofs.Stops.{stopped, value_some, value_none}
use Rattle.jam_adopt.proofs.leaps.Leaps.value.Goals as goal

pub returns-in-Some : goal.returns-in-Some
returns-in-Some c fields filled =
    let s = stopped c.args.jhr.now c.args.id c.id_bit.result c.args.from c.stop-at.result c.args.to c.requires.short c.requires.id c.id_bit.ensures c.stop-at.ensures.passes c.stop-at.ensures.within c.requires.within c.stop-at.ensures.stops in
    value_some c.args.jhr.now c.args.id c.args.from c.stop-at.result c.in-Some.end c.args.to s c.in-Some.ensures.0 c.in-Some.ensures.1 c.in-Some.ensures.2 fields filled

pub returns-in-None : goal.returns-in-None
returns-in-None c fields filled =
    let s = stopped c.args.jhr.now c.args.id c.id_bit.result c.args.from c.stop-at.result c.args.to c.requires.short c.requires.id c.id_bit.ensures c.stop-at.ensures.passes c.stop-at.ensures.within c.requires.within c.stop-at.ensures.stops in
    value_none c.args.jhr.now c.args.id c.args.from c.stop-at.result c.args.to s c.in-None.ensures fields filled
