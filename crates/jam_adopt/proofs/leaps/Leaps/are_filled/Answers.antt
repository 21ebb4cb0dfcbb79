use Rattle.std.proofs.Common.{refl}
use Rattle.jam_adopt.proofs.Stops.{filled_test}
use Rattle.jam_adopt.proofs.leaps.Leaps.are_filled.Goals as goal

pub returns : goal.returns
returns c =
    filled_test c.args.jhr.now c.args.from c.stop.result c.args.to _ c.requires.short c.stop.ensures.passes c.stop.ensures.within c.requires.within c.stop.ensures.stops refl
