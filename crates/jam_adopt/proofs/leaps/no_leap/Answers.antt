use Rattle.std.proofs.Common.{refl}
use Rattle.jam_adopt.proofs.LeapLaws.{leap_nowhere}
use Rattle.jam_adopt.proofs.leaps.no_leap.Goals as goal

pub returns : goal.returns
returns c jhr within = leap_nowhere jhr c.args.at _ refl within
