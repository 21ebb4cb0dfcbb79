use Rattle.std.proofs.Common.{◌∙◌, arith}
use Rattle.jam_base.proofs.BareLookups.{found_live, none_found}
use Rattle.jam_base.proofs.slots.has_live.Goals as goal

pub returns-in-Some : goal.returns-in-Some
returns-in-Some c = c.is_live.ensures ∙ found_live c.args.number c.args.slots.now c.in-Some.slot.now (omega arith) c.in-Some.ensures

pub returns-in-None : goal.returns-in-None
returns-in-None c = none_found c.args.number c.args.slots.now (omega arith) c.in-None.ensures
