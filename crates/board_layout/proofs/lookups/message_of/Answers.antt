use Rattle.std.proofs.Common.{ap, ◌∙◌}
use Rattle.board_layout.specs.Lookups.{held_in}
use Rattle.jam_base.proofs.BareLookups.{found_or_gone, looked_up}
use Rattle.board_layout.proofs.lookups.message_of.Goals as goal

pub returns-in-None : goal.returns-in-None
returns-in-None c = ap held_in (ap found_or_gone c.in-None.ensures ∙ looked_up c.args.number c.args.base.now.conference.slots)
