use Rattle.std.proofs.Common.{sym, ap, ◌∙◌}
use Rattle.std.specs.Option.{option_copied}
use Rattle.board_layout.proofs.jam_base.BareLookups.{looked_live, looked_none}
use Rattle.slot_changes.proofs.fits.has_message.Goals as goal

pub returns-in-Some : goal.returns-in-Some
returns-in-Some c = c.is_live.ensures ∙ looked_live c.args.number c.args.base.now.conference.slots c.in-Some.slot.now (sym (ap option_copied c.in-Some.is) ∙ c.slot.ensures)

pub returns-in-None : goal.returns-in-None
returns-in-None c = looked_none c.args.number c.args.base.now.conference.slots (sym (ap option_copied c.in-None.is) ∙ c.slot.ensures)
