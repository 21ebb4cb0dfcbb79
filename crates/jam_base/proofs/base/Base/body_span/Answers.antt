use Rattle.std.proofs.Common.{None, refl, sym, ap, ◌∙◌}
use Rattle.std.specs.Option.{option_copied}
use Rattle.jam_base.proofs.BareLookups.{no_span}
use Rattle.jam_base.proofs.base.Base.body_span.Goals as goal

pub returns-in-None : goal.returns-in-None
returns-in-None c = no_span c.args.number c.args.self.now.conference.slots None (sym (sym c.slot.ensures ∙ ap option_copied c.in-None.is)) refl
