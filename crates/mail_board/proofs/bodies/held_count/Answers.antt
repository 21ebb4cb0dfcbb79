use Rattle.std.proofs.Common.{sym, ap}
use Rattle.mail_board.proofs.BodyLaws.{none_numbered}
use Rattle.mail_board.specs.Bodies.{one_held}
use Rattle.mail_board.proofs.bodies.held_count.Goals as goal

pub returns-in-None : goal.returns-in-None
returns-in-None c = sym (ap one_held (none_numbered c.args.number c.args.base.now.conference.slots c.in-None.ensures))
