use Rattle.std.proofs.Common.{sym, ap}
use Rattle.jam_layout.specs.jam_threads.Children.{has_msgid}
use Rattle.mail_board.proofs.BodyLaws.{none_numbered}
use Rattle.mail_board.proofs.readers.holds_msgid.Goals as goal

pub returns-in-None : goal.returns-in-None
returns-in-None c = sym (ap (has_msgid c.args.msgid.now) (none_numbered c.args.number c.args.base.now.conference.slots c.in-None.ensures))
