use Rattle.std.proofs.Common.{List, Option, Some}
use Rattle.mail_intake.specs.declared.msgids.MsgidSet.{MsgidSet}
use Rattle.cmd_toss.proofs.SeenLaws.{found_is, has_seen, not_none}
use Rattle.cmd_toss.proofs.seen.Seen.has.Goals as goal

pub returns-in-Some : goal.returns-in-Some
returns-in-Some c b posts known =
    let sets : List (Option MsgidSet) = c.args.self.now.sets.items in
    has_seen b posts c.args.self.now c.args.place c.in-Some.set c.args.msgid.now c.has.result (found_is sets c.args.place c.from.result (Some c.requires.0) c.index.result.now c.in-Some.set c.from.ensures c.requires.1 c.index.ensures c.in-Some.is) c.has.ensures known

pub returns-in-None : goal.returns-in-None
returns-in-None c b posts known = absurd (not_none c.args.self.now.sets.items c.args.place c.from.result c.requires.0 c.index.result.now c.from.ensures c.requires.1 c.index.ensures c.in-None.is)
