use Rattle.std.proofs.Common.{List, Option, Some}
use Rattle.std.proofs.lemmas.Result.{on_ok_weaker}
use Rattle.mail_intake.specs.declared.msgids.MsgidSet.{MsgidSet}
use Rattle.cmd_toss.proofs.SeenLaws.{found_is, not_none, seen_more}
use Rattle.cmd_toss.proofs.seen.Seen.add.Goals as goal

pub returns-in-Some : goal.returns-in-Some
returns-in-Some c =
    let sets : List (Option MsgidSet) = c.args.self.now.sets.items in
    let there = found_is sets c.args.place c.from.result (Some c.requires.0) c.index_mut.result.now c.in-Some.set c.from.ensures c.requires.1 c.index_mut.ensures.value c.in-Some.is in
    on_ok_weaker c.add.result
    (λ added b posts m ok within known own. seen_more b posts c.args.self.now c.args.place c.from.result m c.in-Some.set c.add.new.self c.args.msgid.now ok within c.from.ensures there added own known)
    c.add.ensures

pub returns-in-None : goal.returns-in-None
returns-in-None c b posts m ok within known own =
    absurd (not_none c.args.self.now.sets.items c.args.place c.from.result c.requires.0 c.index_mut.result.now c.from.ensures c.requires.1 c.index_mut.ensures.value c.in-None.is)
