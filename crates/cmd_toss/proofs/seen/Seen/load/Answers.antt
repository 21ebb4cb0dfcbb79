use Rattle.std.proofs.Common.{sym, ◌∙◌, arith}
use Rattle.cmd_toss.proofs.SeenLaws.{found_there, put_there, seen_loaded}
use Rattle.cmd_toss.proofs.seen.Seen.load.Goals as goal

pub returns-then-is_some-clause-loaded : goal.returns-then-is_some-clause-loaded
returns-then-is_some-clause-loaded c =
    found_there c.args.self.now.sets.items c.args.place c.from-at.result c.index.result.now c.from-at.ensures (omega (arith, c.requires.place, c.requires.count, c.from-at.ensures)) c.index.ensures (sym c.is_some.ensures ∙ c.if-is_some.true)

pub returns-clause-seen : goal.returns-clause-seen
returns-clause-seen c posts known =
    seen_loaded c.args.board.now posts c.args.self.now c.args.place c.from-at.result c.index.result.now c.in_ok-set.set c.msgids_in.ensures.board c.requires.place c.from-at.ensures c.index.ensures (sym c.is_some.ensures ∙ c.if-is_some.false)
    c.in_ok-set.ensures.set known

pub returns-clause-loaded : goal.returns-clause-loaded
returns-clause-loaded c = put_there c.args.self.now.sets.items c.args.place c.from-at.result c.in_ok-set.set c.from-at.ensures (omega (arith, c.requires.place, c.requires.count, c.from-at.ensures))
