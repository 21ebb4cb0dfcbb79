use Rattle.std.proofs.lemmas.Result.{on_ok_weaker}
use Rattle.netmail_rules.proofs.KeptLines.{piece_more, piece_last}
use Rattle.netmail_rules.proofs.draft.add_line.Goals as goal

pub loop-front-preserved : goal.loop-front-preserved
loop-front-preserved c =
    piece_more c.args.body.now c.loop-front.body c.args.line.now c.loop-front.left.now c.in-Some.front.now c.in-Some.rest.now c.add.new.self c.add-in-Some.new.self
    c.in-Some.ensures c.loop-front.invariant c.in_ok-add.ensures.ok c.in_ok-add-2.ensures.ok

pub returns : goal.returns
returns c =
    on_ok_weaker c.add-3.result
    (piece_last c.args.body.now c.loop-front.body c.args.line.now c.loop-front.left.now c.add-2.new.self c.add-3.new.self c.in_default.ensures c.loop-front.invariant c.in_ok-add-3.ensures.ok)
    c.add-3.ensures.ok
