use Rattle.fts_packet.proofs.TextLines.{piece_more, piece_last}
use Rattle.fts_packet.proofs.text.without_feeds.Goals as goal

pub loop-front-preserved : goal.loop-front-preserved
loop-front-preserved c =
    piece_more c.args.text.now c.loop-front.kept c.loop-front.left.now c.in-Some.front.now c.in-Some.rest.now c.add.new.self c.loop-front.invariant c.in-Some.ensures c.in_ok-add.ensures.ok

pub returns : goal.returns
returns c = piece_last c.args.text.now c.loop-front.kept c.loop-front.left.now c.add-2.new.self c.loop-front.invariant c.in_default.ensures c.in_ok-add-2.ensures.ok
