use Rattle.fts_packet.proofs.TextLines.{line_more, all_lines}
use Rattle.fts_packet.proofs.text.lines_of.Goals as goal

pub loop-line-preserved : goal.loop-line-preserved
loop-line-preserved c =
    line_more c.args.text.now c.loop-line.rest.now c.in-Some.line.now c.in-Some.after.now c.in_ok-without_feeds.field-0 c.loop-line.lines c.add.new.self
    c.loop-line.invariant c.in-Some.ensures c.in_ok-without_feeds.ensures c.in_ok-add.ensures.ok

pub returns : goal.returns
returns c = all_lines c.args.text.now c.loop-line.rest.now c.loop-line.lines c.add_last.new.lines c.loop-line.invariant c.in_default.ensures c.in_ok-add_last.ensures
