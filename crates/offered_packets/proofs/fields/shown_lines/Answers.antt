use Rattle.offered_packets.proofs.FieldLaws.{line_more, lines_end}
use Rattle.offered_packets.proofs.fields.shown_lines.Goals as goal

pub loop-line-preserved : goal.loop-line-preserved
loop-line-preserved c =
    line_more c.loop-line.lines c.add.new.self c.args.body.now c.loop-line.left.now c.in-Some.line.now c.in-Some.rest.now c.in_ok-shown_line.field-0
    c.loop-line.invariant c.in-Some.ensures c.in_ok-shown_line.ensures c.in_ok-add.ensures.ok

pub returns : goal.returns
returns c = lines_end c.loop-line.lines c.args.body.now c.loop-line.left.now c.loop-line.invariant c.in_default.ensures
