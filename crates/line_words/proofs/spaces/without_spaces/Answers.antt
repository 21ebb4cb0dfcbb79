use Rattle.std.proofs.Common.{arith}
use Rattle.line_words.proofs.LineLaws.{none_taken, one_taken}
use Rattle.line_words.proofs.spaces.without_spaces.Goals as goal

pub loop-rest-init : goal.loop-rest-init
loop-rest-init c = none_taken c.args.line.now

pub loop-rest-preserved : goal.loop-rest-preserved
loop-rest-preserved c = one_taken c.args.line.now c.loop-rest.rest.now c.loop-rest.invariant (omega arith) c.if-first-ne-SPACE.false
