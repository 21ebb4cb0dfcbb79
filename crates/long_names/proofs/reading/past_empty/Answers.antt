use Rattle.std.proofs.Common.{ap, sym, ◌∙◌, length}
use Rattle.std.proofs.lemmas.Bool.{eqb-true}
use Rattle.long_names.proofs.EmptyLines.{past_turn}
use Rattle.long_names.proofs.reading.past_empty.Goals as goal

pub loop-rest-preserved : goal.loop-rest-preserved
loop-rest-preserved c =
    past_turn c.loop-rest.rest.now c.args.lines.now c.first-item.result c.in-len1-up.len_at_least c.first-item.is
    (sym (ap length c.as_slice.ensures.same) ∙ eqb-true (length c.as_slice.result.now) 0 (sym c.is_empty.ensures ∙ c.if-not-is_empty.false)) c.loop-rest.invariant
