use Rattle.std.proofs.Common.{ℕ, List, [], ◌∷◌, ◌++◌, ap, ◌∙◌}
use Rattle.text_fields.proofs.LineLists.{goes_on, none_is_left}
use Rattle.text_fields.proofs.lines.lines_of.Goals as goal

pub loop-line-preserved : goal.loop-line-preserved
loop-line-preserved c = goes_on c.args.text.now c.loop-line.rest.now c.in-Some.line.now c.in-Some.after.now c.loop-line.all c.add.new.self c.loop-line.invariant c.in-Some.ensures
    (c.in_ok-add.ensures.ok ∙ ap (λ (x : List ℕ). c.loop-line.all ++ x ∷ []) c.in_ok-from_slice.ensures)

pub returns : goal.returns
returns c = none_is_left c.args.text.now c.loop-line.rest.now c.loop-line.all c.loop-line.invariant c.in_default.ensures
