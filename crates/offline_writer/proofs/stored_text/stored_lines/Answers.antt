use Rattle.std.proofs.Common.{ℕ, List, [], ◌∷◌, ◌++◌, ap, ◌∙◌}
use Rattle.offline_writer.proofs.Texts.{lines_go_on, lines_end}
use Rattle.offline_writer.proofs.stored_text.stored_lines.Goals as goal

pub loop-line-preserved : goal.loop-line-preserved
loop-line-preserved c =
    lines_go_on c.args.body.now c.loop-line.rest.now c.in-Some.line.now c.in-Some.behind.now c.loop-line.lines c.add.new.self c.loop-line.invariant c.in-Some.ensures
    (c.in_ok-add.ensures.ok ∙ ap (λ (x : List ℕ). c.loop-line.lines ++ x ∷ []) c.in_ok-from_slice.ensures)

pub returns : goal.returns
returns c =
    lines_end c.args.body.now c.loop-line.rest.now c.loop-line.lines c.add-2.new.self c.loop-line.invariant c.in_default.ensures c.if-is_empty.ensures
    (c.in_ok-add-2.ensures.ok ∙ ap (λ (x : List ℕ). c.loop-line.lines ++ x ∷ []) c.in_ok-from_slice-2.ensures)
