use Rattle.std.proofs.Common.{List, ℕ, ◌∷◌, sym, ap, ◌∙◌, arith}
use Rattle.std.proofs.lemmas.Bool.Decides.{nat_tests}
use Rattle.std.specs.Str.Lines.{lines}
use Rattle.text_fields.proofs.LineLists.{line_first, line_last}
use Rattle.text_fields.proofs.lines.next_line.Goals as goal

pub returns-in-Some : goal.returns-in-Some
returns-in-Some c = line_first c.args.text.now c.in-Some.line.now c.in-Some.rest.now c.in-Some.ensures ∙ ap (λ (x : List ℕ). x ∷ lines c.in-Some.rest.now) (sym c.without_return.ensures)

pub returns-in-None : goal.returns-in-None
returns-in-None c = line_last c.args.text.now (grind (arith, nat_tests)) c.in-None.ensures
