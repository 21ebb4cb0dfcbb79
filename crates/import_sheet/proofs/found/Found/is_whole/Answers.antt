use Rattle.std.proofs.Common.{sym, ◌∙◌}
use Rattle.std.proofs.lemmas.Bool.{false≢true}
use Rattle.import_sheet.specs.declared.field.Field.TheVariants.{From, To}
use Rattle.import_sheet.proofs.Given.{held_has, has_held}
use Rattle.import_sheet.proofs.found.Found.is_whole.Goals as goal

pub returns-then-is_some : goal.returns-then-is_some
returns-then-is_some c = λ headers holds. (
  λ t. (held_has headers From c.args.self.from (holds From) (sym c.is_some.ensures ∙ c.if-is_some.true), held_has headers To c.args.self.to (holds To) (sym c.is_some-then-is_some.ensures ∙ t)),
  λ p. c.is_some-then-is_some.ensures ∙ has_held headers To c.args.self.to (holds To) p.1,
)

pub returns-else-is_some : goal.returns-else-is_some
returns-else-is_some c = λ headers holds. (
  λ t. absurd (false≢true (sym c.if-is_some.false ∙ t)),
  λ p. c.is_some.ensures ∙ has_held headers From c.args.self.from (holds From) p.0,
)
