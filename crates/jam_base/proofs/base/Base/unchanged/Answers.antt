use Rattle.std.proofs.Common.{ℕ, Ok, Result, refl, ◌∙◌}
use Rattle.jam_writing.specs.jam_layout.Layout.{layout}
use Rattle.jam_base.specs.Contents.{Contents}
use Rattle.jam_base.specs.declared.change.BaseChange.{BaseChange}
use Rattle.jam_base.proofs.ChangeClauses.{no_change_lengthens}
use Rattle.jam_base.proofs.base.Base.unchanged.Goals as goal

pub returns-clause-bodies : goal.returns-clause-bodies
returns-clause-bodies c =
    let base : Contents = c.args.self.now in
    let change : Result BaseChange ℕ = Ok c.of_nothing.result in
    no_change_lengthens base.shape.place (layout base.shape base.conference) base change refl (c.of_nothing.ensures.base ∙ c.in_ok-base.ensures) c.of_nothing.ensures.patches
