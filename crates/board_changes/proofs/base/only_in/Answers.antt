use Rattle.std.proofs.Common.{◌++◌, ◌∷◌, [], List, None, Option, ap, ◌∙◌}
use Rattle.std.proofs.lemmas.List.{replicate-append-replicate}
use Rattle.board_layout.specs.jam_base.Contents.{Contents}
use Rattle.board_changes.proofs.base.only_in.Goals as goal

pub loop-done-preserved : goal.loop-done-preserved
loop-done-preserved c =
    c.in_ok-add.ensures.ok ∙ (ap (λ (bases : List (Option Contents)). bases ++ None ∷ []) c.loop-done.invariant ∙ replicate-append-replicate {A = Option Contents} c.loop-done._done 1 None)
