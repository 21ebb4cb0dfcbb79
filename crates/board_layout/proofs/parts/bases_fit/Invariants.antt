use Rattle.std.proofs.Common.{◌≡◌, ◌+◌, take}
use Rattle.std.specs.Prelude.{sum_by}
use Rattle.board_layout.specs.Layout.{base_size}
use Rattle.board_layout.proofs.parts.bases_fit.Given as goal

abbrev pub invariant-loop-base : goal.invariant-loop-base
invariant-loop-base l = l.left + sum_by base_size (take l.base-index l.bases) ≡ l.limit
