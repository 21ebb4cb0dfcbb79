use Rattle.std.proofs.Common.{ap, arith}
use Rattle.std.specs.Prelude.{sum_by}
use Rattle.board_layout.specs.Layout.{base_size, board_size}
use Rattle.board_layout.proofs.SizeLaws.{size_in}
use Rattle.board_layout.proofs.board.StoredBoard.size.Goals as goal

pub bases_size-requires : goal.bases_size-requires
bases_size-requires c =
    let small = c.self.invariant.0.small in
    omega (arith, ap (sum_by base_size) c.as_slice.ensures.value, size_in c.self.inside.ledger c.self.inside.bases.items c.self.invariant.1, small)

pub overflow_add-result : goal.overflow_add-result
overflow_add-result c =
    let small = c.self.invariant.0.small in
    omega (arith, c.size.ensures, c.bases_size.ensures, ap (sum_by base_size) c.as_slice.ensures.value, size_in c.self.inside.ledger c.self.inside.bases.items c.self.invariant.1, small)

pub returns : goal.returns
returns c =
    omega (arith, c.size.ensures, c.bases_size.ensures, ap (sum_by base_size) c.as_slice.ensures.value, size_in c.self.inside.ledger c.self.inside.bases.items c.self.invariant.1, ap board_size c.self.view_is)
