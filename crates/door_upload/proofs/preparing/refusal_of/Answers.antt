use Rattle.std.proofs.Common.{ap, arith}
use Rattle.board_layout.specs.Layout.{board_size}
use Rattle.door_upload.proofs.preparing.refusal_of.Goals as goal

pub overflow_add-size : goal.overflow_add-size
overflow_add-size c = let small = c.stored.ensures.valid.small in omega (arith, c.size.ensures, ap board_size c.stored.ensures.board, small)
