use Rattle.std.proofs.Common.{ap, arith}
use Rattle.board_layout.specs.Layout.{board_size}
use Rattle.post_changes.proofs.SizeLaws.{uploaded_bytes}
use Rattle.post_changes.specs.Posted.{spread}
use Rattle.post_changes.proofs.size.size_with_upload.Goals as goal

pub returns : goal.returns
returns c = λ user digest refused same.
    omega (
      arith,
      c.saturating_add.ensures,
      c.spread_size.ensures.size,
      ap (λ posts. board_size (spread posts c.args.board.now)) c.as_slice.ensures,
      uploaded_bytes c.args.board.now c.args.posts.now c.spread_size.ensures.board user digest refused same,
    )
