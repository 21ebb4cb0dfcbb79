use Rattle.board_layout.proofs.BoardLaws.{undamaged, unique, not_both, again, board_sized, old_sized, laid_bytes, not_empty}
use Rattle.board_layout.proofs.SizeLaws.{empty}
use Rattle.board_layout.proofs.laws.unique_board.Goals as goal

pub returns : goal.returns
returns c = record {
  undamaged = undamaged;
  unique = unique;
  version = not_both;
  read = again;
  size = board_sized;
  old_size = old_sized;
  bytes = laid_bytes;
  some = not_empty;
  empty = empty;
}
