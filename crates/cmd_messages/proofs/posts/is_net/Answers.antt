use Rattle.std.proofs.Common.{arith}
use Rattle.board_layout.proofs.BoardLookups.{conferences_count}
use Rattle.cmd_messages.proofs.posts.is_net.Goals as goal

pub conference_of-requires : goal.conference_of-requires
conference_of-requires c = omega (arith, conferences_count c.args.board.now c.requires.board, c.requires.place)
