use Rattle.std.proofs.Common.{arith}
use Rattle.board_layout.proofs.BoardLookups.{conferences_count}
use Rattle.packet_verdicts.proofs.replies.draft_reply.Goals as goal

pub msgid_of-requires : goal.msgid_of-requires
msgid_of-requires c = omega (arith, conferences_count c.args.board.now c.user_of-user.ensures.board, c.requires.place)
