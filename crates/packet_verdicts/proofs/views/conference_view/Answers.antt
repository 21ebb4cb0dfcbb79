use Rattle.std.proofs.Common.{arith}
use Rattle.board_layout.proofs.BoardLookups.{conferences_count}
use Rattle.packet_verdicts.proofs.Places.{small_place}
use Rattle.packet_verdicts.proofs.views.conference_view.Goals as goal

pub conference_of-conference-requires : goal.conference_of-conference-requires
conference_of-conference-requires c = omega (arith, conferences_count c.args.board.now c.slot_count-slots.ensures.board, c.requires.place)

pub is_member-requires : goal.is_member-requires
is_member-requires c = omega (arith, c.from.ensures, small_place c.args.board.now c.args.place c.slot_count-slots.ensures.board c.requires.place)
