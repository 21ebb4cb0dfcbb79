use Rattle.std.proofs.Common.{ap, length, arith}
use Rattle.board_layout.proofs.BoardLookups.{few_in_place}
use Rattle.board_layout.proofs.board.StoredBoard.slot_count.Goals as goal

pub returns-in-Some-clause-few : goal.returns-in-Some-clause-few
returns-in-Some-clause-few c = omega (arith, c.slot_count.ensures, ap length c.in-Some.ensures.slots, few_in_place c.args.self.now c.args.place c.in-Some.ensures.board)
