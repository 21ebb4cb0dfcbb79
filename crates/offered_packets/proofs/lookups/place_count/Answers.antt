use Rattle.std.proofs.Common.{arith}
use Rattle.board_layout.proofs.BoardLookups.{few_bases}
use Rattle.offered_packets.proofs.lookups.place_count.Goals as goal

pub overflow_cast-result : goal.overflow_cast-result
overflow_cast-result c = omega (arith, few_bases c.args.board.now c.bases.result.now c.bases.ensures.board c.bases.ensures.conferences)

pub returns-clause-few : goal.returns-clause-few
returns-clause-few c = few_bases c.args.board.now c.bases.result.now c.bases.ensures.board c.bases.ensures.conferences
