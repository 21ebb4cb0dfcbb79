use Rattle.std.proofs.Common.{arith}
use Rattle.packet_verdicts.proofs.Places.{small_place}
use Rattle.packet_verdicts.proofs.PostLists.{few_in}
use Rattle.packet_verdicts.proofs.Spreading.{spread_count}
use Rattle.packet_verdicts.proofs.views.slot_count.Goals as goal

pub count-requires-clause-place : goal.count-requires-clause-place
count-requires-clause-place c = small_place c.args.board.now c.args.place c.slot_count.ensures.board c.requires.place

pub overflow_cast-result : goal.overflow_cast-result
overflow_cast-result c = omega (arith, c.count.ensures, few_in c.args.place c.args.accepted.now.posts, c.requires.few)

pub overflow_add-result : goal.overflow_add-result
overflow_add-result c = omega (arith, c.count.ensures, few_in c.args.place c.args.accepted.now.posts, c.requires.few, c.slot_count.ensures.few)

pub returns-clause-count : goal.returns-clause-count
returns-clause-count c = omega (arith, c.count.ensures, c.slot_count.ensures.count, spread_count c.args.board.now c.args.accepted.now.posts c.args.place c.slot_count.ensures.board c.requires.place)

pub returns-clause-few : goal.returns-clause-few
returns-clause-few c = omega (arith, c.count.ensures, few_in c.args.place c.args.accepted.now.posts, c.requires.few, c.slot_count.ensures.few)
