use Rattle.std.proofs.Common.{length, sym, ap, arith}
use Rattle.packet_verdicts.proofs.Steps.{first_view}
use Rattle.packet_verdicts.specs.Judged.{refused_count}
use Rattle.packet_verdicts.proofs.judging.Judging.new.Goals as goal

pub overflow_add-size : goal.overflow_add-size
overflow_add-size c = omega (arith, c.size.ensures, c.user_of-uploader.ensures.board.small)

pub returns-clause-judging : goal.returns-clause-judging
returns-clause-judging c = record {
  indexed = c.in_ok-new.ensures.indexed;
  view = first_view c.args.board.now c.args.user c.user_of-uploader.result.now c.in_ok-user_view.field-0 c.saturating_sub-room.result c.size.result c.in_ok-new.field-0.posts c.user_of-uploader.ensures.board c.user_of-uploader.ensures.user c.in_ok-user_view.ensures c.saturating_sub-room.ensures c.size.ensures c.in_ok-new.ensures.none;
  few = omega (arith, ap length c.in_ok-new.ensures.none);
  refused = ap refused_count (sym c.new-2.ensures);
}
