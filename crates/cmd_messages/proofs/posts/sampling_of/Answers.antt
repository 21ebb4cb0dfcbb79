use Rattle.std.proofs.Common.{length, ap}
use Rattle.cmd_messages.proofs.posts.sampling_of.Goals as goal

pub loop-init : goal.loop-init
loop-init c = record {
  sampling = c.in_ok-sampling.ensures.sampling c.args.board.now;
  count = ap length c.in_ok-sampling.ensures.none;
  seed = c.in_ok-sampling.ensures.seed.0;
  moment = c.in_ok-sampling.ensures.seed.1;
}
