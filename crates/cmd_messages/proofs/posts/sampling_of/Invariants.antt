use Rattle.std.proofs.Common.{◌≡◌, length}
use Rattle.cmd_messages.specs.Sampling.{IsSampling}
use Rattle.cmd_messages.proofs.posts.sampling_of.Given as goal

-- so many messages of the sample so far
abbrev pub invariant-loop : goal.invariant-loop
invariant-loop l = record {
  sampling : IsSampling l.board l.sampling;
  count : length l.sampling.posts ≡ l.counter;
  seed : l.sampling.seed ≡ l.seed;
  moment : l.sampling.moment ≡ l.now;
}
