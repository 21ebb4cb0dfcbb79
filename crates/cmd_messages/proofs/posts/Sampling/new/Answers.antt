use Rattle.std.proofs.Common.{◌-◌, ℕ, List, ◌++◌, length, replicate, ap, ◌∙◌}
use Rattle.cmd_messages.proofs.SamplingLaws.{no_sampling}
use Rattle.cmd_messages.proofs.posts.Sampling.new.Goals as goal

pub returns-clause-sampling : goal.returns-clause-sampling
returns-clause-sampling c b =
    no_sampling b record { seed = c.args.seed; moment = c.args.now; numbers = c.new.result; posts = c.new-2.result; posted = c.into_vec.result } c.new.ensures c.new-2.ensures
    (c.into_vec.ensures ∙ (c.in_ok-fill.ensures ∙ ap (λ (xs : List ℕ). xs ++ replicate (64 - length xs) 0) c.new-posted.ensures))
