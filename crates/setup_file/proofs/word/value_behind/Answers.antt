use Rattle.std.proofs.Common.{ap, ◌∙◌}
use Rattle.setup_file.specs.Words.{begins_with, value_behind, trim}
use Rattle.setup_file.proofs.word.value_behind.Goals as goal

pub returns-in_err-rest : goal.returns-in_err-rest
unfolding begins_with
returns-in_err-rest c = rw c.from_residual.ensures c.in_err-rest.ensures.cases

pub returns : goal.returns
unfolding begins_with value_behind
returns c = (c.in_ok-rest.ensures.cases.0, c.trimmed_spaces.ensures ∙ ap trim c.in_ok-rest.ensures.cases.1)
