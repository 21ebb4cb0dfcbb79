use Rattle.std.proofs.Common.{ap, ◌∙◌}
use Rattle.std.specs.Option.{option_copied}
use Rattle.setup_file.specs.Words.{begins_with, value_behind, trim}
use Rattle.fts_packet.proofs.Values.{value_some, value_none}
use Rattle.fts_packet.proofs.value.value_behind.Goals as goal

pub returns-in_err-rest : goal.returns-in_err-rest
unfolding begins_with
returns-in_err-rest c = ap option_copied c.from_residual.ensures ∙ value_none c.args.key.now c.args.line.now c.in_err-rest.ensures.cases

pub returns : goal.returns
unfolding begins_with value_behind
returns c =
    value_some c.args.key.now c.args.line.now c.trimmed_spaces.result.now c.in_ok-rest.ensures.cases.0 (c.trimmed_spaces.ensures ∙ ap trim c.in_ok-rest.ensures.cases.1)
