use Rattle.std.proofs.Common.{◌∙◌}
use Rattle.cmd_entries.proofs.OneWordLaws.{conferences_found}
use Rattle.cmd_entries.proofs.one_word.names_conferences.Goals as goal

pub returns : goal.returns
returns c = c.is_some.ensures ∙ conferences_found c.args.word.now c.in_ok-parse.field-0 c.in_ok-parse.ensures
