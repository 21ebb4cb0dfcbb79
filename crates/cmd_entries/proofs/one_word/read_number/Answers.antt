use Rattle.cmd_entries.proofs.OneWordLaws.{number_found}
use Rattle.cmd_entries.proofs.one_word.read_number.Goals as goal

pub returns : goal.returns
returns c = number_found c.args.word.now c.number_of.result c.number_of.ensures
