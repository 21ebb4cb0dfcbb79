use Rattle.cmd_entries.proofs.OneWordLaws.{if_name}
use Rattle.cmd_entries.proofs.one_word.file_of.Goals as goal

pub returns : goal.returns
returns c = if_name 4 c.args.word.now c.parse.result c.parse.ensures
