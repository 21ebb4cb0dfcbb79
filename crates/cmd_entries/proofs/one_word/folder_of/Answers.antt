use Rattle.cmd_entries.proofs.OneWordLaws.{if_name}
use Rattle.cmd_entries.proofs.one_word.folder_of.Goals as goal

pub returns : goal.returns
returns c = if_name 3 c.args.word.now c.short_name.result c.short_name.ensures
