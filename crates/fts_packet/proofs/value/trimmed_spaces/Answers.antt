use Rattle.setup_file.proofs.Spaces.{trim_is}
use Rattle.fts_packet.proofs.value.trimmed_spaces.Goals as goal

pub returns : goal.returns
returns c = trim_is c.args.text.now c.trimmed.result.now c.trimmed.ensures
