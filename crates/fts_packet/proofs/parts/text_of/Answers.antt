use Rattle.fts_packet.proofs.Nuls.{text_without}
use Rattle.fts_packet.proofs.parts.text_of.Goals as goal

pub returns-in-None : goal.returns-in-None
returns-in-None c = text_without c.args.bytes.now c.in-None.ensures
