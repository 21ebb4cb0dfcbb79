use Rattle.jam_adopt.proofs.Trims.{trimmed_front}
use Rattle.jam_adopt.proofs.values.front.Goals as goal

pub returns : goal.returns
returns c = trimmed_front c.args.most c.min.result c.args.value.now c.trimmed_end.result.now c.min.ensures c.trimmed_end.ensures
