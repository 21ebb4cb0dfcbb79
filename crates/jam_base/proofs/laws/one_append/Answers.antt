use Rattle.jam_base.proofs.AppendLaws.{appended_one}
use Rattle.jam_base.proofs.laws.one_append.Goals as goal

pub returns : goal.returns
returns c = appended_one
