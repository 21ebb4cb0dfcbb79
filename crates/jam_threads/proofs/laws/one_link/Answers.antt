use Rattle.jam_threads.proofs.ChangeLemmas.{is_change}
use Rattle.jam_threads.proofs.laws.one_link.Goals as goal

pub returns : goal.returns
returns c = is_change
