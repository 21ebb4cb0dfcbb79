use Rattle.long_names.proofs.Back.{back}
use Rattle.long_names.proofs.laws.plain_of_long.Goals as goal

pub returns : goal.returns
returns c = back
