use Rattle.long_names.proofs.Back.{back_capitals}
use Rattle.long_names.proofs.laws.plain_of_capitals.Goals as goal

pub returns : goal.returns
returns c = back_capitals
