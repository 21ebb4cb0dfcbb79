use Rattle.mail_cli.proofs.SomeOutcomes as SomeOutcomes
use Rattle.mail_cli.proofs.laws.some_outcome.Goals as goal

pub returns : goal.returns
returns c = SomeOutcomes.some_outcome
