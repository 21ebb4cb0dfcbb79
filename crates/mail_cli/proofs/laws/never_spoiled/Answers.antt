use Rattle.mail_cli.proofs.Passages as Passages
use Rattle.mail_cli.proofs.laws.never_spoiled.Goals as goal

pub returns : goal.returns
returns c = Passages.never_spoiled
