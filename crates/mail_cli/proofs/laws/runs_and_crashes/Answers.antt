use Rattle.mail_cli.proofs.Passages.{keep_promises, none_brought}
use Rattle.mail_cli.proofs.laws.runs_and_crashes.Goals as goal

pub returns-clause-joined : goal.returns-clause-joined
returns-clause-joined c = keep_promises

pub returns-clause-brought : goal.returns-clause-brought
returns-clause-brought c start begins first last runs stores brought = keep_promises start begins first last brought.passages stores brought.joined

pub returns-clause-none : goal.returns-clause-none
returns-clause-none c = none_brought
