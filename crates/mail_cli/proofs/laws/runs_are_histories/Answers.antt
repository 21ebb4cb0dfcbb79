use Rattle.mail_cli.proofs.Histories.{migrated_continues, runs_continue, stopped_continues, untouched_continues}
use Rattle.mail_cli.proofs.laws.runs_are_histories.Goals as goal

pub returns-clause-runs : goal.returns-clause-runs
returns-clause-runs c = runs_continue

pub returns-clause-stopped : goal.returns-clause-stopped
returns-clause-stopped c = stopped_continues

pub returns-clause-from_migrated : goal.returns-clause-from_migrated
returns-clause-from_migrated c = migrated_continues

pub returns-clause-untouched : goal.returns-clause-untouched
returns-clause-untouched c = untouched_continues
