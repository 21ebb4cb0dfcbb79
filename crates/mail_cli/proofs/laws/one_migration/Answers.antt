use Rattle.mail_cli.proofs.EntryLaws as EntryLaws
use Rattle.mail_cli.proofs.laws.one_migration.Goals as goal

pub returns : goal.returns
returns c now entry state on = EntryLaws.one_migration now entry state on
