use Rattle.mail_cli.proofs.EntryLaws as EntryLaws
use Rattle.mail_cli.proofs.laws.lawful_entries.Goals as goal

pub returns : goal.returns
returns c = EntryLaws.lawful
