use Rattle.mail_cli.proofs.EntryLaws as EntryLaws
use Rattle.mail_cli.proofs.laws.one_outcome.Goals as goal

pub returns : goal.returns
returns c now world entry a b first second = (EntryLaws.lawful now entry).one_outcome world a b first second
