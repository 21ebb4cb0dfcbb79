use Rattle.std.proofs.Common.{◌∙◌, subst}
use Rattle.cmd_board.specs.State.{State, Stores}
use Rattle.entry_runs.proofs.Migrations.{before_itself}
use Rattle.mail_cli.proofs.EntryLaws as EntryLaws
use Rattle.mail_cli.proofs.Histories.{all_migrated}
use Rattle.mail_cli.specs.Step.{act}
use Rattle.mail_cli.proofs.laws.today_stays.Goals as goal

pub returns-clause-stopped : goal.returns-clause-stopped
returns-clause-stopped c now entry state files same before = before_itself Stores (act now entry) state files (λ on. EntryLaws.one_migration now entry state on ∙ same) before

pub returns-clause-held : goal.returns-clause-held
returns-clause-held c now outcome left files same it = subst (λ (s : State). Stores s files) (EntryLaws.one_migration now it.next outcome.world.state it.touched ∙ same) it.stores

pub returns-clause-stays : goal.returns-clause-stays
returns-clause-stays c = all_migrated
