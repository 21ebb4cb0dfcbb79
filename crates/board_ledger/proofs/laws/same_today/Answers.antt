use Rattle.board_ledger.proofs.VersionLaws.{stored_written, text_today, today_valid}
use Rattle.board_ledger.proofs.laws.same_today.Goals as goal

pub returns-clause-valid : goal.returns-clause-valid
returns-clause-valid c = today_valid

pub returns-clause-text : goal.returns-clause-text
returns-clause-text c = text_today

pub returns-clause-written : goal.returns-clause-written
returns-clause-written c = stored_written
