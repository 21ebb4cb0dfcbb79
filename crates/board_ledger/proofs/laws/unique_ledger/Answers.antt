use Rattle.board_ledger.proofs.LedgerBounds.{fit as bytes_fit}
use Rattle.board_ledger.proofs.LedgerLaws.{undamaged, unique}
use Rattle.board_ledger.proofs.laws.unique_ledger.Goals as goal

pub returns-clause-undamaged : goal.returns-clause-undamaged
returns-clause-undamaged c = undamaged

pub returns-clause-unique : goal.returns-clause-unique
returns-clause-unique c = unique

pub returns-clause-fit : goal.returns-clause-fit
returns-clause-fit c = bytes_fit
