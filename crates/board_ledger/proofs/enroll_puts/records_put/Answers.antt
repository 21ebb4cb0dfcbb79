use Rattle.std.proofs.Common.{arith}
use Rattle.board_ledger.proofs.VersionLaws.{as_today}
use Rattle.board_ledger.proofs.enroll_puts.records_put.Goals as goal

pub overflow_cast-at : goal.overflow_cast-at
overflow_cast-at c = omega (arith, c.user_place-at.ensures.small, c.requires.ledger.few_users)

pub user_place-at-requires-clause-ledger : goal.user_place-at-requires-clause-ledger
user_place-at-requires-clause-ledger c = as_today c.args.ledger.now c.requires.ledger
