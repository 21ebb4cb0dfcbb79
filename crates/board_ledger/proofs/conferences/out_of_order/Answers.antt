use Rattle.board_ledger.proofs.ConferenceTests.{order_by_last}
use Rattle.board_ledger.proofs.conferences.out_of_order.Goals as goal

pub returns-in-len1-up : goal.returns-in-len1-up
returns-in-len1-up c = order_by_last c.args.before.now c.last-item.result c.args.number (c.in-len1-up.len_at_least) c.last-item.is
