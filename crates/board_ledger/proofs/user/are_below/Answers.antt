use Rattle.board_ledger.proofs.UserTests.{all_below, none_past}
use Rattle.board_ledger.proofs.user.are_below.Goals as goal

pub returns-then-count-eq64 : goal.returns-then-count-eq64
returns-then-count-eq64 c = all_below c.args.members c.args.count c.ranges.members.fits c.if-count-eq64.true

pub returns : goal.returns
returns c = none_past c.args.members c.args.count
