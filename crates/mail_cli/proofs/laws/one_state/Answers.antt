use Rattle.cmd_board.proofs.StateLaws.{one_state, some_state}
use Rattle.mail_cli.proofs.laws.one_state.Goals as goal

pub returns-clause-some : goal.returns-clause-some
returns-clause-some c = some_state

pub returns-clause-one : goal.returns-clause-one
returns-clause-one c = one_state
