use Rattle.packet_verdicts.proofs.Fitting.{board_stays, room_is_left}
use Rattle.packet_verdicts.proofs.laws.drafts_fit.Goals as goal

pub returns-clause-room : goal.returns-clause-room
returns-clause-room c = room_is_left

pub returns-clause-board : goal.returns-clause-board
returns-clause-board c = board_stays
