use Rattle.cmd_messages.proofs.DrawLaws.{one_drawn}
use Rattle.cmd_messages.proofs.laws.one_is_drawn.Goals as goal

pub returns : goal.returns
returns c = one_drawn
