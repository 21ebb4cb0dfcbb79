use Rattle.slot_changes.proofs.ValueLaws.{right_holds}
use Rattle.slot_changes.proofs.value.may_hold.Goals as goal

pub returns : goal.returns
returns c = right_holds c.args.kind c.args.message.now c.is_right.result c.is_right.ensures.typed c.is_right.ensures.right
