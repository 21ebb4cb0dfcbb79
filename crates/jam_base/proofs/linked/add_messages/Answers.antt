use Rattle.jam_base.proofs.LinkLoop.{few_slots}
use Rattle.jam_base.proofs.linked.add_messages.Goals as goal

pub add_message-requires-clause-few : goal.add_message-requires-clause-few
add_message-requires-clause-few c =
    few_slots c.args.place c.args.slots.now c.args.messages.now c.loop-message.message-index c.loop-message.threads c.loop-message.patches c.loop-message.invariant c.loop-message-test.true c.requires.few
