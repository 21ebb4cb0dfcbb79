use Rattle.std.proofs.Common.{rules}
use Rattle.qwk_blocks.proofs.Sizes.{messages_fit}
use Rattle.test_qwk.proofs.tests.blocks.write.Goals as goal

pub write_messages-requires-clause-size : goal.write_messages-requires-clause-size
write_messages-requires-clause-size c = messages_fit c.args.notice.now c.args.messages.now (search rules) (search rules) (search rules)
