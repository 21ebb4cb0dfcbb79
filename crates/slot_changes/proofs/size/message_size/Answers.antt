use Rattle.std.proofs.Common.{sym, arith}
use Rattle.slot_changes.specs.Msgids.{identified}
use Rattle.slot_changes.proofs.size.message_size.Goals as goal

pub returns : goal.returns
returns c = λ msgid same. omega (arith, c.min.ensures, c.from.ensures, c.message_size-size.ensures (identified msgid c.args.message.now).msgid (sym (c.msgid_len.ensures msgid same)))
