use Rattle.std.proofs.Common.{Err, sym, ap}
use Rattle.offline_reader.specs.Letter.{message_in}
use Rattle.cmd_packets.specs.Read.{shown_reply}
use Rattle.cmd_packets.proofs.PacketAnswers.{shown_text}
use Rattle.cmd_packets.proofs.reading.message_shown.Goals as goal

pub returns-in-Ok-clause-text : goal.returns-in-Ok-clause-text
returns-in-Ok-clause-text c = shown_text (message_in c.args.messages.now c.args.place) c.in-Ok.text c.in-Ok.ensures.text

pub returns-in-Err-NoMessage-clause-text : goal.returns-in-Err-NoMessage-clause-text
returns-in-Err-NoMessage-clause-text c = ap shown_reply (sym (c.in-Err-NoMessage.ensures.no_message.0 (ap Err c.in-Err-NoMessage.field-0-is)))
