use Rattle.std.proofs.Common.{sym, ap, subst}
use Rattle.door_outside.specs.Shelf.{ShelfFiles}
use Rattle.cmd_packets.specs.Packets.{FolderOf}
use Rattle.cmd_packets.specs.declared.folder.Packet.{Packet}
use Rattle.qwk_blocks.specs.declared.message.QwkMessage.{QwkMessage}
use Rattle.shelf_files.specs.Halts.{Comes}
use Rattle.shelf_files.specs.declared.refusal.Refusal.TheVariants.{NoMessage}
use Rattle.cmd_replies.specs.Reply.{MessageIn, AnswerMakes}
use Rattle.cmd_replies.specs.Steps.{Then, or_refused}
use Rattle.cmd_replies.proofs.Clean.{answered_clean}
use Rattle.cmd_replies.proofs.Steps.{comes_next}
use Rattle.cmd_replies.proofs.replying.made_reply.Goals as goal

pub answer-requires-clause-clean : goal.answer-requires-clause-clean
answer-requires-clause-clean g c = answered_clean c.in_ok-packet.packet.messages c.args.place c.in-Some.answered.now c.in_ok-packet.ensures.read.messages (sym c.in-Some.ensures)

pub returns-in-Some-clause-made : goal.returns-in-Some-clause-made
returns-in-Some-clause-made g c tells =
    let old = g.S.Shelf.files c.args.shelf.now in
    let makes = λ (packet : Packet) (answered : QwkMessage). AnswerMakes packet.control answered c.args.text.now c.args.rep.now c.args.now old in
    let packet = c.in_ok-packet.packet in
    comes_next (FolderOf old c.args.folder.now) (λ (packet : Packet). Then (MessageIn packet.messages c.args.place) (makes packet)) packet c.answer.result (c.in_ok-packet.ensures.packet tells)
    (comes_next (MessageIn packet.messages c.args.place) (makes packet) c.in-Some.answered.now c.answer.result (ap (or_refused NoMessage) c.in-Some.ensures)
    (subst (λ (files : ShelfFiles). Comes c.answer.result (AnswerMakes packet.control c.in-Some.answered.now c.args.text.now c.args.rep.now c.args.now files)) (c.in_ok-packet.ensures.unchanged tells) (c.answer.ensures.made tells)))
