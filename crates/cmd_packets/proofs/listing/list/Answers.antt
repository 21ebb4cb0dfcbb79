use Rattle.std.proofs.Common.{List, ℕ, Ok, Err, refl, ap}
use Rattle.std.proofs.lemmas.Result.{err_from_is_err_and}
use Rattle.shelf_files.proofs.Replies.{refused_on, serves_look}
use Rattle.shelf_files.specs.Halts.{done, replied}
use Rattle.cmd_packets.specs.List.{ListAnswers}
use Rattle.cmd_packets.specs.Packets.{PacketOf}
use Rattle.cmd_packets.proofs.listing.list.Goals as goal

pub returns-clause-serves : goal.returns-clause-serves
returns-clause-serves g c tells =
    serves_look (ListAnswers c.args.file.now) (λ (text : List ℕ). text) (g.S.Shelf.files c.args.shelf.now) _ (c.in_ok-messages.ensures.unchanged tells) (Ok c.in_ok-list_packet.field-0)
    (Ok c.in_ok-messages.messages, c.in_ok-messages.ensures.packet tells, ap done c.in_ok-list_packet.ensures)

pub returns-in_err-messages-clause-serves : goal.returns-in_err-messages-clause-serves
returns-in_err-messages-clause-serves g c tells =
    let shelf = g.S.Shelf.files c.args.shelf.now in
    let p = err_from_is_err_and c.from_residual.result c.from_residual.ensures.1 in
    rw (p.1, p.2) (serves_look (ListAnswers c.args.file.now) (λ (text : List ℕ). text) shelf _ (c.in_err-messages.ensures.unchanged tells) (Err c.in_err-messages.field-0.0)
    (refused_on (PacketOf shelf c.args.file.now) (λ read. ListAnswers c.args.file.now shelf (replied (λ (text : List ℕ). text) read)) (λ why packet. (Err why, packet, refl)) c.in_err-messages.field-0.0 (c.in_err-messages.ensures.packet tells)))
