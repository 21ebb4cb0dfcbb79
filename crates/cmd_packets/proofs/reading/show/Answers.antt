use Rattle.std.proofs.Common.{◌≡◌, List, ℕ, Ok, Err, refl}
use Rattle.std.proofs.lemmas.Result.{err_from_is_err_and}
use Rattle.offline_reader.specs.Letter.{message_in}
use Rattle.shelf_files.proofs.Replies.{refused_on, serves_look}
use Rattle.shelf_files.specs.Halts.{replied}
use Rattle.cmd_packets.specs.Packets.{FolderOf}
use Rattle.cmd_packets.specs.Read.{ShowAnswers, shown_reply}
use Rattle.cmd_packets.proofs.PacketAnswers.{comes_on}
use Rattle.cmd_packets.proofs.reading.show.Goals as goal

pub returns-clause-serves : goal.returns-clause-serves
returns-clause-serves g c tells =
    let shelf = g.S.Shelf.files c.args.shelf.now in
    let packet = c.in_ok-packet.packet in
    serves_look (ShowAnswers c.args.folder.now c.args.place) (λ (text : List ℕ). text) shelf _ (c.in_ok-packet.ensures.unchanged tells) c.message_shown.result
    (comes_on (λ read. replied (λ (text : List ℕ). text) read ≡ shown_reply (message_in packet.messages c.args.place)) (λ read. ShowAnswers c.args.folder.now c.args.place shelf (replied (λ (text : List ℕ). text) read))
    (λ read is. (Ok packet, c.in_ok-packet.ensures.packet tells, is)) c.message_shown.result c.message_shown.ensures.text)

pub returns-in_err-packet-clause-serves : goal.returns-in_err-packet-clause-serves
returns-in_err-packet-clause-serves g c tells =
    let shelf = g.S.Shelf.files c.args.shelf.now in
    let p = err_from_is_err_and c.from_residual.result c.from_residual.ensures.1 in
    rw (p.1, p.2) (serves_look (ShowAnswers c.args.folder.now c.args.place) (λ (text : List ℕ). text) shelf _ (c.in_err-packet.ensures.unchanged tells) (Err c.in_err-packet.field-0.0)
    (refused_on (FolderOf shelf c.args.folder.now) (λ read. ShowAnswers c.args.folder.now c.args.place shelf (replied (λ (text : List ℕ). text) read)) (λ why packet. (Err why, packet, refl)) c.in_err-packet.field-0.0 (c.in_err-packet.ensures.packet tells)))
