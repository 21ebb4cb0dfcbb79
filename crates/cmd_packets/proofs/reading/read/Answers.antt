use Rattle.std.proofs.Common.{◌≡◌, List, ℕ, Ok, Err, refl}
use Rattle.std.proofs.lemmas.Result.{err_from_is_err_and}
use Rattle.offline_reader.specs.Listing.{folder_listing}
use Rattle.shelf_files.proofs.Replies.{refused_on, serves_look}
use Rattle.shelf_files.specs.Halts.{done, replied}
use Rattle.cmd_packets.specs.Packets.{FolderOf}
use Rattle.cmd_packets.specs.Read.{ReadAnswers}
use Rattle.cmd_packets.proofs.PacketAnswers.{comes_on}
use Rattle.cmd_packets.proofs.reading.read.Goals as goal

pub returns-clause-serves : goal.returns-clause-serves
returns-clause-serves g c tells =
    let shelf = g.S.Shelf.files c.args.shelf.now in
    let packet = c.in_ok-packet.packet in
    serves_look (ReadAnswers c.args.folder.now) (λ (text : List ℕ). text) shelf _ (c.in_ok-packet.ensures.unchanged tells) c.listed.result
    (comes_on (λ read. replied (λ (text : List ℕ). text) read ≡ done (folder_listing packet.control packet.messages)) (λ read. ReadAnswers c.args.folder.now shelf (replied (λ (text : List ℕ). text) read))
    (λ read is. (Ok packet, c.in_ok-packet.ensures.packet tells, is)) c.listed.result c.listed.ensures.text)

pub returns-in_err-packet-clause-serves : goal.returns-in_err-packet-clause-serves
returns-in_err-packet-clause-serves g c tells =
    let shelf = g.S.Shelf.files c.args.shelf.now in
    let p = err_from_is_err_and c.from_residual.result c.from_residual.ensures.1 in
    rw (p.1, p.2) (serves_look (ReadAnswers c.args.folder.now) (λ (text : List ℕ). text) shelf _ (c.in_err-packet.ensures.unchanged tells) (Err c.in_err-packet.field-0.0)
    (refused_on (FolderOf shelf c.args.folder.now) (λ read. ReadAnswers c.args.folder.now shelf (replied (λ (text : List ℕ). text) read)) (λ why packet. (Err why, packet, refl)) c.in_err-packet.field-0.0 (c.in_err-packet.ensures.packet tells)))
