use Rattle.std.proofs.Common.{rules, ◌≡◌, None, Some, Err, ◌∙◌}
use Rattle.board_layout.specs.Board.{Board}
use Rattle.door_upload.proofs.FoundAlike.{found_alike}
use Rattle.door_upload.proofs.PacketReading.{named_user, packet_found, unknown, unread}
use Rattle.door_upload.proofs.PacketSizes.{few_messages}
use Rattle.door_upload.proofs.UploadAlike.{id_alike}
use Rattle.door_upload.specs.Uploading.{of_rep}
use Rattle.mail_board.specs.Held.{HeldBoard}
use Rattle.mail_board.specs.Readers.{user_id}
use Rattle.door_upload.proofs.preparing.prepared.Goals as goal

pub returns-in_default-clause-finds : goal.returns-in_default-clause-finds
returns-in_default-clause-finds c = unknown c.args.name.now c.args.bytes.now c.args.now c.args.board.now (search rules)

pub returns-in_err-packet-clause-finds : goal.returns-in_err-packet-clause-finds
returns-in_err-packet-clause-finds c =
    let here : user_id c.args.name.now c.args.board.now.board ≡ Some c.in-Some.user = search rules in
    let is : c.from_residual.result ≡ Err (of_rep c.in_err-packet.field-0.0) = search rules in
    unread c.args.name.now c.args.bytes.now c.args.now c.args.board.now c.in-Some.user here c.in_err-packet.field-0.0 c.from_residual.result is
    (λ fault e. c.read_rep.ensures.fault fault (c.in_err-packet.was ∙ (λ i. Err (e i))))
    (λ e. c.read_rep.ensures.no_board (c.in_err-packet.was ∙ (λ i. Err (e i))))

pub returns-clause-finds : goal.returns-clause-finds
returns-clause-finds c =
    let here : user_id c.args.name.now c.args.board.now.board ≡ Some c.in-Some.user = search rules in
    packet_found c.args.name.now c.args.bytes.now c.args.now c.args.board.now c.in-Some.user here c.in_ok-packet.packet c.digest-digest.result c.prepared_for.result c.in_ok-packet.ensures.ok c.digest-digest.ensures c.prepared_for.ensures.finds

-- ---- on each board with the outline
pub returns-in_default-clause-each : goal.returns-in_default-clause-each
returns-in_default-clause-each c = λ b ok alike.
    let held : Board = c.args.board.now.board in
    let nobody : user_id c.args.name.now held ≡ None = search rules in
    unknown c.args.name.now c.args.bytes.now c.args.now (record { board = b; doubtful = c.args.board.now.doubtful }) (id_alike b held alike c.args.name.now ∙ nobody)

pub returns-in_err-packet-clause-each : goal.returns-in_err-packet-clause-each
returns-in_err-packet-clause-each c = λ b ok alike.
    let held : Board = c.args.board.now.board in
    let here : user_id c.args.name.now held ≡ Some c.in-Some.user = search rules in
    let is : c.from_residual.result ≡ Err (of_rep c.in_err-packet.field-0.0) = search rules in
    unread c.args.name.now c.args.bytes.now c.args.now (record { board = b; doubtful = c.args.board.now.doubtful }) c.in-Some.user (id_alike b held alike c.args.name.now ∙ here) c.in_err-packet.field-0.0 c.from_residual.result is
    (λ fault e. c.read_rep.ensures.fault fault (c.in_err-packet.was ∙ (λ i. Err (e i))))
    (λ e. c.read_rep.ensures.no_board (c.in_err-packet.was ∙ (λ i. Err (e i))))

pub prepared_for-requires-clause-user : goal.prepared_for-requires-clause-user
prepared_for-requires-clause-user c = named_user c.args.name.now c.args.board.now.board c.in-Some.user (search rules)

pub prepared_for-requires-clause-few : goal.prepared_for-requires-clause-few
prepared_for-requires-clause-few c = few_messages c.args.bytes.now c.in_ok-packet.packet c.requires c.in_ok-packet.ensures.ok

pub returns-clause-each : goal.returns-clause-each
returns-clause-each c = λ b ok alike.
    let h : HeldBoard = c.args.board.now in
    let here : user_id c.args.name.now h.board ≡ Some c.in-Some.user = search rules in
    packet_found c.args.name.now c.args.bytes.now c.args.now (record { board = b; doubtful = h.doubtful }) c.in-Some.user (id_alike b h.board alike c.args.name.now ∙ here) c.in_ok-packet.packet c.digest-digest.result c.prepared_for.result c.in_ok-packet.ensures.ok c.digest-digest.ensures
    (found_alike h b ok alike c.in-Some.user c.digest-digest.result c.args.now c.in_ok-packet.packet c.prepared_for.result c.prepared_for.ensures.judged c.prepared_for.ensures.finds)
