use Rattle.std.proofs.Common.{◌∷◌, ap, ◌∙◌, inl, inr, arith}
use Rattle.std.proofs.lemmas.Result.{err_from_is_err_and}
use Rattle.std.specs.Str.Lines.{lines}
use Rattle.qwk_control.specs.Line.{line}
use Rattle.qwk_control.proofs.Kept.{from_first, board_more, packet_more, early_fault, late_fault, lines_read}
use Rattle.qwk_control.proofs.read.control_in.Goals as goal

pub returns-in_err-board : goal.returns-in_err-board
returns-in_err-board c =
    let p = err_from_is_err_and c.from_residual.result c.from_residual.ensures.1 in
    let all = lines c.args.bytes.now in
    rw (p.1, p.2) (inr (early_fault all 5 c.in_err-board.field-0.0 (omega arith) (c.in_err-board.ensures all (from_first all))))

pub returns-in_err-packet : goal.returns-in_err-packet
returns-in_err-packet c =
    let p = err_from_is_err_and c.from_residual-in_err-packet.result c.from_residual-in_err-packet.ensures.1 in
    let all = lines c.args.bytes.now in
    let board = c.in_ok-board.ensures in
    let five = board_more all (lines c.in_ok-board.behind_board.now) _ _ _ _ board.0 _ _ board.1 board.2 in
    rw (p.1, p.2) (inr (early_fault all 11 c.in_err-packet.field-0.0 (omega arith) (c.in_err-packet.ensures all five)))

pub returns-in_err-conferences : goal.returns-in_err-conferences
returns-in_err-conferences c =
    let p = err_from_is_err_and c.from_residual-in_err-conferences.result c.from_residual-in_err-conferences.ensures.1 in
    let all = lines c.args.bytes.now in
    let board = c.in_ok-board.ensures in
    let packet = c.in_ok-packet.ensures in
    let five = board_more all (lines c.in_ok-board.behind_board.now) _ _ _ _ board.0 _ _ board.1 board.2 in
    let eleven = packet_more all (lines c.in_ok-board.behind_board.now) (lines c.in_ok-packet.behind_packet.now) _ _ _ packet.0 packet.1 packet.2 c.in_ok-packet.packet.last five packet.3 packet.5 in
    let whole = board.1 ∙ ap (λ ls. c.in_ok-board.board.name.now ∷ c.in_ok-board.board.city.now ∷ c.in_ok-board.board.phone.now ∷ c.in_ok-board.board.sysop.now ∷ board.0 ∷ ls) packet.3 in
    rw (p.1, p.2) (elim c.in_err-conferences.ensures [
      | inl memory ↦ inl memory
      | inr fault ↦ inr (late_fault all packet.2 c.in_ok-packet.packet.last c.in_err-conferences.field-0.0 (ap (λ ls. line ls 11) whole) packet.5 (fault all eleven))
    ])

pub returns : goal.returns
returns c =
    let board = c.in_ok-board.ensures in
    let packet = c.in_ok-packet.ensures in
    let whole = board.1 ∙ ap (λ ls. c.in_ok-board.board.name.now ∷ c.in_ok-board.board.city.now ∷ c.in_ok-board.board.phone.now ∷ c.in_ok-board.board.sysop.now ∷ board.0 ∷ ls) packet.3 in
    let control = c.in_ok-control_of.ensures in
    lines_read (lines c.args.bytes.now) (lines c.in_ok-packet.behind_packet.now) (lines c.in_ok-conferences.rest.now) _ _ _ _ board.0 _ _ _ _ _ packet.0 packet.1 packet.2 c.in_ok-packet.packet.count c.in_ok-packet.packet.last c.in_ok-conferences.conferences
    c.in_ok-control_of.field-0 whole board.2 packet.4 packet.5 c.in_ok-conferences.ensures.0 c.in_ok-conferences.ensures.1 control.board control.packet control.conferences control.files
