use Rattle.std.proofs.Common.{rules, ◌≡◌, true, Some, sym, ◌∙◌}
use Rattle.board_layout.specs.Board.{Board}
use Rattle.mail_board.specs.Readers.{is_offered, user_id}
use Rattle.door_export.proofs.AckLaws.{ack_fits, ack_found, is_open}
use Rattle.door_export.proofs.ExportAlike.{id_alike, open_alike}
use Rattle.door_export.proofs.acknowledging.prepared.Goals as goal

pub returns-clause-fits : goal.returns-clause-fits
returns-clause-fits c =
    let offer : is_offered c.in-Some.reader.id c.args.packet c.args.board.now.board ≡ true = search rules in
    ack_fits c.args.board.now.board c.in-Some.reader.id c.args.packet c.args.now c.in-Some.reader.user.now c.ranges.now.fits c.reader_of.ensures.board c.in-Some.ensures.user offer

pub returns-clause-board : goal.returns-clause-board
returns-clause-board c = λ b alike.
    let held : Board = c.args.board.now.board in
    let offer : is_offered c.in-Some.reader.id c.args.packet held ≡ true = search rules in
    let id : user_id c.args.name.now b ≡ Some c.in-Some.reader.id = id_alike b held alike c.args.name.now ∙ c.in-Some.ensures.id in
    sym (ack_found c.args.name.now c.args.packet c.args.now b c.in-Some.reader.id id ∙ is_open c.args.packet c.args.now b c.in-Some.reader.id (open_alike b held alike c.args.packet c.args.now c.in-Some.reader.id ∙ offer))
