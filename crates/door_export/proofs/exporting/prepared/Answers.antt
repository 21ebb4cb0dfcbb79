use Rattle.std.proofs.Common.{rules, ◌≡◌, None, Ok, sym, ap, ◌∙◌}
use Rattle.std.specs.Prelude.{IsFalse}
use Rattle.board_layout.proofs.OneOutline.{alike_user}
use Rattle.board_layout.specs.Board.{Board}
use Rattle.board_ledger.specs.declared.user.User.{User}
use Rattle.mail_board.proofs.OneHost.{alike_held}
use Rattle.door_export.proofs.ExportAlike.{id_alike, packet_alike}
use Rattle.door_export.proofs.ExportLaws.{export_found}
use Rattle.door_export.specs.Export.{packet_to, handed_unless_refused, user_refusal}
use Rattle.door_export.proofs.exporting.prepared.Goals as goal

pub returns-clause-packet : goal.returns-clause-packet
returns-clause-packet g c = λ tells b holds.
    let held : Board = c.args.board.now.board in
    let id = c.in-Some.reader.id in
    let u : User = c.in-Some.reader.user.now in
    let certain : IsFalse c.args.board.now.doubtful = search rules in
    let none : user_refusal c.args.limit u ≡ None = search rules in
    let alike = alike_held held (g.H.Host.disk c.args.host.now) (c.requires.rests tells certain) b holds in
    let made = c.in_ok-packet_for.ensures.prepared in
    ap Ok (packet_alike b held alike id c.args.limit c.args.now u c.in_ok-packet_for.field-0 made.change made.controls (c.in_ok-packet_for.ensures.messages tells b holds) made.exported)
    ∙ sym (export_found c.args.name.now c.args.limit c.args.now b id u (id_alike b held alike c.args.name.now ∙ c.in-Some.ensures.id) (alike_user b held alike id ∙ c.in-Some.ensures.user)
    ∙ ap (handed_unless_refused (packet_to c.args.limit c.args.now b id u)) none)
