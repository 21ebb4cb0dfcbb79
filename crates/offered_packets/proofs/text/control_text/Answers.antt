use Rattle.std.proofs.Common.{◌≡◌}
use Rattle.std.specs.Prelude.{Some, option_map}
use Rattle.std.proofs.lemmas.Result.{IfOk-weaker}
use Rattle.qwk_control.specs.Written.{control_text}
use Rattle.offered_packets.specs.Control.{control}
use Rattle.board_layout.specs.Lookups.{user_of}
use Rattle.offered_packets.proofs.Controls.{text_of_made}
use Rattle.offered_packets.proofs.text.control_text.Goals as goal

pub returns : goal.returns
returns c =
    let b = c.args.board.now in
    IfOk-weaker c.write_control.result (λ text. text ≡ control_text c.in_ok-control.control)
    (λ text. Some text ≡ option_map (λ u. control_text (control b u c.args.count c.args.now)) (user_of c.args.user b))
    (λ text is. text_of_made (λ u. control b u c.args.count c.args.now) (user_of c.args.user b) c.in_ok-control.control text c.in_ok-control.ensures.control is) c.write_control.ensures
