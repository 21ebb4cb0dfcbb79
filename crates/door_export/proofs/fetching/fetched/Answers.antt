use Rattle.std.proofs.Common.{◌≡◌, Some, sym, ap, ◌∙◌, subst}
use Rattle.std.specs.Prelude.{option_map}
use Rattle.board_layout.specs.Board.{Board}
use Rattle.board_layout.specs.Outlines.{board_outline}
use Rattle.board_layout.specs.Lookups.{message_at}
use Rattle.jam_layout.specs.Outlines.{message_outline}
use Rattle.mail_board.proofs.OneHost.{alike_held}
use Rattle.offered_packets.specs.Shown.{shown_message}
use Rattle.door_export.proofs.FetchLaws.{outline_there, shown_alike, shown_nowhere, shown_there}
use Rattle.door_export.proofs.fetching.fetched.Goals as goal

pub shown-requires : goal.shown-requires
shown-requires g c =
    subst (λ (stored : Board). message_at (board_outline stored) c.args.message.place c.args.message.number ≡ Some (message_outline c.in-Some.found)) (sym c.stored-stored.ensures.board)
    (outline_there c.args.board.now.board c.args.message.place c.args.message.number c.in-Some.found
    (ap (option_map message_outline) (sym c.in-Some.is) ∙ c.in_ok-found.ensures.outline))

pub returns-in_ok-shown-in-Some-clause-shown : goal.returns-in_ok-shown-in-Some-clause-shown
returns-in_ok-shown-in-Some-clause-shown g c tells b holds =
    let held : Board = c.args.board.now.board in
    let place = c.args.message.place in
    let number = c.args.message.number in
    let alike = sym (alike_held held (g.H.Host.disk c.args.host.now) (c.requires.rests tells) b holds) in
    shown_there b place number c.args.logical c.in-Some.found c.in_ok-shown-in-Some.field-0 (sym c.in-Some.is ∙ c.in_ok-found.ensures.message tells b holds)
    (c.in_ok-shown-in-Some.ensures.shown ∙ (ap (λ (stored : Board). shown_message stored place number c.args.logical c.in-Some.found) c.stored-stored.ensures.board ∙ shown_alike held b alike place number c.args.logical c.in-Some.found))

pub returns-in-None-clause-shown : goal.returns-in-None-clause-shown
returns-in-None-clause-shown g c tells b holds =
    shown_nowhere b c.args.message.place c.args.message.number c.args.logical (sym c.in-None.is ∙ c.in_ok-found.ensures.message tells b holds)
