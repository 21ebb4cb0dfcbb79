use Rattle.std.proofs.Common.{◌≡◌, ◌+◌, length, ap, ◌∙◌}
use Rattle.board_layout.specs.Board.{Board}
use Rattle.board_ledger.specs.declared.ledger.Ledger.{Ledger}
use Rattle.cmd_messages.proofs.DrawLaws.{draws_are, numbers_behind}
use Rattle.setup_file.specs.declared.fields.SetupFields.{SetupFields}
use Rattle.cmd_messages.proofs.draws.Numbers.draws.Goals as goal

pub returns-clause-draws : goal.returns-clause-draws
returns-clause-draws c seed behind is =
    let b : Board = c.args.board.now in
    let conferences : c.len-conferences.result ≡ length b.ledger.setup.conferences = c.len-conferences.ensures ∙ ap (λ (s : SetupFields). length s.conferences) c.fields.ensures.fields ∙ ap (λ (l : Ledger). length l.setup.conferences) c.ledger-ledger.ensures.ledger in
    let users : c.len-users.result ≡ length b.ledger.users = c.len-users.ensures ∙ ap (λ (l : Ledger). length l.users) c.ledger-ledger.ensures.ledger in
    draws_are seed behind c.args.self.now.last c.draw-place.new.self.last c.draw-recipient.new.self.last c.draw-reply.new.self.last c.draw-lines.new.self.last is c.draw-place.ensures.number c.draw-recipient.ensures.number c.draw-reply.ensures.number
    c.draw-lines.ensures.number b c.len-conferences.result (c.len-users.result + 1) c.draw-place.result c.draw-recipient.result c.draw-reply.result (c.draw-lines.result + 1) conferences (ap (λ n. n + 1) users) c.draw-place.ensures.draw
    c.draw-recipient.ensures.draw c.draw-reply.ensures.draw (ap (λ n. n + 1) c.draw-lines.ensures.draw)

pub returns-clause-number : goal.returns-clause-number
returns-clause-number c seed behind is =
    numbers_behind seed behind c.args.self.now.last c.draw-place.new.self.last c.draw-recipient.new.self.last c.draw-reply.new.self.last c.draw-lines.new.self.last is c.draw-place.ensures.number c.draw-recipient.ensures.number c.draw-reply.ensures.number
    c.draw-lines.ensures.number
