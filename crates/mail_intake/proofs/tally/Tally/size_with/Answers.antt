use Rattle.std.proofs.Common.{◌≡◌, ℕ, ◌+◌, List, length, sym, ap, ◌∙◌, arith}
use Rattle.board_layout.specs.Board.{Board}
use Rattle.jam_records.specs.declared.message.Message.{Message}
use Rattle.mail_intake.proofs.TallyLaws.{count_there, msgid_is, size_more}
use Rattle.packet_verdicts.specs.Views.{next_number}
use Rattle.post_changes.specs.Posted.{spread}
use Rattle.post_changes.specs.slot_changes.Msgids.{msgid_in}
use Rattle.mail_intake.proofs.tally.Tally.size_with.Goals as goal

pub returns-clause-size : goal.returns-clause-size
returns-clause-size c =
    let b : Board = c.args.board.now in
    let place : ℕ = c.args.place in
    let posts : List (ℕ × Message) = c.args.self.now.posts in
    let number : ℕ = next_number (spread posts b) place in
    let counted = count_there b c.args.self.now place c.from.result c.index.result.now c.requires.tally c.requires.place c.from.ensures c.index.ensures in
    let next : c.from-number.result + 1 ≡ number = omega (arith, c.from-number.ensures, counted) in
    let id = msgid_is b place c.conference_of.result.now c.as_slice-bbsid.result.now c.ledger.result.now (c.from-number.result + 1) number c.conference_of.ensures (c.as_slice-bbsid.ensures.same ∙ c.bbsid.ensures) c.ledger.ensures.ledger next in
    let taken = c.message_size.ensures (msgid_in place b number) (sym (c.generated_len-generated.ensures ∙ ap (length {A = ℕ}) id)) in
    c.saturating_add.ensures ∙ size_more b posts place c.args.message.now c.args.self.now.size c.message_size.result 18446744073709551615 c.ledger.ensures.board c.requires.place c.requires.tally.size taken
