use Rattle.std.proofs.Common.{◌≡◌, ℕ, ◌+◌, List, length, sym, ap, ◌∙◌, arith}
use Rattle.std.proofs.lemmas.Result.{on_ok_weaker}
use Rattle.board_layout.specs.Board.{Board}
use Rattle.jam_records.specs.declared.message.Message.{Message}
use Rattle.mail_intake.proofs.TallyLaws.{count_there}
use Rattle.board_layout.specs.Lookups.{slots_in}
use Rattle.board_layout.proofs.BoardLookups.{few_in_place}
use Rattle.mail_intake.specs.packet_verdicts.Views.{next_number}
use Rattle.post_changes.specs.Posted.{spread}
use Rattle.post_changes.specs.slot_changes.Msgids.{msgid_in}
use Rattle.cmd_toss.proofs.StepLaws.{other_is, own_is}
use Rattle.cmd_toss.proofs.tossed.Tossed.see.Goals as goal

pub returns-then-not-is_empty-clause-seen : goal.returns-then-not-is_empty-clause-seen
returns-then-not-is_empty-clause-seen c =
    let b : Board = c.args.board.now in
    let posts : List (ℕ × Message) = c.args.self.now.tally.posts in
    let m : Message = c.args.message.now in
    on_ok_weaker c.add.result
    (λ added. added b posts m c.requires.board c.requires.there c.requires.seen (own_is c.as_slice-own.result.now m.msgid (msgid_in c.args.place b (next_number (spread posts b) c.args.place)) c.as_slice-own.ensures.same (sym c.is_empty.ensures ∙ c.if-not-is_empty.true)))
    c.add.ensures

pub overflow_add-number : goal.overflow_add-number
overflow_add-number c =
    let b : Board = c.args.board.now in
    let posts : List (ℕ × Message) = c.args.self.now.tally.posts in
    omega (arith, count_there b c.args.self.now.tally c.args.place c.from.result c.index.result.now c.requires.tally c.requires.there c.from.ensures c.index.ensures, few_in_place (spread posts b) c.args.place c.requires.tally.board)

pub returns-clause-seen : goal.returns-clause-seen
returns-clause-seen c =
    let b : Board = c.args.board.now in
    let posts : List (ℕ × Message) = c.args.self.now.tally.posts in
    let m : Message = c.args.message.now in
    let counted : c.index.result.now ≡ length (slots_in (spread posts b) c.args.place)
    = count_there b c.args.self.now.tally c.args.place c.from.result c.index.result.now c.requires.tally c.requires.there c.from.ensures c.index.ensures in
    let made : c.as_slice.result.now ≡ msgid_in c.args.place b (next_number (spread posts b) c.args.place)
    = c.as_slice.ensures.same ∙ (c.in_ok-generated.ensures ∙ ap (λ (n : ℕ). msgid_in c.args.place b (n + 1)) counted) in
    on_ok_weaker c.add-2.result
    (λ added. added b posts m c.requires.board c.requires.there c.requires.seen
    (other_is c.as_slice-own.result.now m.msgid c.as_slice.result.now (msgid_in c.args.place b (next_number (spread posts b) c.args.place)) c.as_slice-own.ensures.same (sym c.is_empty.ensures ∙ c.if-not-is_empty.false) made))
    c.add-2.ensures
