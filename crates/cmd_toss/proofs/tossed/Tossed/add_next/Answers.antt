use Rattle.std.proofs.Common.{◌≡◌, ℕ, List, sym, ap, ◌∙◌, subst, arith}
use Rattle.std.proofs.lemmas.Result.{on_ok_weaker}
use Rattle.board_layout.proofs.BoardLookups.{conferences_count}
use Rattle.board_layout.specs.Board.{Board}
use Rattle.board_ledger.specs.declared.ledger.Ledger.{Ledger}
use Rattle.fts_packet.specs.Tossed.{toss_verdict}
use Rattle.fts_packet.specs.declared.toss.TossDraft.TheVariants.{Post}
use Rattle.jam_layout.specs.Messages.{IsTyped}
use Rattle.jam_records.specs.declared.message.Message.{Message}
use Rattle.mail_intake.specs.Tallies.{MayTake}
use Rattle.cmd_toss.proofs.DraftLaws.{draft_taken, posted_place}
use Rattle.cmd_toss.specs.Tossed.{tossed_as}
use Rattle.cmd_toss.proofs.tossed.Tossed.add_next.Goals as goal

pub take-requires-clause-there : goal.take-requires-clause-there
take-requires-clause-there c =
    let b : Board = c.args.board.now in
    let posted : toss_verdict b.ledger.setup c.args.message.now c.args.now ≡ Post c.in-Post.place c.in-Post.message
    = sym (c.in_ok-rule.ensures ∙ ap (λ (l : Ledger). toss_verdict l.setup c.args.message.now c.args.now) c.ledger.ensures.ledger) ∙ c.in-Post.is in
    omega (arith, posted_place b.ledger.setup c.args.message.now c.args.now c.in-Post.place c.in-Post.message posted, conferences_count b c.ledger.ensures.board)

pub take-requires-clause-takes : goal.take-requires-clause-takes
take-requires-clause-takes c =
    let b : Board = c.args.board.now in
    let posted : toss_verdict b.ledger.setup c.args.message.now c.args.now ≡ Post c.in-Post.place c.in-Post.message
    = sym (c.in_ok-rule.ensures ∙ ap (λ (l : Ledger). toss_verdict l.setup c.args.message.now c.args.now) c.ledger.ensures.ledger) ∙ c.in-Post.is in
    subst (λ (m : Message). MayTake b c.in-Post.place m) (sym c.typed.ensures.same) (draft_taken b c.args.message.now c.args.now c.in-Post.place c.in-Post.message c.requires.read posted (subst IsTyped c.typed.ensures.same c.typed.ensures.typed))

pub returns-in-Post-clause-step : goal.returns-in-Post-clause-step
returns-in-Post-clause-step c =
    let b : Board = c.args.board.now in
    let so_far : List ℕ × List (ℕ × Message) = (c.args.self.now.lines, c.args.self.now.tally.posts) in
    let posted : toss_verdict b.ledger.setup c.args.message.now c.args.now ≡ Post c.in-Post.place c.in-Post.message
    = sym (c.in_ok-rule.ensures ∙ ap (λ (l : Ledger). toss_verdict l.setup c.args.message.now c.args.now) c.ledger.ensures.ledger) ∙ c.in-Post.is in
    let is : Post c.in-Post.place c.typed.result ≡ toss_verdict b.ledger.setup c.args.message.now c.args.now = ap (Post c.in-Post.place) c.typed.ensures.same ∙ sym posted in
    on_ok_weaker c.take.result (λ step. step ∙ ap (tossed_as b c.args.at so_far) is) c.take.ensures.step
