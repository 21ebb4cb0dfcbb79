use Rattle.std.proofs.Common.{◌≡◌, ℕ, List, sym, ◌∙◌}
use Rattle.std.specs.Prelude.{None, Some}
use Rattle.std.proofs.lemmas.Result.{IfOk-weaker}
use Rattle.packet_verdicts.proofs.ReplyLaws.{reply_is, reply_unseen}
use Rattle.packet_verdicts.specs.Views.{reply_at}
use Rattle.packet_verdicts.proofs.replies.kept_reply.Goals as goal

pub returns-then-not-sees : goal.returns-then-not-sees
returns-then-not-sees c = c.new.ensures ∙ reply_unseen c.args.board.now c.args.user c.args.place c.args.number (sym c.sees.ensures ∙ c.if-not-sees.true)

pub returns-in-Some : goal.returns-in-Some
returns-in-Some c =
    let is = reply_is c.args.board.now c.args.user c.args.place c.args.number (Some c.in-Some.message.now) (sym c.sees.ensures ∙ c.if-not-sees.false) c.in-Some.ensures in
    IfOk-weaker c.copy.result (λ (msgid : List ℕ). msgid ≡ c.in-Some.message.now.msgid) (λ (msgid : List ℕ). msgid ≡ reply_at c.args.board.now c.args.user c.args.place c.args.number) (λ msgid same. same ∙ is) c.copy.ensures

pub returns-in-None : goal.returns-in-None
returns-in-None c = c.new-in-None.ensures ∙ reply_is c.args.board.now c.args.user c.args.place c.args.number None (sym c.sees.ensures ∙ c.if-not-sees.false) c.in-None.ensures
