use Rattle.std.proofs.Common.{ℕ, ◌<◌, List, [], length, take, sym, ap, ◌∙◌, arith}
use Rattle.std.specs.List.{fold}
use Rattle.std.proofs.lemmas.List.Sums.{fold_more}
use Rattle.jam_records.specs.declared.message.Message.{Message}
use Rattle.packet_verdicts.proofs.Steps.{one_outcome}
use Rattle.packet_verdicts.specs.Judged.{judged_next}
use Rattle.packet_verdicts.specs.declared.outcome.Outcome.{Outcome}
use Rattle.qwk_blocks.specs.declared.message.QwkMessage.{QwkMessage}
use Rattle.packet_verdicts.proofs.judging.judge_all.Goals as goal

pub loop-message-preserved : goal.loop-message-preserved
loop-message-preserved c =
    let b = c.args.board.now in
    let e = c.in_ok-judge_next.ensures in
    let inv = c.loop-message.invariant in
    let i : ℕ = c.loop-message.message-index in
    let items : List QwkMessage = c.as_slice-message-items.result.now in
    let m : QwkMessage = c.message-item.result in
    let within : i < length items = omega arith in
    let old : List Outcome × List (ℕ × Message) = (c.loop-message.judging.outcomes, c.loop-message.judging.accepted.posts) in
    let new : List Outcome × List (ℕ × Message) = (c.judge_next.new.self.outcomes, c.judge_next.new.self.accepted.posts) in
    record {
      judging = e.judging;
      user = e.user ∙ inv.user;
      count = omega (arith, inv.count, one_outcome b c.loop-message.judging.user c.args.now old new m e.step);
      so_far = e.step
          ∙ ((λ j. judged_next b (inv.user j) c.args.now (inv.so_far j) m)
          ∙ (ap (judged_next b c.args.user c.args.now (fold (judged_next b c.args.user c.args.now) ([], []) (take i items))) c.message-item.is
          ∙ sym (fold_more (judged_next b c.args.user c.args.now) ([], []) items i m within)));
      all = inv.all;
    }
