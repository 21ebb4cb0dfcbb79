use Rattle.std.proofs.Common.{◌≡◌, [], length, take}
use Rattle.std.specs.List.{fold}
use Rattle.packet_verdicts.specs.Judged.{judged_next}
use Rattle.packet_verdicts.specs.Judging.{IsJudging}
use Rattle.packet_verdicts.proofs.judging.judge_all.Given as goal

-- the messages so far were judged
abbrev pub invariant-loop-message : goal.invariant-loop-message
invariant-loop-message l = record {
  judging : IsJudging l.board l.judging;
  user : l.judging.user ≡ l.user;
  count : length l.judging.outcomes ≡ l.message-index;
  so_far : (l.judging.outcomes, l.judging.accepted.posts) ≡ fold (judged_next l.board l.user l.now) ([], []) (take l.message-index l.message-items);
  all : l.message-items ≡ l.messages;
}
