use Rattle.std.proofs.Common.{◌≡◌, ◌+◌, drop}
use Rattle.mail_intake.specs.Tallies.{IsTally}
use Rattle.cmd_toss.specs.Tossed.{tossed, tossed_from}
use Rattle.cmd_toss.specs.Tossing.{AreSeen}
use Rattle.cmd_toss.proofs.tossed.tossed_of.Given as goal

-- what became of the messages so far, and becomes of the others, is what becomes of all
abbrev pub invariant-loop-message : goal.invariant-loop-message
invariant-loop-message l = record {
  so_far : tossed_from l.board l.now (l.at + 1) (l.tossed.lines, l.tossed.tally.posts) (drop l.message-index l.messages) ≡ tossed l.board l.now l.messages;
  at : l.at ≡ l.message-index;
  tally : IsTally l.board l.tossed.tally;
  seen : AreSeen l.board l.tossed.tally.posts l.tossed.seen;
}
