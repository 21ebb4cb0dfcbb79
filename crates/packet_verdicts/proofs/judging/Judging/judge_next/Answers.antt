use Rattle.std.proofs.Common.{◌∙◌, sym}
use Rattle.netmail_rules.specs.declared.verdict.Verdict.TheVariants.{Post}
use Rattle.packet_verdicts.proofs.Outcomes.{no_msgid}
use Rattle.packet_verdicts.proofs.Places.{small_places}
use Rattle.packet_verdicts.proofs.Steps.{posted_judging}
use Rattle.packet_verdicts.specs.Judged.{outcome_of}
use Rattle.packet_verdicts.proofs.judging.Judging.judge_next.Goals as goal

pub accept-requires-clause-place : goal.accept-requires-clause-place
accept-requires-clause-place c = small_places c.args.board.now c.in_ok-place.place c.in_ok-place.ensures.board c.in_ok-place.ensures.within

pub accept-requires-clause-draft : goal.accept-requires-clause-draft
accept-requires-clause-draft c = no_msgid c.look.new.self.view c.args.message.now c.args.now c.in-Post.draft (sym c.in-Post.is ∙ c.in_ok-rule.ensures)

pub returns-in-Post-clause-judging : goal.returns-in-Post-clause-judging
returns-in-Post-clause-judging c =
    let e = c.in_ok-place.ensures in
    posted_judging c.accept.result c.args.board.now c.args.self.now c.look.new.self c.accept.new.self c.args.message.now c.in_ok-place.place c.in-Post.draft (outcome_of c.look.new.self.view.conference (Post c.in-Post.draft))
    (record { board = e.board; before = c.requires.judging; number = e.place; within = e.within; view = e.view; rest = e.rest })
    (no_msgid c.look.new.self.view c.args.message.now c.args.now c.in-Post.draft (sym c.in-Post.is ∙ c.in_ok-rule.ensures))
    c.accept.ensures.outcomes c.accept.ensures.posts c.accept.ensures.indexed c.accept.ensures.refused c.accept.ensures.view c.accept.ensures.user
