use Rattle.cmd_toss.proofs.StepLaws.{by_dupe, by_full, by_none}
use Rattle.cmd_toss.proofs.tossed.Tossed.last_rule.Goals as goal

pub returns-then-is_dupe-clause-rule : goal.returns-then-is_dupe-clause-rule
returns-then-is_dupe-clause-rule c =
    let seen = c.in_ok-load.ensures.seen c.args.self.now.tally.posts c.requires.seen in
    by_dupe c.args.board.now c.args.self.now.tally.posts (c.args.place, c.args.message.now) c.is_dupe.result (c.is_dupe.ensures c.args.board.now seen) c.if-is_dupe.true

pub returns-then-is_dupe-clause-seen : goal.returns-then-is_dupe-clause-seen
returns-then-is_dupe-clause-seen c = c.in_ok-load.ensures.seen c.args.self.now.tally.posts c.requires.seen

pub returns-then-is_full-clause-rule : goal.returns-then-is_full-clause-rule
returns-then-is_full-clause-rule c =
    let seen = c.in_ok-load.ensures.seen c.args.self.now.tally.posts c.requires.seen in
    by_full c.args.board.now c.args.self.now.tally.posts (c.args.place, c.args.message.now) c.is_dupe.result c.is_full.result (c.is_dupe.ensures c.args.board.now seen) c.if-is_dupe.false c.is_full.ensures c.if-is_full.true

pub returns-then-is_full-clause-seen : goal.returns-then-is_full-clause-seen
returns-then-is_full-clause-seen c = c.in_ok-load.ensures.seen c.args.self.now.tally.posts c.requires.seen

pub returns-clause-rule : goal.returns-clause-rule
returns-clause-rule c =
    let seen = c.in_ok-load.ensures.seen c.args.self.now.tally.posts c.requires.seen in
    by_none c.args.board.now c.args.self.now.tally.posts (c.args.place, c.args.message.now) c.is_dupe.result c.is_full.result (c.is_dupe.ensures c.args.board.now seen) c.if-is_dupe.false c.is_full.ensures c.if-is_full.false

pub returns-clause-seen : goal.returns-clause-seen
returns-clause-seen c = c.in_ok-load.ensures.seen c.args.self.now.tally.posts c.requires.seen
