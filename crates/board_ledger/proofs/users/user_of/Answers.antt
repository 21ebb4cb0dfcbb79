use Rattle.std.proofs.Common.{◌∙◌, sym}
use Rattle.board_ledger.specs.Users.{lowered}
use Rattle.board_ledger.proofs.UserTests.{user_broken}
use Rattle.board_ledger.proofs.users.user_of.Goals as goal

pub returns-in-Some-2-clause-gives : goal.returns-in-Some-2-clause-gives
returns-in-Some-2-clause-gives c =
    rw c.damaged-in-Some-2.ensures
    (user_broken c.args.version c.args.conferences c.args.before.now c.args.bytes.now c.in_ok-user.user _ c.from.result c.in-Some.place c.size_behind_name.result c.in-Some-2.rule
    c.from.ensures c.in_ok-user.ensures.user c.in-Some.ensures.0 c.size_behind_name.ensures c.if-bytes-end.false
    (c.requires.met (lowered c.in_ok-user.user.name)) (sym c.in_ok-rule.ensures.rule ∙ c.in-Some-2.is))
