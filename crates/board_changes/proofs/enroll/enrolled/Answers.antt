use Rattle.std.proofs.Common.{sym, subst}
use Rattle.std.specs.Prelude.{IfOk}
use Rattle.board_changes.specs.Change.{Becomes}
use Rattle.board_changes.specs.Changed.{with_member}
use Rattle.board_changes.specs.Outlined.{LeadsEach}
use Rattle.board_changes.specs.declared.change.BoardChange.{BoardChange}
use Rattle.board_layout.specs.Board.{Board}
use Rattle.board_layout.specs.Valid.{IsBoard}
use Rattle.board_ledger.specs.declared.user.User.{User}
use Rattle.board_changes.proofs.enroll.enrolled.Goals as goal

pub enrolled_as-requires : goal.enrolled_as-requires
enrolled_as-requires c = subst (λ (u : User). IsBoard (with_member u c.args.board.now)) (sym c.in_ok-user.ensures) c.requires

pub returns-clause-becomes : goal.returns-clause-becomes
returns-clause-becomes c =
    let b : Board = c.args.board.now in
    subst (λ (u : User). IfOk c.enrolled_as.result (λ (change : BoardChange). Becomes b (with_member u b) change)) c.in_ok-user.ensures c.enrolled_as.ensures.becomes

pub returns-clause-each : goal.returns-clause-each
returns-clause-each c =
    let b : Board = c.args.board.now in
    subst (λ (u : User). IfOk c.enrolled_as.result (λ (change : BoardChange). LeadsEach b (with_member u) change.intent)) c.in_ok-user.ensures c.enrolled_as.ensures.each
