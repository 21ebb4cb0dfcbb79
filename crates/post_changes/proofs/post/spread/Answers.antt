use Rattle.std.proofs.Common.{ℕ, List, length, sym, ap, subst, arith}
use Rattle.std.specs.Prelude.{IfOk}
use Rattle.slot_changes.specs.board_changes.Change.{Becomes}
use Rattle.slot_changes.specs.board_changes.Outlined.{GatheredEach, LeadsEach}
use Rattle.slot_changes.specs.board_changes.Spending.{Spends}
use Rattle.slot_changes.specs.board_changes.declared.change.BoardChange.{BoardChange}
use Rattle.board_layout.specs.Board.{Board}
use Rattle.board_layout.specs.Outlines.{board_outline}
use Rattle.board_layout.specs.Valid.{IsBoard}
use Rattle.intent_journal.specs.Patches.{byte_count}
use Rattle.board_layout.proofs.jam_base.ChangeClauses.{one_ok}
use Rattle.jam_records.specs.declared.message.Message.{Message}
use Rattle.post_changes.proofs.EachPost.{spread_begun, spread_leads}
use Rattle.post_changes.proofs.PostSteps.{spent_begun}
use Rattle.post_changes.specs.Posted.{posted_with, spread}
use Rattle.post_changes.proofs.post.spread.Goals as goal

pub posted-requires-clause-next : goal.posted-requires-clause-next
posted-requires-clause-next c = subst IsBoard (λ i. posted_with c.args.board.now.ledger (sym c.as_slice.ensures i) c.args.board.now) c.requires.next

pub posted-requires-clause-gathered : goal.posted-requires-clause-gathered
posted-requires-clause-gathered c =
    let b : Board = c.args.board.now in
    subst (GatheredEach b (posted_with b.ledger c.as_slice.result.now) 0) (sym c.new.ensures) (spread_begun b c.as_slice.result.now)

pub posted-requires-clause-spent : goal.posted-requires-clause-spent
posted-requires-clause-spent c =
    let b : Board = c.args.board.now in
    spent_begun b c.as_slice.result.now b.ledger c.new.result (omega (arith, ap length c.new.ensures)) (omega (arith, ap byte_count c.new.ensures))

pub returns-clause-becomes : goal.returns-clause-becomes
returns-clause-becomes c = subst (λ (next : Board). IfOk c.posted.result (Becomes c.args.board.now (board_outline next))) (λ i. posted_with c.args.board.now.ledger (c.as_slice.ensures i) c.args.board.now) c.posted.ensures.becomes

pub returns-clause-costs : goal.returns-clause-costs
returns-clause-costs c =
    let b : Board = c.args.board.now in
    let costs : List (ℕ × Message) → Type 0 = λ posts. IfOk c.posted.result (λ change. Spends (length posts) b (posted_with b.ledger posts b) change.intent) in
    subst costs c.as_slice.ensures c.posted.ensures.costs

pub returns-clause-each : goal.returns-clause-each
returns-clause-each c =
    let b : Board = c.args.board.now in
    let posts : List (ℕ × Message) = c.args.posts.now in
    one_ok (λ (change : BoardChange). LeadsEach b (posted_with b.ledger c.as_slice.result.now) change.intent) (λ (change : BoardChange). LeadsEach b (spread posts) change.intent) c.posted.result
    (λ change each. spread_leads b posts change.intent (subst (λ (ps : List (ℕ × Message)). LeadsEach b (posted_with b.ledger ps) change.intent) c.as_slice.ensures each)) c.posted.ensures.each
