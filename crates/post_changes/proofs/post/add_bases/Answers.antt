use Rattle.std.proofs.Common.{◌∙◌, Option, length, subst, arith}
use Rattle.std.specs.Prelude.{unwrap_or}
use Rattle.slot_changes.proofs.board_changes.MemberLaws.{place_small}
use Rattle.slot_changes.specs.board_changes.Change.{Becomes}
use Rattle.slot_changes.specs.board_changes.Outlined.{LeadsEach}
use Rattle.slot_changes.specs.board_changes.Spending.{Spends}
use Rattle.board_layout.specs.Board.{Board}
use Rattle.board_layout.specs.Outlines.{board_outline}
use Rattle.board_ledger.specs.declared.ledger.Ledger.{Ledger}
use Rattle.post_changes.proofs.PlacePosts.{base_here}
use Rattle.post_changes.proofs.PostSteps.{posts_become, posts_lead, posts_spend}
use Rattle.post_changes.specs.Posted.{posted_with}
use Rattle.post_changes.proofs.post.add_bases.Goals as goal

pub overflow_cast-place : goal.overflow_cast-place
overflow_cast-place c =
    let here = base_here c.args.board.now c.bases-base-items.result.now c.loop-place.place c.base-item.result c.bases-base-items.ensures.contents (omega arith) c.base-item.is in
    omega (arith, place_small c.args.board.now c.loop-place.place c.base-item.result c.bases-base-items.ensures.board here)

pub add_base-requires-clause-base : goal.add_base-requires-clause-base
add_base-requires-clause-base c = base_here c.args.board.now c.bases-base-items.result.now c.loop-place.place c.base-item.result c.bases-base-items.ensures.contents (omega arith) c.base-item.is

pub loop-place-preserved : goal.loop-place-preserved
loop-place-preserved c =
    let v = c.loop-place.invariant in
    record { ledger = c.in_ok-add_base.ensures.ledger ∙ v.ledger; so_far = c.in_ok-add_base.ensures.so_far; all = v.all; end = v.end }

pub returns-clause-becomes : goal.returns-clause-becomes
returns-clause-becomes c =
    let b : Board = c.args.board.now in
    let v = c.loop-place.invariant in
    subst (λ (l : Option Ledger). Becomes b (board_outline (posted_with (unwrap_or l b.ledger) c.args.posts.now b)) c.loop-place.change) v.ledger (posts_become b c.args.posts.now c.loop-place.place c.loop-place.change c.bases-base-items.ensures.board (omega (arith, v.end)) v.so_far)

pub returns-clause-each : goal.returns-clause-each
returns-clause-each c =
    let b : Board = c.args.board.now in
    let v = c.loop-place.invariant in
    subst (λ (l : Option Ledger). LeadsEach b (posted_with (unwrap_or l b.ledger) c.args.posts.now) c.loop-place.change.intent) v.ledger
    (posts_lead b c.args.posts.now c.loop-place.place c.loop-place.change c.bases-base-items.ensures.board (omega (arith, v.end)) v.so_far)

pub returns-clause-costs : goal.returns-clause-costs
returns-clause-costs c =
    let b : Board = c.args.board.now in
    let posts = c.args.posts.now in
    let v = c.loop-place.invariant in
    subst (λ (l : Option Ledger). Spends (length posts) b (posted_with (unwrap_or l b.ledger) posts b) c.loop-place.change.intent) v.ledger (posts_spend b posts c.loop-place.place c.loop-place.change c.bases-base-items.ensures.board (omega (arith, v.end)) v.so_far)
