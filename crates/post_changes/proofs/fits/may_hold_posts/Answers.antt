use Rattle.std.proofs.Common.{true≢false, ℕ, refl, sym, ◌∙◌, subst, arith}
use Rattle.std.specs.Prelude.{All}
use Rattle.std.proofs.lemmas.List.{take_all}
use Rattle.std.proofs.lemmas.List.Elements.{All-more}
use Rattle.jam_records.specs.declared.message.Message.{Message}
use Rattle.post_changes.specs.Posted.{MayHoldIn}
use Rattle.post_changes.proofs.fits.may_hold_posts.Goals as goal

pub returns-then-not-may_hold_post : goal.returns-then-not-may_hold_post
returns-then-not-may_hold_post c = (
  λ no. absurd (true≢false (sym no)),
  λ all. sym c.if-not-may_hold_post.true ∙ c.may_hold_post.ensures.1 (subst (MayHoldIn c.args.kind c.args.place) (sym c.post-item.is) (all c.loop-post.post-index c.post-item.result (omega arith))),
)

pub loop-post-preserved : goal.loop-post-preserved
loop-post-preserved c =
    let post : ℕ × Message = c.post-item.result in
    All-more (MayHoldIn c.args.kind c.args.place) c.args.posts.now c.loop-post.post-index post (omega arith) c.loop-post.invariant
    (subst (MayHoldIn c.args.kind c.args.place) c.post-item.is (c.may_hold_post.ensures.0 c.if-not-may_hold_post.false))

pub returns : goal.returns
returns c = (λ yes. subst (All (MayHoldIn c.args.kind c.args.place)) (take_all c.loop-post.post-index c.args.posts.now (omega arith)) c.loop-post.invariant, λ all. refl)
