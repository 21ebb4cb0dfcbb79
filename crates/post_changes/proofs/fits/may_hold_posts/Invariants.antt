use Rattle.std.proofs.Common.{take}
use Rattle.std.specs.Prelude.{All}
use Rattle.post_changes.specs.Posted.{MayHoldIn}
use Rattle.post_changes.proofs.fits.may_hold_posts.Given as goal

-- the conference may hold the messages so far
abbrev pub invariant-loop-post : goal.invariant-loop-post
invariant-loop-post l = All (MayHoldIn l.kind l.place) (take l.post-index l.posts)
