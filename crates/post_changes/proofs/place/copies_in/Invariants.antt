use Rattle.std.proofs.Common.{◌≡◌, ◌+◌, ◌++◌, drop, length}
use Rattle.post_changes.specs.Posted.{posts_in}
use Rattle.slot_changes.specs.Msgids.{all_identified, generated}
use Rattle.post_changes.proofs.place.copies_in.Given as goal

-- the copies so far, and those of the posts that are left
abbrev pub invariant-loop-post : goal.invariant-loop-post
invariant-loop-post l = l.copies ++ all_identified (generated l.conference l.bbsid) (l.first + length l.copies) (posts_in l.place (drop l.post-index l.posts)) ≡ all_identified (generated l.conference l.bbsid) l.first (posts_in l.place l.posts)
