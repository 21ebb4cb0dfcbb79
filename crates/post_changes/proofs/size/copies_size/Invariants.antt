use Rattle.std.proofs.Common.{◌≡◌, ◌+◌, ◌≤◌, drop, min}
use Rattle.std.specs.Prelude.{sum_by}
use Rattle.post_changes.specs.Posted.{posts_in}
use Rattle.slot_changes.proofs.SlotBytes.{message_size}
use Rattle.slot_changes.specs.Msgids.{all_identified, generated}
use Rattle.post_changes.proofs.size.copies_size.Given as goal

-- the size so far, with the posts that are left
abbrev pub invariant-loop-post : goal.invariant-loop-post
invariant-loop-post l = record {
  so_far : min (l.size + sum_by message_size (all_identified (generated l.conference l.bbsid) l.number (posts_in l.place (drop l.post-index l.posts)))) 18446744073709551615
      ≡ min (sum_by message_size (all_identified (generated l.conference l.bbsid) l.first (posts_in l.place l.posts))) 18446744073709551615;
  small : l.size ≤ 18446744073709551615;
  few : l.number ≤ l.first + l.post-index;
}
