use Rattle.std.proofs.Common.{◌≡◌, ℕ, ◌+◌, List, [], ◌∷◌, ◌++◌, length, drop, sym, ap, ◌∙◌, subst, arith}
use Rattle.jam_records.specs.declared.message.Message.{Message}
use Rattle.post_changes.proofs.PlacePosts.{copies_few, copies_more, left_elsewhere, left_here}
use Rattle.post_changes.specs.Posted.{posts_in}
use Rattle.slot_changes.specs.Msgids.{all_identified, generated, identified}
use Rattle.post_changes.proofs.place.copies_in.Goals as goal
use Rattle.post_changes.proofs.place.copies_in.Goals.{then-post-place+in_ok-identified+in_ok-add, else-post-place}

pub overflow_cast-number : goal.overflow_cast-number
overflow_cast-number c =
    let few = copies_few (generated c.args.conference c.args.bbsid.now) c.args.first c.loop-post.copies (posts_in c.args.place (drop c.loop-post.post-index c.args.posts.now)) (posts_in c.args.place c.args.posts.now) c.loop-post.invariant in
    omega (arith, few, c.len.ensures, c.requires)

pub overflow_add-number : goal.overflow_add-number
overflow_add-number c =
    let few = copies_few (generated c.args.conference c.args.bbsid.now) c.args.first c.loop-post.copies (posts_in c.args.place (drop c.loop-post.post-index c.args.posts.now)) (posts_in c.args.place c.args.posts.now) c.loop-post.invariant in
    omega (arith, few, c.len.ensures, c.requires)

pub loop-post-preserved : goal.loop-post-preserved
loop-post-preserved c =
    let place : ℕ = c.args.place in
    let posts : List (ℕ × Message) = c.args.posts.now in
    let index : ℕ = c.loop-post.post-index in
    let post : ℕ × Message = c.post-item.result in
    let copies : List Message = c.loop-post.copies in
    let msgid : ℕ → List ℕ = generated c.args.conference c.args.bbsid.now in
    let left : List Message = posts_in place (drop index posts) in
    let rest : List Message = posts_in place (drop (index + 1) posts) in
    let all : List Message = all_identified msgid c.args.first (posts_in place posts) in
    elim c.if-post-place.branch [
      | then-post-place+in_ok-identified+in_ok-add w ↦
          let made : c.if-post-place.copies ≡ copies ++ identified (msgid (c.args.first + length copies)) post.1 ∷ [] =
          w.copies-is ∙ (w.in_ok-add.ensures.ok ∙ ap (λ (m : Message). copies ++ m ∷ []) (w.in_ok-identified.ensures ∙ ap (λ (n : ℕ). identified (msgid (c.args.first + n)) post.1) w.len.ensures)) in
          subst (λ (new : List Message). new ++ all_identified msgid (c.args.first + length new) rest ≡ all) (sym made)
          (copies_more msgid c.args.first copies left rest all post.1 (left_here place posts index post (omega arith) c.post-item.is w.if-post-place.true) c.loop-post.invariant)
      | else-post-place w ↦ subst (λ (new : List Message). new ++ all_identified msgid (c.args.first + length new) rest ≡ all) (sym w.copies-is)
          (subst (λ (ms : List Message). copies ++ all_identified msgid (c.args.first + length copies) ms ≡ all) (left_elsewhere place posts index post (omega arith) c.post-item.is w.if-post-place.false) c.loop-post.invariant)
    ]
