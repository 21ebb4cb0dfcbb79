use Rattle.std.proofs.Common.{◌≡◌, ℕ, ◌+◌, List, [], drop, min, sym, ap, ◌∙◌, arith}
use Rattle.std.specs.Prelude.{sum_by}
use Rattle.std.proofs.lemmas.List.{drop_all}
use Rattle.jam_records.specs.declared.message.Message.{Message}
use Rattle.post_changes.proofs.PlacePosts.{left_elsewhere, left_here}
use Rattle.post_changes.specs.Posted.{posts_in}
use Rattle.slot_changes.proofs.SlotBytes.{message_size, size_step}
use Rattle.slot_changes.specs.Msgids.{all_identified, generated, identified}
use Rattle.post_changes.proofs.size.copies_size.Goals as goal
use Rattle.post_changes.proofs.size.copies_size.Goals.{then-post-place, else-post-place}

pub loop-post-preserved : goal.loop-post-preserved
loop-post-preserved c =
    let place : ℕ = c.args.place in
    let posts : List (ℕ × Message) = c.args.posts.now in
    let index : ℕ = c.loop-post.post-index in
    let post : ℕ × Message = c.post-item.result in
    let size : ℕ = c.loop-post.size in
    let number : ℕ = c.loop-post.number in
    let msgid : ℕ → List ℕ = generated c.args.conference c.args.bbsid.now in
    let left : List Message = posts_in place (drop index posts) in
    let rest : List Message = posts_in place (drop (index + 1) posts) in
    let total : ℕ = min (sum_by message_size (all_identified msgid c.args.first (posts_in place posts))) 18446744073709551615 in
    let v = c.loop-post.invariant in
    elim c.if-post-place.branch [
      | then-post-place w ↦
          let added : c.if-post-place.size ≡ min (size + min (message_size (identified (msgid number) post.1)) 18446744073709551615) 18446744073709551615 =
          w.size-is ∙ (w.saturating_add-size.ensures ∙ ap (λ (n : ℕ). min (size + n) 18446744073709551615) (w.message_size.ensures (msgid number) (sym w.generated_len-generated.ensures))) in
          record {
            so_far = ap (λ (n : ℕ). min (c.if-post-place.size + sum_by message_size (all_identified msgid n rest)) 18446744073709551615) w.number-is
                ∙ size_step msgid number size c.if-post-place.size total 18446744073709551615 left rest post.1 (left_here place posts index post (omega arith) c.post-item.is w.if-post-place.true) added v.so_far;
            small = omega (arith, added);
            few = omega (arith, w.number-is, v.few);
          }
      | else-post-place w ↦
          let others : left ≡ rest = left_elsewhere place posts index post (omega arith) c.post-item.is w.if-post-place.false in
          record {
            so_far = (λ i. min (w.size-is i + sum_by message_size (all_identified msgid (w.number-is i) (sym others i))) 18446744073709551615) ∙ v.so_far;
            small = omega (arith, w.size-is, v.small);
            few = omega (arith, w.number-is, v.few);
          }
    ]

pub returns : goal.returns
returns c =
    let size : ℕ = c.loop-post.size in
    let v = c.loop-post.invariant in
    let none : drop c.loop-post.post-index c.args.posts.now ≡ [] = drop_all c.loop-post.post-index c.args.posts.now (omega arith) in
    let all : size ≡ min (size + 0) 18446744073709551615 = omega (arith, v.small) in
    all ∙ (ap (λ (ps : List (ℕ × Message)). min (size + sum_by message_size (all_identified (generated c.args.conference c.args.bbsid.now) c.loop-post.number (posts_in c.args.place ps))) 18446744073709551615) (sym none) ∙ v.so_far)
