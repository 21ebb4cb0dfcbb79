use Rattle.std.proofs.Common.{◌≡◌, ℕ, ◌+◌, List, [], drop, min, sym, ap, ◌∙◌, arith}
use Rattle.std.proofs.lemmas.List.{drop_all}
use Rattle.slot_changes.proofs.board_changes.MemberLaws.{place_small}
use Rattle.board_layout.specs.Board.{Board}
use Rattle.board_layout.specs.Layout.{board_size}
use Rattle.board_layout.specs.Renewed.{contents_of}
use Rattle.board_layout.specs.jam_base.Contents.{Contents}
use Rattle.jam_records.specs.declared.message.Message.{Message}
use Rattle.post_changes.proofs.PlacePosts.{base_here, bases_left}
use Rattle.post_changes.proofs.SizeLaws.{all_bytes, place_bytes, place_step, spread_bytes}
use Rattle.post_changes.specs.Posted.{spread}
use Rattle.post_changes.proofs.size.spread_size.Goals as goal

pub overflow_cast-place : goal.overflow_cast-place
overflow_cast-place c =
    let here = base_here c.args.board.now c.bases-base-items.result.now c.loop-place.place c.base-item.result c.bases-base-items.ensures.contents (omega arith) c.base-item.is in
    omega (arith, place_small c.args.board.now c.loop-place.place c.base-item.result c.bases-base-items.ensures.board here)

pub place_size-requires : goal.place_size-requires
place_size-requires c = base_here c.args.board.now c.bases-base-items.result.now c.loop-place.place c.base-item.result c.bases-base-items.ensures.contents (omega arith) c.base-item.is

pub loop-place-preserved : goal.loop-place-preserved
loop-place-preserved c =
    let b : Board = c.args.board.now in
    let posts : List (ℕ × Message) = c.args.posts.now in
    let place : ℕ = c.loop-place.place in
    let base : Contents = c.base-item.result in
    let size : ℕ = c.loop-place.size in
    let v = c.loop-place.invariant in
    let left = bases_left b c.bases-base-items.result.now place base c.bases-base-items.ensures.contents (omega arith) c.base-item.is in
    let added : c.saturating_add-size.result ≡ min (size + min (place_bytes b posts place base) 18446744073709551615) 18446744073709551615 = c.saturating_add-size.ensures ∙ ap (λ (n : ℕ). min (size + n) 18446744073709551615) c.place_size.ensures in
    record {
      so_far = place_step b posts place size c.saturating_add-size.result _ 18446744073709551615 (drop place (contents_of b)) (drop (place + 1) (contents_of b)) base left added v.so_far;
      small = omega (arith, added);
      all = v.all;
      end = v.end;
    }

pub returns-clause-size : goal.returns-clause-size
returns-clause-size c =
    let b : Board = c.args.board.now in
    let posts : List (ℕ × Message) = c.args.posts.now in
    let place : ℕ = c.loop-place.place in
    let size : ℕ = c.loop-place.size in
    let v = c.loop-place.invariant in
    let none : drop place (contents_of b) ≡ [] = drop_all place (contents_of b) (omega (arith, v.end)) in
    let all : size ≡ min (size + 0) 18446744073709551615 = omega (arith, v.small) in
    let whole : c.size-size.result + all_bytes b posts 0 (contents_of b) ≡ board_size (spread posts b) = omega (arith, c.size-size.ensures, spread_bytes b posts c.bases-base-items.ensures.board) in
    all ∙ (ap (λ (bases : List Contents). min (size + all_bytes b posts place bases) 18446744073709551615) (sym none) ∙ (v.so_far ∙ ap (λ (n : ℕ). min n 18446744073709551615) whole))
