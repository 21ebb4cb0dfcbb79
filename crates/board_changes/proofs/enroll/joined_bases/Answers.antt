use Rattle.std.proofs.Common.{◌≡◌, ◌<◌, ◌+◌, ℕ, [], ◌∷◌, ◌++◌, List, length, length-append, take, slice_get, get_or, Some, Option, sym, ap, ◌∙◌, subst, arith}
use Rattle.std.proofs.lemmas.List.{take_all}
use Rattle.std.proofs.lemmas.Option.{slice_get-get_or}
use Rattle.board_changes.specs.Changed.{with_member}
use Rattle.board_changes.proofs.MemberLaws.{next_count, place_small, renewed_pushed}
use Rattle.board_layout.specs.Board.{Board}
use Rattle.board_layout.specs.Renewed.{contents_of, renewed}
use Rattle.board_layout.specs.jam_base.Contents.{Contents}
use Rattle.board_changes.proofs.enroll.joined_bases.Goals as goal

-- the base of a place
base_here : (b : Board) (items : List Contents) (place : ℕ) (base : Contents) → items ≡ contents_of b → place < length items → base ≡ get_or items place base → slice_get (contents_of b) place ≡ Some base
base_here b items place base same within is = subst (λ (xs : List Contents). slice_get xs place ≡ Some base) same (slice_get-get_or items place base within ∙ ap Some (sym is))

pub overflow_cast-place : goal.overflow_cast-place
overflow_cast-place c =
    let here = base_here c.args.board.now c.bases-base-items.result.now c.loop-place.place c.base-item.result c.bases-base-items.ensures.contents (omega arith) c.base-item.is in
    omega (arith, place_small c.args.board.now c.loop-place.place c.base-item.result c.bases-base-items.ensures.board here)

pub joined_base-requires-clause-base : goal.joined_base-requires-clause-base
joined_base-requires-clause-base c = base_here c.args.board.now c.bases-base-items.result.now c.loop-place.place c.base-item.result c.bases-base-items.ensures.contents (omega arith) c.base-item.is

pub loop-place-preserved : goal.loop-place-preserved
loop-place-preserved c =
    let b : Board = c.args.board.now in
    let here = base_here b c.bases-base-items.result.now c.loop-place.place c.base-item.result c.bases-base-items.ensures.contents (omega arith) c.base-item.is in
    let v = c.loop-place.invariant in
    let bases : List (Option Contents) = c.loop-place.bases in
    let added : c.add.new.self ≡ bases ++ c.in_ok-joined_base.field-0 ∷ [] = c.in_ok-add.ensures.ok in
    record {
      bases = ap (renewed (take (c.loop-place.place + 1) (contents_of b))) added
          ∙ renewed_pushed (contents_of b) (contents_of (with_member c.args.user.now b)) bases c.loop-place.place c.base-item.result c.in_ok-joined_base.field-0 v.bases v.counted here c.in_ok-joined_base.ensures.base;
      counted = omega (arith, ap length added, length-append bases (c.in_ok-joined_base.field-0 ∷ []), v.counted);
      gathered = c.in_ok-joined_base.ensures.gathers;
      all = v.all;
      end = v.end;
    }

pub returns-clause-bases : goal.returns-clause-bases
returns-clause-bases c =
    let b : Board = c.args.board.now in
    let next : List Contents = contents_of (with_member c.args.user.now b) in
    let v = c.loop-place.invariant in
    ap (λ (xs : List Contents). renewed xs c.loop-place.bases) (sym (take_all c.loop-place.place (contents_of b) (omega (arith, v.end))))
    ∙ (v.bases ∙ take_all c.loop-place.place next (omega (arith, v.end, next_count b c.args.user.now)))
