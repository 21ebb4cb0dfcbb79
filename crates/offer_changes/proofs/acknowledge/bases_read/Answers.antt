use Rattle.std.proofs.Common.{◌≡◌, ◌<◌, ◌+◌, ℕ, [], ◌∷◌, ◌++◌, List, length, length-append, take, slice_get, get_or, Some, Option, sym, ap, ◌∙◌, subst, arith}
use Rattle.std.specs.Prelude.{unwrap_or}
use Rattle.std.proofs.lemmas.List.{take_all}
use Rattle.std.proofs.lemmas.Option.{slice_get-get_or}
use Rattle.board_changes.proofs.MemberLaws.{renewed_pushed}
use Rattle.board_changes.specs.Outlined.{ChangesEach, GatheredEach}
use Rattle.board_layout.specs.Board.{Board}
use Rattle.board_layout.specs.Renewed.{contents_of, renewed}
use Rattle.board_layout.specs.Valid.{IsBoard}
use Rattle.open_offers.specs.declared.offer.OpenOffer.{OpenOffer}
use Rattle.board_ledger.specs.declared.user.User.{User}
use Rattle.board_layout.specs.jam_base.Contents.{Contents}
use Rattle.board_layout.specs.jam_base.declared.change.BaseChange.{BaseChange}
use Rattle.offer_changes.proofs.AcknowledgeLaws.{base_read, contents_count, highs_were}
use Rattle.offer_changes.proofs.EachOffer.{read_gathers, read_joins}
use Rattle.board_changes.proofs.StepLaws.{change_joins}
use Rattle.offer_changes.proofs.ReadLaws.{high_within}
use Rattle.offer_changes.proofs.UserLaws.{user_there}
use Rattle.offer_changes.specs.Changed.{read_offer, read_up_to}
use Rattle.board_changes.specs.Steps.{base_after, patches_or_none}
use Rattle.offer_changes.proofs.acknowledge.bases_read.Goals as goal

-- the base of a place
base_here : (b : Board) (items : List Contents) (place : ℕ) (base : Contents) → items ≡ contents_of b → place < length items → base ≡ get_or items place base → slice_get (contents_of b) place ≡ Some base
base_here b items place base same within is = subst (λ (xs : List Contents). slice_get xs place ≡ Some base) same (slice_get-get_or items place base within ∙ ap Some (sym is))

pub read_up_to-requires : goal.read_up_to-requires
read_up_to-requires c =
    let b : Board = c.args.board.now in
    let u : User = c.args.user.now in
    let o : OpenOffer = c.args.offer.now in
    let base : Contents = c.base-item.result in
    let here = base_here b c.bases-base-items.result.now c.loop-place.place base c.bases-base-items.ensures.contents (omega arith) c.base-item.is in
    let fit = highs_were b c.args.id c.args.now u o (user_there b c.args.id u c.requires.user) c.bases-base-items.ensures.board c.requires.offer in
    omega (arith, high_within (contents_of b) o.highs c.loop-place.place base fit here, c.high_of-high.ensures)

pub gather-requires : goal.gather-requires
gather-requires c =
    let b : Board = c.args.board.now in
    let u : User = c.args.user.now in
    let o : OpenOffer = c.args.offer.now in
    let place : ℕ = c.loop-place.place in
    let base : Contents = c.base-item.result in
    let change : Option BaseChange = c.in_ok-change.change in
    let here = base_here b c.bases-base-items.result.now place base c.bases-base-items.ensures.contents (omega arith) c.base-item.is in
    let read : read_up_to c.args.id c.as_slice.result.now c.args.now c.high_of-high.result ≡ read_up_to c.args.id u.name c.args.now (get_or o.highs place 0) =
    λ i. read_up_to c.args.id (c.as_slice.ensures.same i) c.args.now (c.high_of-high.ensures i) in
    let is : base_after base change ≡ read_up_to c.args.id u.name c.args.now (get_or o.highs place 0) base = c.in_ok-change.ensures.base ∙ (λ i. read i base) in
    let each = subst (λ (f : Contents → Contents). ChangesEach base f (patches_or_none change)) read c.in_ok-change.ensures.each in
    change_joins c.loop-place.intent change
    (read_joins b c.args.id c.args.now u o c.requires.user c.requires.offer c.bases-base-items.ensures.board (omega arith) place base c.loop-place.intent change here is c.in_ok-change.ensures.changes each c.loop-place.invariant.gathered)

pub loop-place-preserved : goal.loop-place-preserved
loop-place-preserved c =
    let b : Board = c.args.board.now in
    let u : User = c.args.user.now in
    let o : OpenOffer = c.args.offer.now in
    let place : ℕ = c.loop-place.place in
    let base : Contents = c.base-item.result in
    let change : Option BaseChange = c.in_ok-change.change in
    let next : Board = read_offer c.args.id c.args.now u o b in
    let ok : IsBoard b = c.bases-base-items.ensures.board in
    let here = base_here b c.bases-base-items.result.now place base c.bases-base-items.ensures.contents (omega arith) c.base-item.is in
    let read : read_up_to c.args.id c.as_slice.result.now c.args.now c.high_of-high.result ≡ read_up_to c.args.id u.name c.args.now (get_or o.highs place 0) =
    λ i. read_up_to c.args.id (c.as_slice.ensures.same i) c.args.now (c.high_of-high.ensures i) in
    let is : base_after base change ≡ read_up_to c.args.id u.name c.args.now (get_or o.highs place 0) base = c.in_ok-change.ensures.base ∙ (λ i. read i base) in
    let each = subst (λ (f : Contents → Contents). ChangesEach base f (patches_or_none change)) read c.in_ok-change.ensures.each in
    let there : slice_get (contents_of next) place ≡ Some (base_after base change) = base_read b c.args.id c.args.now u o (user_there b c.args.id u c.requires.user) ok place base here ∙ ap Some (sym is) in
    let v = c.loop-place.invariant in
    let bases : List (Option Contents) = c.loop-place.bases in
    let new : Option Contents = c.in_ok-gather.field-0 in
    let added : c.add.new.self ≡ bases ++ new ∷ [] = c.in_ok-add.ensures.ok in
    record {
      bases = ap (renewed (take (place + 1) (contents_of b))) added
          ∙ renewed_pushed (contents_of b) (contents_of next) bases place base new v.bases v.counted here (there ∙ ap (λ (o : Option Contents). Some (unwrap_or o base)) (sym c.in_ok-gather.ensures.base));
      counted = omega (arith, ap length added, length-append bases (new ∷ []), v.counted);
      gathered = subst (GatheredEach b (read_offer c.args.id c.args.now u o) (place + 1)) (sym c.in_ok-gather.ensures.gathers)
          (read_gathers b c.args.id c.args.now u o c.requires.user c.requires.offer ok (omega arith) place base c.loop-place.intent change here is c.in_ok-change.ensures.changes each v.gathered);
      all = v.all;
      end = v.end;
    }

pub returns-clause-bases : goal.returns-clause-bases
returns-clause-bases c =
    let b : Board = c.args.board.now in
    let u : User = c.args.user.now in
    let o : OpenOffer = c.args.offer.now in
    let next : List Contents = contents_of (read_offer c.args.id c.args.now u o b) in
    let count = contents_count b c.args.id c.args.now u o (user_there b c.args.id u c.requires.user) c.bases-base-items.ensures.board in
    let v = c.loop-place.invariant in
    ap (λ (xs : List Contents). renewed xs c.loop-place.bases) (sym (take_all c.loop-place.place (contents_of b) (omega (arith, v.end))))
    ∙ (v.bases ∙ take_all c.loop-place.place next (omega (arith, v.end, count)))
