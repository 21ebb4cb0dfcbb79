use Rattle.std.proofs.Common.{◌≡◌, true≢false, length, sym, ap, ◌∙◌, subst, arith}
use Rattle.std.specs.Prelude.{All}
use Rattle.std.proofs.lemmas.Bool.{leb-true, le-leb}
use Rattle.board_layout.specs.Valid.{board_limit}
use Rattle.board_layout.specs.jam_base.Contents.{Contents}
use Rattle.jam_layout.specs.Messages.{IsSlot}
use Rattle.jam_records.specs.declared.message.Kind.{Kind}
use Rattle.slot_changes.proofs.PlaceKinds.{kind_at}
use Rattle.slot_changes.proofs.ReplaceLaws.{many_back, many_there, new_valid, replaced_board, slots_fit}
use Rattle.slot_changes.proofs.slots.fits_in_place.Goals as goal

pub returns-then-as_slice-slot_count : goal.returns-then-as_slice-slot_count
returns-then-as_slice-slot_count c = (
  λ no. absurd (true≢false (sym no)),
  λ fits.
      let many = many_there c.args.board.now c.args.place c.args.slots.now c.base_of.result.now c.base_of.ensures.board c.base_of.ensures.base fits.0 in
      absurd (omega (arith, c.if-as_slice-slot_count.true, many, c.slot_count.ensures, ap length c.as_slice.ensures)),
)

pub returns-then-not-may_stand_all : goal.returns-then-not-may_stand_all
returns-then-not-may_stand_all c = (
  λ no. absurd (true≢false (sym no)),
  λ fits.
      let base : Contents = c.base_of.result.now in
      let kind = kind_at c.args.board.now c.args.place base c.conference_of.result.now c.base_of.ensures.base c.conference_of.ensures in
      let all = slots_fit c.args.board.now c.args.place c.args.slots.now base c.base_of.ensures.board c.base_of.ensures.base fits.1 in
      sym c.if-not-may_stand_all.true ∙ c.may_stand_all.ensures.1 (subst (All (IsSlot c.conference_of.result.now.kind)) (sym c.as_slice-2.ensures) (subst (λ (k : Kind). All (IsSlot k) c.args.slots.now) kind all)),
)

pub returns : goal.returns
returns c =
    let base : Contents = c.base_of.result.now in
    let kind = kind_at c.args.board.now c.args.place base c.conference_of.result.now c.base_of.ensures.base c.conference_of.ensures in
    let many : length base.conference.slots ≡ length c.args.slots.now = omega (arith, c.if-as_slice-slot_count.false, c.slot_count.ensures, ap length c.as_slice.ensures) in
    let all = subst (λ (k : Kind). All (IsSlot k) c.args.slots.now) (sym kind) (subst (All (IsSlot c.conference_of.result.now.kind)) c.as_slice-2.ensures (c.may_stand_all.ensures.0 c.if-not-may_stand_all.false)) in
    let valid = new_valid c.args.board.now c.args.place c.args.slots.now base c.base_of.ensures.board c.base_of.ensures.base all many in (
      λ small. (
        many_back c.args.board.now c.args.place c.args.slots.now base c.base_of.ensures.board c.base_of.ensures.base many,
        replaced_board c.args.board.now c.args.place c.args.slots.now base c.base_of.ensures.board c.base_of.ensures.base valid many (omega (arith, c.size_with_slots.ensures, leb-true c.size_with_slots.result board_limit small)),
      ),
      λ fits. le-leb c.size_with_slots.result board_limit (omega (arith, c.size_with_slots.ensures, fits.1.small)),
    )
