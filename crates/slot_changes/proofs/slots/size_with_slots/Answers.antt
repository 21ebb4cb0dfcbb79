use Rattle.std.proofs.Common.{◌≡◌, ℕ, ◌+◌, ◌-◌, ◌∷◌, List, [], length, drop, min, sym, ap, ◌∙◌, arith}
use Rattle.std.specs.Prelude.{sum_by}
use Rattle.std.proofs.lemmas.List.{drop_all, drop_more}
use Rattle.board_layout.specs.Board.{Board}
use Rattle.board_layout.specs.Layout.{board_size}
use Rattle.board_layout.specs.jam_base.Contents.{Contents}
use Rattle.jam_layout.specs.Sizes.{slot_size}
use Rattle.jam_records.specs.declared.message.Slot.{Slot}
use Rattle.slot_changes.proofs.ReplaceLaws.{base_within, slots_place}
use Rattle.slot_changes.proofs.SlotValues.{size_step, sizes_are}
use Rattle.slot_changes.specs.Packed.{replaced}
use Rattle.slot_changes.proofs.slots.size_with_slots.Goals as goal

pub base_of-base-requires : goal.base_of-base-requires
base_of-base-requires c = slots_place c.args.board.now c.args.place (length c.args.slots.now) c.requires

pub overflow_sub-size : goal.overflow_sub-size
overflow_sub-size c =
    let within = base_within c.args.board.now c.args.place c.base_of-base.result.now c.base_of-base.ensures.board c.base_of-base.ensures.base in
    omega (arith, within, c.size.ensures, c.size-2.ensures)

pub loop-slot-preserved : goal.loop-slot-preserved
loop-slot-preserved c =
    let slots : List Slot = c.as_slice-slot-items.result.now in
    let k : ℕ = c.loop-slot.slot-index in
    let s : Slot = c.slot-item.result in
    let v = c.loop-slot.invariant in
    let left : drop k slots ≡ s ∷ drop (k + 1) slots = drop_more slots k s c.loop-slot-test.true ∙ (λ i. sym c.slot-item.is i ∷ drop (k + 1) slots) in
    let added : c.saturating_add-size.result ≡ min (c.loop-slot.size + min (slot_size s) 18446744073709551615) 18446744073709551615 = omega (arith, c.saturating_add-size.ensures, c.slot_size.ensures) in
    record {
      so_far = size_step c.loop-slot.size c.saturating_add-size.result _ 18446744073709551615 (drop k slots) (drop (k + 1) slots) s left added v.so_far;
      small = omega (arith, c.saturating_add-size.ensures);
      all = v.all;
    }

pub returns : goal.returns
returns c =
    let b : Board = c.args.board.now in
    let base : Contents = c.base_of-base.result.now in
    let v = c.loop-slot.invariant in
    let size : ℕ = c.loop-slot.size in
    let none : drop c.loop-slot.slot-index c.as_slice-slot-items.result.now ≡ [] = drop_all c.loop-slot.slot-index c.as_slice-slot-items.result.now (omega (arith, c.loop-slot-test.false)) in
    let all : size ≡ min (size + 0) 18446744073709551615 = omega (arith, v.small) in
    let within = base_within b c.args.place base c.base_of-base.ensures.board c.base_of-base.ensures.base in
    let whole : c.size.result - c.size-2.result + 1024 + c.jlr_size.result + sum_by slot_size c.args.slots.now ≡ board_size (replaced c.args.place c.args.slots.now b) =
    sizes_are b c.args.place c.args.slots.now base c.jlr_size.result (c.size.result - c.size-2.result) c.base_of-base.ensures.board c.base_of-base.ensures.base c.jlr_size.ensures.size
    (omega (arith, within, c.size.ensures, c.size-2.ensures)) in
    all
    ∙ (ap (λ (xs : List Slot). min (size + sum_by slot_size xs) 18446744073709551615) (sym none)
    ∙ (v.so_far ∙ ap (λ (n : ℕ). min n 18446744073709551615) whole))
