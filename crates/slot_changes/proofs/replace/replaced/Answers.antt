use Rattle.std.proofs.Common.{◌≡◌, ℕ, List, length, Option, Some, sym, ap, ◌∙◌, subst}
use Rattle.std.specs.Prelude.{IfOk, IsSomeAnd}
use Rattle.board_changes.proofs.BaseOutlines.{outline_with}
use Rattle.board_changes.specs.Change.{Becomes, ChangesBase}
use Rattle.board_changes.specs.Changed.{base_at, with_base}
use Rattle.board_changes.specs.Outlined.{KeepsEach, LeadsEach, MadeBy, with_changed}
use Rattle.board_changes.specs.declared.change.BoardChange.{BoardChange}
use Rattle.board_layout.proofs.OutlineLaws.{base_again, outline_valid}
use Rattle.board_layout.specs.Board.{Board}
use Rattle.board_layout.specs.Outlines.{board_outline}
use Rattle.board_layout.specs.Valid.{IsBoard}
use Rattle.board_layout.proofs.jam_base.ChangeClauses.{one_ok}
use Rattle.board_layout.specs.jam_base.Contents.{Contents, with_slots}
use Rattle.board_layout.specs.jam_base.Outlined.{outlined}
use Rattle.board_layout.specs.jam_base.declared.change.BaseChange.{BaseChange}
use Rattle.jam_records.specs.declared.message.Slot.{Slot}
use Rattle.slot_changes.proofs.ReplaceLaws.{many_there, replaced_changes, replaced_keeps, replaced_made, replaced_there, slots_fit, slots_place}
use Rattle.slot_changes.specs.Packed.{replaced}
use Rattle.slot_changes.proofs.replace.replaced.Goals as goal

-- the board with the base that was made is the outline of the wanted one
next_is : (b : Board) (place : ℕ) (base made : Contents) (slots : List Slot) → IsBoard b → board_outline b ≡ b → base_at place b ≡ Some base → made ≡ outlined (with_slots slots base) → with_base place (Some made) b ≡ board_outline (replaced place slots b)
next_is b place base made slots ok own here is =
    ap (λ (c : Contents). with_base place (Some c) b) is
    ∙ (sym (outline_with b place (with_slots slots base) own) ∙ ap board_outline (sym (replaced_there b place slots base ok here)))

pub base_of-requires : goal.base_of-requires
base_of-requires c = slots_place c.args.board.now c.args.place (length c.args.slots.now) c.requires.fits.0

pub replaced-requires-clause-count : goal.replaced-requires-clause-count
replaced-requires-clause-count c = sym (many_there c.args.board.now c.args.place c.args.slots.now c.base_of.result.now c.base_of.ensures.board c.base_of.ensures.base c.requires.fits.0)

pub replaced-requires-clause-slots : goal.replaced-requires-clause-slots
replaced-requires-clause-slots c = slots_fit c.args.board.now c.args.place c.args.slots.now c.base_of.result.now c.base_of.ensures.board c.base_of.ensures.base c.requires.fits.1

pub with_base-requires-clause-change : goal.with_base-requires-clause-change
with_base-requires-clause-change c =
    let made : BaseChange = c.in_ok-change.change in
    subst (λ (o : Option Contents). IsSomeAnd o (λ old. ChangesBase old made)) (sym c.base_of.ensures.base)
    (replaced_changes c.args.slots.now c.base_of.result.now made c.in_ok-change.ensures.base c.in_ok-change.ensures.intent)

pub with_base-requires-clause-next : goal.with_base-requires-clause-next
with_base-requires-clause-next c =
    let b : Board = c.args.board.now in
    subst IsBoard (sym (next_is b c.args.place c.base_of.result.now c.in_ok-change.change.base c.args.slots.now c.base_of.ensures.board c.base_of.ensures.outline c.base_of.ensures.base c.in_ok-change.ensures.base))
    (outline_valid (replaced c.args.place c.args.slots.now b) c.requires.fits.1)

pub returns-clause-becomes : goal.returns-clause-becomes
returns-clause-becomes c =
    let b : Board = c.args.board.now in
    subst (λ (next : Board). IfOk c.with_base.result (Becomes b next))
    (next_is b c.args.place c.base_of.result.now c.in_ok-change.change.base c.args.slots.now c.base_of.ensures.board c.base_of.ensures.outline c.base_of.ensures.base c.in_ok-change.ensures.base) c.with_base.ensures.becomes

pub returns-clause-each : goal.returns-clause-each
returns-clause-each c =
    let b : Board = c.args.board.now in
    let base : Contents = c.base_of.result.now in
    let made : BaseChange = c.in_ok-change.change in
    one_ok (λ (change : BoardChange). (f : Contents → Contents) → IsSomeAnd (base_at c.args.place b) (MadeBy f made) → KeepsEach b (with_changed c.args.place f) → LeadsEach b (with_changed c.args.place f) change.intent)
    (λ (change : BoardChange). LeadsEach b (replaced c.args.place c.args.slots.now) change.intent) c.with_base.result
    (λ change leads. leads (with_slots c.args.slots.now)
    (replaced_made b c.args.place c.args.slots.now base made c.base_of.ensures.base c.in_ok-change.ensures.base (base_again (with_slots c.args.slots.now base)) c.in_ok-change.ensures.each)
    (replaced_keeps b c.args.place c.args.slots.now base c.base_of.ensures.board c.base_of.ensures.base c.requires.fits))
    c.with_base.ensures.each
