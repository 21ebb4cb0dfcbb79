use Rattle.std.proofs.Common.{◌≡◌, true, false, Option, sym, ap, ◌∙◌, subst}
use Rattle.std.specs.Prelude.{option_map, IfSome}
use Rattle.board_layout.specs.Board.{Board}
use Rattle.board_layout.specs.Lookups.{held_in, slots_in}
use Rattle.board_layout.specs.Outlines.{HasBody}
use Rattle.board_layout.specs.jam_base.Slots.{numbered}
use Rattle.jam_layout.specs.Outlines.{message_outline, slot_outline}
use Rattle.jam_records.specs.declared.message.Message.{Message}
use Rattle.jam_records.specs.declared.message.Slot.{Slot}
use Rattle.jam_records.specs.declared.message.Slot.TheVariants.{Held}
use Rattle.mail_board.proofs.OneHost.{alike_held}
use Rattle.slot_changes.specs.Packed.{is_deleted}
use Rattle.jam_pack.proofs.FetchedSlots.{gone_packed, held_packed, mark_alike, none_like, none_packed, outline_packed}
use Rattle.jam_pack.proofs.fetching.fetched.Goals as goal

-- ---- a deleted message
pub returns-then-is_deleted-clause-slot : goal.returns-then-is_deleted-clause-slot
returns-then-is_deleted-clause-slot g c = λ tells b holds.
    let held : Board = c.args.board.now.board in
    let alike = alike_held held (g.H.Host.disk c.args.host.now) (c.requires.rests tells) b holds in
    let mark : is_deleted (numbered (slots_in b c.args.place) c.args.number) ≡ true =
    mark_alike b held alike c.args.place c.args.number ∙ (ap (λ slots. is_deleted (numbered slots c.args.number)) (sym c.requires.base) ∙ (sym c.is_deleted.ensures ∙ c.if-is_deleted.true)) in
    sym (gone_packed (numbered (slots_in b c.args.place) c.args.number) mark)

pub returns-then-is_deleted-clause-outline : goal.returns-then-is_deleted-clause-outline
returns-then-is_deleted-clause-outline g c =
    let slot : Slot = numbered (slots_in c.args.board.now.board c.args.place) c.args.number in
    let mark : is_deleted slot ≡ true = ap (λ slots. is_deleted (numbered slots c.args.number)) (sym c.requires.base) ∙ (sym c.is_deleted.ensures ∙ c.if-is_deleted.true) in
    ap slot_outline (sym (gone_packed slot mark))

-- ---- one that stays
pub returns-in-Some-clause-slot : goal.returns-in-Some-clause-slot
returns-in-Some-clause-slot g c = λ tells b holds.
    let held : Board = c.args.board.now.board in
    let slot : Slot = numbered (slots_in b c.args.place) c.args.number in
    let alike = alike_held held (g.H.Host.disk c.args.host.now) (c.requires.rests tells) b holds in
    let mark : is_deleted slot ≡ false =
    mark_alike b held alike c.args.place c.args.number ∙ (ap (λ slots. is_deleted (numbered slots c.args.number)) (sym c.requires.base) ∙ (sym c.is_deleted.ensures ∙ c.if-is_deleted.false)) in
    sym (held_packed slot c.in-Some.message mark (sym (c.in_ok-message.ensures.message tells b holds) ∙ c.in-Some.is))

pub returns-in-Some-clause-outline : goal.returns-in-Some-clause-outline
returns-in-Some-clause-outline g c =
    let held : Board = c.args.board.now.board in
    let slot : Slot = numbered (slots_in held c.args.place) c.args.number in
    let mark : is_deleted slot ≡ false = ap (λ slots. is_deleted (numbered slots c.args.number)) (sym c.requires.base) ∙ (sym c.is_deleted.ensures ∙ c.if-is_deleted.false) in
    outline_packed slot c.in-Some.message mark
    (ap (option_map message_outline) (sym c.in-Some.is) ∙ c.in_ok-message.ensures.outline)

pub returns-in-Some-clause-lines : goal.returns-in-Some-clause-lines
returns-in-Some-clause-lines g c = subst (λ (o : Option Message). IfSome o (λ (m : Message). HasBody (Held m))) c.in-Some.is c.in_ok-message.ensures.lines

-- ---- none
pub returns-in-None-clause-slot : goal.returns-in-None-clause-slot
returns-in-None-clause-slot g c = λ tells b holds.
    sym (none_packed (numbered (slots_in b c.args.place) c.args.number) (sym (c.in_ok-message.ensures.message tells b holds) ∙ c.in-None.is))

pub returns-in-None-clause-outline : goal.returns-in-None-clause-outline
returns-in-None-clause-outline g c =
    let held : Board = c.args.board.now.board in
    let slot : Slot = numbered (slots_in held c.args.place) c.args.number in
    let none = none_like (held_in slot)
    (ap (option_map message_outline) (sym c.in-None.is) ∙ c.in_ok-message.ensures.outline) in
    ap slot_outline (sym (none_packed slot none))
