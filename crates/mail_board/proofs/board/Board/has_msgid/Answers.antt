use Rattle.std.proofs.Common.{false, List, sym, ap, ◌∙◌, arith}
use Rattle.std.specs.List.{list_any}
use Rattle.std.specs.Option.{option_map_or}
use Rattle.jam_layout.specs.declared.conference.ConferenceContents.{ConferenceContents}
use Rattle.jam_records.specs.declared.message.Slot.{Slot}
use Rattle.jam_layout.specs.jam_threads.Children.{has_msgid}
use Rattle.mail_board.proofs.MsgidTests.{any_all, any_here, none_next}
use Rattle.mail_board.proofs.board.Board.has_msgid.Goals as goal

pub loop-before-preserved : goal.loop-before-preserved
loop-before-preserved c =
    let slots : List Slot = c.base-base.result.now.conference.slots in
    none_next (has_msgid c.args.msgid.now) slots c.loop-before.before (omega (arith, c.slot_count-before-end.ensures)) c.holds_msgid.result c.loop-before.invariant c.holds_msgid.ensures c.if-holds_msgid.false

pub returns-then-holds_msgid : goal.returns-then-holds_msgid
returns-then-holds_msgid c =
    let slots : List Slot = c.base-base.result.now.conference.slots in
    sym (any_here (has_msgid c.args.msgid.now) slots c.loop-before.before (omega (arith, c.slot_count-before-end.ensures)) c.holds_msgid.result c.holds_msgid.ensures c.if-holds_msgid.true)
    ∙ ap (λ o. option_map_or (λ (k : ConferenceContents). list_any (has_msgid c.args.msgid.now) k.slots) o false) c.base-base.ensures

pub returns : goal.returns
returns c =
    let slots : List Slot = c.base-base.result.now.conference.slots in
    sym c.loop-before.invariant ∙ (any_all (has_msgid c.args.msgid.now) slots c.loop-before.before (omega (arith, c.slot_count-before-end.ensures))
    ∙ ap (λ o. option_map_or (λ (k : ConferenceContents). list_any (has_msgid c.args.msgid.now) k.slots) o false) c.base-base.ensures)
