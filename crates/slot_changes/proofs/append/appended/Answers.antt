use Rattle.std.proofs.Common.{◌≡◌, ℕ, ◌+◌, List, length, Option, Some, sym, ap, ◌∙◌, subst, arith}
use Rattle.std.specs.Prelude.{All, IfOk, IsSomeAnd}
use Rattle.board_changes.specs.Change.{Becomes, ChangesBase}
use Rattle.board_changes.specs.Changed.{base_at, with_base}
use Rattle.board_changes.specs.Outlined.{KeepsEach, LeadsEach, MadeBy, with_changed}
use Rattle.board_changes.specs.Spending.{Spends}
use Rattle.board_changes.specs.declared.change.BoardChange.{BoardChange}
use Rattle.board_changes.proofs.BaseOutlines.{outline_with}
use Rattle.board_layout.proofs.OutlineLaws.{outline_valid}
use Rattle.board_layout.specs.Board.{Board}
use Rattle.board_layout.specs.Outlines.{board_outline}
use Rattle.board_layout.specs.Valid.{IsBoard}
use Rattle.board_layout.proofs.jam_base.ChangeClauses.{one_ok}
use Rattle.board_layout.specs.jam_base.Contents.{Contents, with_messages}
use Rattle.board_layout.specs.jam_base.Outlined.{outlined}
use Rattle.board_layout.specs.jam_base.declared.change.BaseChange.{BaseChange}
use Rattle.jam_layout.specs.Messages.{IsMessage}
use Rattle.jam_records.specs.declared.message.Message.{Message}
use Rattle.slot_changes.proofs.AppendLaws.{appended_few, appended_messages, appended_spends, appended_there, changes, copies_are}
use Rattle.slot_changes.proofs.EachSlots.{appended_leads}
use Rattle.slot_changes.proofs.MsgidLaws.{identified_count}
use Rattle.slot_changes.specs.Changed.{appended}
use Rattle.slot_changes.specs.Msgids.{all_identified, generated, msgid_in}
use Rattle.slot_changes.proofs.append.appended.Goals as goal

-- the board with the base that was made is the outline of the wanted one
next_is : (b : Board) (place : ℕ) (base made : Contents) (messages copies : List Message) → IsBoard b → board_outline b ≡ b → base_at place b ≡ Some base → made ≡ outlined (with_messages copies base) → copies ≡ all_identified (msgid_in place b) (length base.conference.slots + 1) messages
    → with_base place (Some made) b ≡ board_outline (appended place messages b)
next_is b place base made messages copies ok own here is are =
    ap (λ (c : Contents). with_base place (Some c) b) (is ∙ ap (λ (ms : List Message). outlined (with_messages ms base)) are)
    ∙ (sym (outline_with b place (with_messages (all_identified (msgid_in place b) (length base.conference.slots + 1) messages) base) own) ∙ ap board_outline (sym (appended_there b place messages base ok here)))

pub overflow_add-first : goal.overflow_add-first
overflow_add-first c =
    let few = appended_few c.args.board.now c.args.place c.args.messages.now c.base_of-base.result.now c.base_of-base.ensures.board c.base_of-base.ensures.base c.requires.next in
    omega (arith, few, c.slot_count-first.ensures)

pub all_identified-requires : goal.all_identified-requires
all_identified-requires c =
    let few = appended_few c.args.board.now c.args.place c.args.messages.now c.base_of-base.result.now c.base_of-base.ensures.board c.base_of-base.ensures.base c.requires.next in
    omega (arith, few, c.slot_count-first.ensures, ap length c.as_slice.ensures)

pub extended-requires-clause-messages : goal.extended-requires-clause-messages
extended-requires-clause-messages c =
    let b : Board = c.args.board.now in
    let base : Contents = c.base_of-base.result.now in
    let are = copies_are b c.args.place c.conference_of.result.now base c.as_slice-bbsid.result.now c.ledger.result.now c.slot_count-first.result c.as_slice.result.now c.args.messages.now c.in_ok-messages.messages
    c.conference_of.ensures (c.as_slice-bbsid.ensures.same ∙ c.bbsid.ensures) c.ledger.ensures.ledger c.slot_count-first.ensures c.as_slice.ensures c.in_ok-messages.ensures in
    subst (All (IsMessage base.shape.kind)) (sym are) (appended_messages b c.args.place c.args.messages.now base c.base_of-base.ensures.board c.base_of-base.ensures.base c.requires.next)

pub extended-requires-clause-few : goal.extended-requires-clause-few
extended-requires-clause-few c =
    let few = appended_few c.args.board.now c.args.place c.args.messages.now c.base_of-base.result.now c.base_of-base.ensures.board c.base_of-base.ensures.base c.requires.next in
    omega (arith, few, ap length c.in_ok-messages.ensures, identified_count (generated c.conference_of.result.now.number c.as_slice-bbsid.result.now) (c.slot_count-first.result + 1) c.as_slice.result.now, ap length c.as_slice.ensures)

pub with_base-requires-clause-change : goal.with_base-requires-clause-change
with_base-requires-clause-change c =
    let made : BaseChange = c.in_ok-extended.field-0 in
    subst (λ (o : Option Contents). IsSomeAnd o (λ old. ChangesBase old made)) (sym c.base_of-base.ensures.base)
    (changes c.base_of-base.result.now c.in_ok-messages.messages made c.in_ok-extended.ensures.base c.in_ok-extended.ensures.intent)

pub with_base-requires-clause-next : goal.with_base-requires-clause-next
with_base-requires-clause-next c =
    let b : Board = c.args.board.now in
    let base : Contents = c.base_of-base.result.now in
    let are = copies_are b c.args.place c.conference_of.result.now base c.as_slice-bbsid.result.now c.ledger.result.now c.slot_count-first.result c.as_slice.result.now c.args.messages.now c.in_ok-messages.messages
    c.conference_of.ensures (c.as_slice-bbsid.ensures.same ∙ c.bbsid.ensures) c.ledger.ensures.ledger c.slot_count-first.ensures c.as_slice.ensures c.in_ok-messages.ensures in
    subst IsBoard (sym (next_is b c.args.place base c.in_ok-extended.field-0.base c.args.messages.now c.in_ok-messages.messages c.base_of-base.ensures.board c.base_of-base.ensures.outline c.base_of-base.ensures.base c.in_ok-extended.ensures.base are)) (outline_valid (appended c.args.place c.args.messages.now b) c.requires.next)

pub returns-clause-becomes : goal.returns-clause-becomes
returns-clause-becomes c =
    let b : Board = c.args.board.now in
    let base : Contents = c.base_of-base.result.now in
    let are = copies_are b c.args.place c.conference_of.result.now base c.as_slice-bbsid.result.now c.ledger.result.now c.slot_count-first.result c.as_slice.result.now c.args.messages.now c.in_ok-messages.messages
    c.conference_of.ensures (c.as_slice-bbsid.ensures.same ∙ c.bbsid.ensures) c.ledger.ensures.ledger c.slot_count-first.ensures c.as_slice.ensures c.in_ok-messages.ensures in
    subst (λ (next : Board). IfOk c.with_base.result (Becomes b next))
    (next_is b c.args.place base c.in_ok-extended.field-0.base c.args.messages.now c.in_ok-messages.messages c.base_of-base.ensures.board c.base_of-base.ensures.outline c.base_of-base.ensures.base c.in_ok-extended.ensures.base are) c.with_base.ensures.becomes

pub returns-clause-costs : goal.returns-clause-costs
returns-clause-costs c =
    let b : Board = c.args.board.now in
    let base : Contents = c.base_of-base.result.now in
    let made : BaseChange = c.in_ok-extended.field-0 in
    let are = copies_are b c.args.place c.conference_of.result.now base c.as_slice-bbsid.result.now c.ledger.result.now c.slot_count-first.result c.as_slice.result.now c.args.messages.now c.in_ok-messages.messages
    c.conference_of.ensures (c.as_slice-bbsid.ensures.same ∙ c.bbsid.ensures) c.ledger.ensures.ledger c.slot_count-first.ensures c.as_slice.ensures c.in_ok-messages.ensures in
    let next = next_is b c.args.place base made.base c.args.messages.now c.in_ok-messages.messages c.base_of-base.ensures.board c.base_of-base.ensures.outline c.base_of-base.ensures.base c.in_ok-extended.ensures.base are in
    let many : length c.in_ok-messages.messages ≡ length c.args.messages.now =
    omega (arith, ap length c.in_ok-messages.ensures, identified_count (generated c.conference_of.result.now.number c.as_slice-bbsid.result.now) (c.slot_count-first.result + 1) c.as_slice.result.now, ap length c.as_slice.ensures) in
    one_ok (λ (change : BoardChange). change.intent ≡ made.patches) (λ (change : BoardChange). Spends (length c.args.messages.now) b (appended c.args.place c.args.messages.now b) change.intent) c.with_base.result
    (λ change same. appended_spends b c.args.place c.args.messages.now c.in_ok-messages.messages base made change.intent c.base_of-base.ensures.board c.base_of-base.ensures.base c.in_ok-extended.ensures.base many c.in_ok-extended.ensures.costs same next)
    c.with_base.ensures.patches

pub returns-clause-each : goal.returns-clause-each
returns-clause-each c =
    let b : Board = c.args.board.now in
    let base : Contents = c.base_of-base.result.now in
    let made : BaseChange = c.in_ok-extended.field-0 in
    let are = copies_are b c.args.place c.conference_of.result.now base c.as_slice-bbsid.result.now c.ledger.result.now c.slot_count-first.result c.as_slice.result.now c.args.messages.now c.in_ok-messages.messages
    c.conference_of.ensures (c.as_slice-bbsid.ensures.same ∙ c.bbsid.ensures) c.ledger.ensures.ledger c.slot_count-first.ensures c.as_slice.ensures c.in_ok-messages.ensures in
    one_ok (λ (change : BoardChange). (f : Contents → Contents) → IsSomeAnd (base_at c.args.place b) (MadeBy f made) → KeepsEach b (with_changed c.args.place f) → LeadsEach b (with_changed c.args.place f) change.intent)
    (λ (change : BoardChange). LeadsEach b (appended c.args.place c.args.messages.now) change.intent) c.with_base.result
    (λ change leads. appended_leads b c.args.place c.args.messages.now base c.base_of-base.ensures.board c.base_of-base.ensures.base made c.in_ok-messages.messages change.intent c.requires.next c.in_ok-extended.ensures.base are c.in_ok-extended.ensures.each leads)
    c.with_base.ensures.each
