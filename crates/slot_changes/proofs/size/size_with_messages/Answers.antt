use Rattle.std.proofs.Common.{◌≡◌, ℕ, ◌+◌, List, [], drop, min, refl, sym, ap, ◌∙◌, arith}
use Rattle.std.specs.Prelude.{sum_by}
use Rattle.std.proofs.lemmas.List.{drop_all}
use Rattle.board_layout.specs.Board.{Board}
use Rattle.board_layout.specs.Layout.{board_size}
use Rattle.board_layout.specs.jam_base.Contents.{Contents}
use Rattle.jam_records.specs.declared.message.Message.{Message}
use Rattle.slot_changes.proofs.AppendLaws.{appended_size, copies_are}
use Rattle.slot_changes.proofs.SlotBytes.{message_size}
use Rattle.slot_changes.specs.Changed.{appended}
use Rattle.slot_changes.specs.Msgids.{all_identified, generated}
use Rattle.slot_changes.proofs.size.size_with_messages.Goals as goal

pub returns : goal.returns
returns c =
    let b : Board = c.args.board.now in
    let base : Contents = c.base_of.result.now in
    let messages : List Message = c.args.messages.now in
    let first : ℕ = c.from-first.result + 1 in
    let conference : ℕ = c.conference_of.result.now.number in
    let bbsid : List ℕ = c.as_slice-bbsid.result.now in
    let size : ℕ = c.loop-index.size in
    let v = c.loop-index.invariant in
    let are = copies_are b c.args.place c.conference_of.result.now base bbsid c.ledger.result.now c.from-first.result messages messages (all_identified (generated conference bbsid) first messages)
    c.conference_of.ensures (c.as_slice-bbsid.ensures.same ∙ c.bbsid.ensures) c.ledger.ensures.ledger (c.from-first.ensures ∙ c.slot_count.ensures) refl refl in
    let none : drop c.loop-index.index c.as_slice-message-items.result.now ≡ [] = drop_all c.loop-index.index c.as_slice-message-items.result.now (omega arith) in
    let all : size ≡ min (size + 0) 18446744073709551615 = omega (arith, v.small) in
    let whole : c.size-size.result + sum_by message_size (all_identified (generated conference bbsid) first messages) ≡ board_size (appended c.args.place messages b) = omega (arith, c.size-size.ensures, ap (sum_by message_size) are, appended_size b c.args.place messages base c.ledger.ensures.board c.base_of.ensures.base) in
    all ∙ (ap (λ (ms : List Message). min (size + sum_by message_size (all_identified (generated conference bbsid) (first + c.loop-index.index) ms)) 18446744073709551615) (sym none) ∙ (v.so_far ∙ ap (λ (n : ℕ). min n 18446744073709551615) whole))
