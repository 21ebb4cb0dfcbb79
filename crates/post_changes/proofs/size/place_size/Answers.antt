use Rattle.std.proofs.Common.{ℕ, ◌+◌, List, min, refl, ap, ◌∙◌}
use Rattle.std.specs.Prelude.{sum_by}
use Rattle.board_layout.specs.Board.{Board}
use Rattle.board_layout.specs.jam_base.Contents.{Contents}
use Rattle.jam_records.specs.declared.message.Message.{Message}
use Rattle.post_changes.proofs.PlacePosts.{place_there}
use Rattle.post_changes.specs.Posted.{posts_in}
use Rattle.slot_changes.proofs.AppendLaws.{copies_are}
use Rattle.slot_changes.proofs.SlotBytes.{message_size}
use Rattle.slot_changes.specs.Msgids.{all_identified, generated}
use Rattle.post_changes.proofs.size.place_size.Goals as goal

pub conference_of-requires : goal.conference_of-requires
conference_of-requires c = place_there c.args.board.now c.args.place c.args.base.now c.requires

pub returns : goal.returns
returns c =
    let b : Board = c.args.board.now in
    let base : Contents = c.args.base.now in
    let messages : List Message = posts_in c.args.place c.args.posts.now in
    let conference : ℕ = c.conference_of.result.now.number in
    let bbsid : List ℕ = c.as_slice-bbsid.result.now in
    let first : ℕ = c.from-first.result + 1 in
    let are = copies_are b c.args.place c.conference_of.result.now base bbsid c.ledger.result.now c.from-first.result messages messages (all_identified (generated conference bbsid) first messages)
    c.conference_of.ensures (c.as_slice-bbsid.ensures.same ∙ c.bbsid.ensures) c.ledger.ensures.ledger (c.from-first.ensures ∙ c.slot_count.ensures) refl refl in
    c.copies_size.ensures ∙ ap (λ (ms : List Message). min (sum_by message_size ms) 18446744073709551615) are
