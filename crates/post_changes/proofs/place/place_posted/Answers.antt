use Rattle.std.proofs.Common.{◌≡◌, ◌≢◌, ◌+◌, List, [], length, refl, sym, ap, ◌∙◌, subst, arith}
use Rattle.std.specs.Prelude.{All}
use Rattle.std.proofs.lemmas.Bool.{eqb-false, eqb-true}
use Rattle.std.proofs.lemmas.List.{nil_from_length}
use Rattle.slot_changes.proofs.board_changes.BaseOutlines.{own_base}
use Rattle.board_layout.specs.Board.{Board}
use Rattle.board_layout.specs.jam_base.Contents.{Contents}
use Rattle.board_layout.specs.jam_base.Outlined.{outlined}
use Rattle.board_layout.specs.jam_layout.Messages.{IsMessage}
use Rattle.jam_records.specs.declared.message.Message.{Message}
use Rattle.post_changes.proofs.EachPost.{nothing_each, posted_each}
use Rattle.post_changes.proofs.PlacePosts.{none_posted, place_there, posted_few, posted_messages, some_posted}
use Rattle.post_changes.specs.Posted.{posts_in}
use Rattle.slot_changes.proofs.AppendLaws.{changes, copies_are}
use Rattle.slot_changes.proofs.MsgidLaws.{identified_count}
use Rattle.slot_changes.specs.Msgids.{generated}
use Rattle.post_changes.proofs.place.place_posted.Goals as goal

pub conference_of-requires : goal.conference_of-requires
conference_of-requires c = place_there c.args.board.now c.args.place c.args.base.now c.requires.base

pub overflow_add-first : goal.overflow_add-first
overflow_add-first c = omega (arith, c.slot_count-first.ensures, posted_few c.args.board.now c.args.posts.now c.args.place c.args.base.now c.requires.next)

pub copies_in-requires : goal.copies_in-requires
copies_in-requires c = omega (arith, c.slot_count-first.ensures, posted_few c.args.board.now c.args.posts.now c.args.place c.args.base.now c.requires.next)

pub extended-requires-clause-messages : goal.extended-requires-clause-messages
extended-requires-clause-messages c =
    let b : Board = c.args.board.now in
    let base : Contents = c.args.base.now in
    let messages : List Message = posts_in c.args.place c.args.posts.now in
    let are = copies_are b c.args.place c.conference_of.result.now base c.as_slice-bbsid.result.now c.ledger.result.now c.slot_count-first.result messages messages c.in_ok-messages.messages
    c.conference_of.ensures (c.as_slice-bbsid.ensures.same ∙ c.bbsid.ensures) c.ledger.ensures.ledger c.slot_count-first.ensures refl c.in_ok-messages.ensures in
    subst (All (IsMessage base.shape.kind)) (sym are) (posted_messages b c.args.posts.now c.args.place base c.requires.next)

pub extended-requires-clause-few : goal.extended-requires-clause-few
extended-requires-clause-few c =
    omega (
      arith,
      posted_few c.args.board.now c.args.posts.now c.args.place c.args.base.now c.requires.next,
      ap (length {A = Message}) c.in_ok-messages.ensures,
      identified_count (generated c.conference_of.result.now.number c.as_slice-bbsid.result.now) (c.slot_count-first.result + 1) (posts_in c.args.place c.args.posts.now),
    )

pub returns-then-is_empty-clause-base : goal.returns-then-is_empty-clause-base
returns-then-is_empty-clause-base c =
    let b : Board = c.args.board.now in
    let base : Contents = c.args.base.now in
    let messages : List Message = posts_in c.args.place c.args.posts.now in
    let are = copies_are b c.args.place c.conference_of.result.now base c.as_slice-bbsid.result.now c.ledger.result.now c.slot_count-first.result messages messages c.in_ok-messages.messages
    c.conference_of.ensures (c.as_slice-bbsid.ensures.same ∙ c.bbsid.ensures) c.ledger.ensures.ledger c.slot_count-first.ensures refl c.in_ok-messages.ensures in
    let none : c.as_slice.result.now ≡ [] = nil_from_length c.as_slice.result.now (eqb-true (length c.as_slice.result.now) 0 (sym c.is_empty.ensures ∙ c.if-is_empty.true)) in
    sym (own_base b c.args.place base c.ledger.ensures.outline c.requires.base) ∙ ap outlined (none_posted b c.args.posts.now c.args.place base c.in_ok-messages.messages are (sym c.as_slice.ensures ∙ none))

pub returns-clause-base : goal.returns-clause-base
returns-clause-base c =
    let b : Board = c.args.board.now in
    let base : Contents = c.args.base.now in
    let messages : List Message = posts_in c.args.place c.args.posts.now in
    let are = copies_are b c.args.place c.conference_of.result.now base c.as_slice-bbsid.result.now c.ledger.result.now c.slot_count-first.result messages messages c.in_ok-messages.messages
    c.conference_of.ensures (c.as_slice-bbsid.ensures.same ∙ c.bbsid.ensures) c.ledger.ensures.ledger c.slot_count-first.ensures refl c.in_ok-messages.ensures in
    some_posted b c.args.posts.now c.args.place base c.in_ok-messages.messages c.in_ok-extended.field-0.base are c.in_ok-extended.ensures.base

pub returns-clause-changes : goal.returns-clause-changes
returns-clause-changes c = changes c.args.base.now c.in_ok-messages.messages c.in_ok-extended.field-0 c.in_ok-extended.ensures.base c.in_ok-extended.ensures.intent

pub returns-then-is_empty-clause-costs : goal.returns-then-is_empty-clause-costs
returns-then-is_empty-clause-costs c = record { few = omega arith; grown = omega arith }

pub returns-clause-costs : goal.returns-clause-costs
returns-clause-costs c =
    let costs = c.in_ok-extended.ensures.costs in
    let some : length c.as_slice.result.now ≢ 0 = eqb-false (length c.as_slice.result.now) 0 (sym c.is_empty.ensures ∙ c.if-is_empty.false) in
    let same : length c.as_slice.result.now ≡ length c.in_ok-messages.messages = ap length c.as_slice.ensures in
    let many : length c.in_ok-messages.messages ≡ length (posts_in c.args.place c.args.posts.now) =
    omega (arith, ap (length {A = Message}) c.in_ok-messages.ensures, identified_count (generated c.conference_of.result.now.number c.as_slice-bbsid.result.now) (c.slot_count-first.result + 1) (posts_in c.args.place c.args.posts.now)) in
    record { few = omega (arith, costs.few, some, same, many); grown = omega (arith, costs.short, some, same, many) }

pub returns-then-is_empty-clause-each : goal.returns-then-is_empty-clause-each
returns-then-is_empty-clause-each c =
    let b : Board = c.args.board.now in
    let base : Contents = c.args.base.now in
    let messages : List Message = posts_in c.args.place c.args.posts.now in
    let are = copies_are b c.args.place c.conference_of.result.now base c.as_slice-bbsid.result.now c.ledger.result.now c.slot_count-first.result messages messages c.in_ok-messages.messages
    c.conference_of.ensures (c.as_slice-bbsid.ensures.same ∙ c.bbsid.ensures) c.ledger.ensures.ledger c.slot_count-first.ensures refl c.in_ok-messages.ensures in
    let none : c.as_slice.result.now ≡ [] = nil_from_length c.as_slice.result.now (eqb-true (length c.as_slice.result.now) 0 (sym c.is_empty.ensures ∙ c.if-is_empty.true)) in
    posted_each b c.args.posts.now c.args.place base c.in_ok-messages.messages [] are (nothing_each base c.in_ok-messages.messages (sym c.as_slice.ensures ∙ none))

pub returns-clause-each : goal.returns-clause-each
returns-clause-each c =
    let b : Board = c.args.board.now in
    let base : Contents = c.args.base.now in
    let messages : List Message = posts_in c.args.place c.args.posts.now in
    let are = copies_are b c.args.place c.conference_of.result.now base c.as_slice-bbsid.result.now c.ledger.result.now c.slot_count-first.result messages messages c.in_ok-messages.messages
    c.conference_of.ensures (c.as_slice-bbsid.ensures.same ∙ c.bbsid.ensures) c.ledger.ensures.ledger c.slot_count-first.ensures refl c.in_ok-messages.ensures in
    posted_each b c.args.posts.now c.args.place base c.in_ok-messages.messages c.in_ok-extended.field-0.patches are c.in_ok-extended.ensures.each
