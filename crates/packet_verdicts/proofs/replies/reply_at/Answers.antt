use Rattle.std.proofs.Common.{◌≡◌, ℕ, ◌-◌, ◌<◌, ◌&&◌, not, cond, List, [], length, sym, ap, ◌∙◌, arith}
use Rattle.std.specs.Prelude.{slice_get, None, Some}
use Rattle.std.proofs.lemmas.Result.{IfOk-weaker}
use Rattle.offered_packets.specs.Sees.{may_see}
use Rattle.board_layout.specs.Lookups.{slots_in}
use Rattle.packet_verdicts.proofs.DraftLists.{found_fresh}
use Rattle.packet_verdicts.proofs.Places.{small_place}
use Rattle.packet_verdicts.proofs.ReplyLaws.{reply_draft, reply_kept, reply_none}
use Rattle.post_changes.specs.Posted.{posts_in, spread}
use Rattle.packet_verdicts.specs.Views.{reply_at, user_with}
use Rattle.post_changes.specs.slot_changes.Msgids.{msgid_in}
use Rattle.packet_verdicts.proofs.replies.reply_at.Goals as goal

pub returns-then-number-kept : goal.returns-then-number-kept
returns-then-number-kept c =
    let b = c.args.board.now in
    let posts = c.args.accepted.now.posts in
    let is = reply_kept b posts c.args.user c.args.place c.args.number c.slot_count-kept.ensures.board c.requires.place (omega (arith, c.if-number-kept.true, c.slot_count-kept.ensures.count)) in
    IfOk-weaker c.kept_reply.result (λ (msgid : List ℕ). msgid ≡ reply_at b c.args.user c.args.place c.args.number) (λ (msgid : List ℕ). msgid ≡ reply_at (spread posts b) c.args.user c.args.place c.args.number) (λ msgid same. same ∙ is) c.kept_reply.ensures

pub draft-requires-clause-place : goal.draft-requires-clause-place
draft-requires-clause-place c = small_place c.args.board.now c.args.place c.slot_count-kept.ensures.board c.requires.place

pub returns-in-Some : goal.returns-in-Some
returns-in-Some c =
    let b = c.args.board.now in
    let posts = c.args.accepted.now.posts in
    let place = c.args.place in
    let number = c.args.number in
    let draft = c.in-Some.draft.now in
    let behind : ℕ = number - length (slots_in b place) - 1 in
    let high : length (slots_in b place) < number = omega (arith, c.if-number-kept.false, c.slot_count-kept.ensures.count) in
    let same : number - c.slot_count-kept.result - 1 ≡ behind = omega (arith, c.slot_count-kept.ensures.count) in
    let here : slice_get (posts_in place posts) behind ≡ Some draft = sym (c.in-Some.ensures ∙ ap (slice_get (posts_in place posts)) same) in
    let is = reply_draft b posts c.args.user place number c.slot_count-kept.ensures.board c.requires.place high draft here (found_fresh posts place behind draft c.requires.indexed.drafts here) c.requires.user in
    IfOk-weaker c.draft_reply.result (λ (msgid : List ℕ). msgid ≡ cond (not draft.deleted && may_see b.ledger place (user_with c.args.user b) draft) (msgid_in place b number) [])
    (λ (msgid : List ℕ). msgid ≡ reply_at (spread posts b) c.args.user place number) (λ msgid alike. alike ∙ is) c.draft_reply.ensures

pub returns-in-None : goal.returns-in-None
returns-in-None c =
    let b = c.args.board.now in
    let posts = c.args.accepted.now.posts in
    let place = c.args.place in
    let number = c.args.number in
    let behind : ℕ = number - length (slots_in b place) - 1 in
    let high : length (slots_in b place) < number = omega (arith, c.if-number-kept.false, c.slot_count-kept.ensures.count) in
    let same : number - c.slot_count-kept.result - 1 ≡ behind = omega (arith, c.slot_count-kept.ensures.count) in
    let none : slice_get (posts_in place posts) behind ≡ None = sym (c.in-None.ensures ∙ ap (slice_get (posts_in place posts)) same) in
    c.new.ensures ∙ reply_none b posts c.args.user place number c.slot_count-kept.ensures.board c.requires.place high none
