use Rattle.std.proofs.Common.{◌≡◌, ℕ, ◌+◌, ◌<◌, List, length, sym, ap, ◌∙◌, arith}
use Rattle.std.proofs.lemmas.Result.{IfOk-weaker}
use Rattle.board_layout.proofs.BoardLookups.{conferences_count}
use Rattle.board_layout.specs.Board.{Board}
use Rattle.board_layout.specs.Lookups.{slots_in}
use Rattle.packet_verdicts.specs.Views.{msgid_at}
use Rattle.post_changes.specs.Posted.{posts_in, spread}
use Rattle.cmd_messages.proofs.LastSlots.{last_kept, last_posted}
use Rattle.cmd_messages.specs.Sample.{last_msgid}
use Rattle.post_changes.specs.slot_changes.Msgids.{msgid_in}
use Rattle.cmd_messages.proofs.last.last_msgid.Goals as goal

pub returns-then-posted-eq0 : goal.returns-then-posted-eq0
returns-then-posted-eq0 c posts none count =
    let b : Board = c.args.board.now in
    let zero : length (posts_in c.args.place posts) ≡ 0 = omega (arith, count, c.if-posted-eq0.true) in
    let is = ap (msgid_at b c.args.place) c.slot_count-kept.ensures.count ∙ sym (last_kept b posts c.args.place c.slot_count-kept.ensures.board c.requires.place zero) in
    IfOk-weaker c.kept_msgid.result (λ (msgid : List ℕ). msgid ≡ msgid_at b c.args.place c.slot_count-kept.result) (λ (msgid : List ℕ). msgid ≡ last_msgid c.args.place (spread posts b)) (λ msgid same. same ∙ is) c.kept_msgid.ensures

pub msgid_of-requires : goal.msgid_of-requires
msgid_of-requires c = omega (arith, conferences_count c.args.board.now c.slot_count-kept.ensures.board, c.requires.place)

pub returns : goal.returns
returns c posts none count =
    let b : Board = c.args.board.now in
    let place : ℕ = c.args.place in
    let some : 0 < length (posts_in place posts) = omega (arith, count, c.if-posted-eq0.false) in
    let number : c.slot_count-kept.result + c.args.posted ≡ length (slots_in b place) + length (posts_in place posts) = omega (arith, count, c.slot_count-kept.ensures.count) in
    let is = ap (msgid_in place b) number ∙ sym (last_posted b posts place c.slot_count-kept.ensures.board c.requires.place none some) in
    IfOk-weaker c.msgid_of.result (λ (msgid : List ℕ). msgid ≡ msgid_in place b (c.slot_count-kept.result + c.args.posted)) (λ (msgid : List ℕ). msgid ≡ last_msgid place (spread posts b)) (λ msgid same. same ∙ is) c.msgid_of.ensures
