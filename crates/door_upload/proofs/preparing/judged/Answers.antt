use Rattle.std.proofs.Common.{◌≡◌, ◌<◌, ℕ, List, ap, ◌∙◌, subst}
use Rattle.std.specs.Prelude.{All}
use Rattle.std.proofs.lemmas.List.{get_or_default}
use Rattle.board_layout.specs.Board.{Board}
use Rattle.board_layout.specs.Valid.{IsBoard}
use Rattle.byte_lists.specs.Byte.{IsByte}
use Rattle.door_upload.proofs.UploadFits.{upload_found}
use Rattle.jam_records.specs.declared.message.Message.{Message}
use Rattle.mail_board.specs.declared.change.Change.TheVariants.{Upload}
use Rattle.packet_verdicts.specs.Judged.{judged, refused_count}
use Rattle.packet_verdicts.specs.declared.outcome.Outcome.{Outcome}
use Rattle.door_upload.proofs.preparing.judged.Goals as goal

pub returns-clause-found : goal.returns-clause-found
returns-clause-found c =
    let all = c.in_ok-outcomes.field-0 in
    let board : c.stored.result.now ≡ c.args.board.now.board = c.stored.ensures.board in
    let ok : IsBoard c.args.board.now.board = c.stored.ensures.valid in
    let bytes : All IsByte c.args.digest.now = λ k d within. subst (λ (n : ℕ). n < 256) (get_or_default c.args.digest.now k 0 d within) (c.fits-digest k) in
    upload_found c.args.board.now c.args.user c.args.now c.args.digest.now c.args.messages.now ok c.requires.sure c.requires.user c.requires.new c.requires.record c.requires.few c.requires.writable c.told-digest bytes all.outcomes all.posts all.refused
    (c.in_ok-outcomes.ensures.judged ∙ ap (λ (b : Board). judged b c.args.user c.args.now c.args.messages.now) board) c.in_ok-outcomes.ensures.refused c.in_ok-outcomes.ensures.typed

pub returns-clause-judged : goal.returns-clause-judged
returns-clause-judged c =
    let all = c.in_ok-outcomes.field-0 in
    let is : (all.outcomes, all.posts) ≡ judged c.args.board.now.board c.args.user c.args.now c.args.messages.now =
    c.in_ok-outcomes.ensures.judged ∙ ap (λ (b : Board). judged b c.args.user c.args.now c.args.messages.now) c.stored.ensures.board in
    let outcomes : all.outcomes ≡ (judged c.args.board.now.board c.args.user c.args.now c.args.messages.now).0 = ap (λ (p : List Outcome × List (ℕ × Message)). p.0) is in
    let posts : all.posts ≡ (judged c.args.board.now.board c.args.user c.args.now c.args.messages.now).1 = ap (λ (p : List Outcome × List (ℕ × Message)). p.1) is in
    let refused : all.refused ≡ refused_count (judged c.args.board.now.board c.args.user c.args.now c.args.messages.now).0 = c.in_ok-outcomes.ensures.refused ∙ ap refused_count outcomes in
    (λ i. Upload c.args.user c.args.digest.now (refused i) (posts i), outcomes)
