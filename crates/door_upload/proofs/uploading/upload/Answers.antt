use Rattle.std.proofs.Common.{rules, ◌≡◌, ◌≢◌, true≢false, Ok, Err, sym, ap, ◌∙◌, subst, inl, inr, ⊎_elim}
use Rattle.board_layout.specs.Board.{Board}
use Rattle.board_layout.specs.Layout.{IsLayout}
use Rattle.board_layout.specs.Outlines.{board_outline}
use Rattle.door_outside.specs.Disk.{AllNow, Between}
use Rattle.door_upload.proofs.AnswerLaws.{again_answers, again_board, again_not_new, change_undamaged, new_answers, new_board, new_certain, new_kept, new_valid, unchanged_answers, unprepared_answers, unprepared_undamaged, unprepared_valid}
use Rattle.door_upload.specs.Upload.{after_upload}
use Rattle.door_upload.specs.Uploading.{UploadAnswers, FindsIn, upload_change_error}
use Rattle.door_upload.specs.declared.answer.UploadError.TheVariants.{Damaged}
use Rattle.door_upload.specs.declared.preparing.Uploading.{Uploading}
use Rattle.mail_board.proofs.CommitLaws.{calm_now}
use Rattle.mail_board.proofs.DataLaws.{layout_moves}
use Rattle.mail_board.proofs.OneHost.{alike_held}
use Rattle.mail_board.proofs.PostedSlots.{none_keeps}
use Rattle.mail_board.specs.Changes.{changed}
use Rattle.mail_board.specs.Held.{BeforeOrNext, Follows, Rests}
use Rattle.mail_board.specs.declared.change.ChangeError.TheVariants.{Doubt}
use Rattle.door_upload.proofs.uploading.upload.Goals as goal

-- ---- nothing was found to be done
pub returns-in_err-counts-clause-now : goal.returns-in_err-counts-clause-now
returns-in_err-counts-clause-now g c = λ tells certain b holds r gives.
    calm_now (IsLayout b) (layout_moves b) (after_upload b r) (g.H.Host.disk c.args.host.now) holds.1.calm holds.1.files

pub returns-in_err-counts-clause-answer : goal.returns-in_err-counts-clause-answer
returns-in_err-counts-clause-answer g c = λ b ok alike r gives.
    let is : c.from_residual.result ≡ Err c.in_err-counts.field-0.0 = search rules in
    subst (UploadAnswers c.args.board.now.doubtful r) (sym is) (unprepared_answers c.args.user.now c.args.bytes.now c.args.now (record { board = b; doubtful = c.args.board.now.doubtful }) c.in_err-counts.field-0.0 (c.in_err-counts.ensures.each b ok alike) r gives)

pub returns-in_err-counts-clause-undamaged : goal.returns-in_err-counts-clause-undamaged
returns-in_err-counts-clause-undamaged g c = λ damage damaged.
    let is : c.from_residual.result ≡ Err c.in_err-counts.field-0.0 = search rules in
    let same : c.in_err-counts.field-0.0 ≡ Damaged damage = cc (sym is ∙ damaged) in
    unprepared_undamaged c.args.user.now c.args.bytes.now c.args.now c.args.board.now c.in_err-counts.field-0.0 c.in_err-counts.ensures.finds damage same

pub returns-in_err-counts-clause-valid : goal.returns-in_err-counts-clause-valid
returns-in_err-counts-clause-valid g c = λ certain b ok alike r gives new.
    let is : c.from_residual.result ≡ Err c.in_err-counts.field-0.0 = search rules in
    ⊎_elim (λ starved. inl (is ∙ ap Err starved)) (λ valid. inr valid) (unprepared_valid c.args.user.now c.args.bytes.now c.args.now (record { board = b; doubtful = c.args.board.now.doubtful }) c.in_err-counts.field-0.0 (c.in_err-counts.ensures.each b ok alike) certain r gives new)

-- ---- it was sent before
pub returns-in-Again-clause-now : goal.returns-in-Again-clause-now
returns-in-Again-clause-now g c = λ tells certain b holds r gives.
    calm_now (IsLayout b) (layout_moves b) (after_upload b r) (g.H.Host.disk c.args.host.now) holds.1.calm holds.1.files

pub returns-in-Again-clause-answer : goal.returns-in-Again-clause-answer
returns-in-Again-clause-answer g c = λ b ok alike r gives.
    let finds = subst (λ (u : Uploading). FindsIn c.args.user.now c.args.bytes.now c.args.now (record { board = b; doubtful = c.args.board.now.doubtful }) (Ok u)) c.in-Again.is (c.in_ok-counts.ensures.each b ok alike) in
    again_answers c.args.user.now c.args.bytes.now c.args.now (record { board = b; doubtful = c.args.board.now.doubtful }) c.in-Again.counts finds r gives

-- ---- the change was not made
pub returns-in-Again-clause-board : goal.returns-in-Again-clause-board
returns-in-Again-clause-board g c = λ certain ok r gives.
    let finds = subst (λ (u : Uploading). FindsIn c.args.user.now c.args.bytes.now c.args.now c.args.board.now (Ok u)) c.in-Again.is c.in_ok-counts.ensures.finds in
    record { valid = ok; alike = ap board_outline (again_board c.args.user.now c.args.bytes.now c.args.now c.args.board.now c.in-Again.counts finds r gives); sure = certain }

pub returns-in-Again-clause-next : goal.returns-in-Again-clause-next
returns-in-Again-clause-next g c = λ tells certain b holds r gives.
    let alike = alike_held c.args.board.now.board (g.H.Host.disk c.args.host.now) (c.requires.rests tells certain) b holds in
    let finds = subst (λ (u : Uploading). FindsIn c.args.user.now c.args.bytes.now c.args.now (record { board = b; doubtful = c.args.board.now.doubtful }) (Ok u)) c.in-Again.is (c.in_ok-counts.ensures.each b holds.0 alike) in
    subst (λ (next : Board). Rests next (g.H.Host.disk c.args.host.now)) (again_board c.args.user.now c.args.bytes.now c.args.now (record { board = b; doubtful = c.args.board.now.doubtful }) c.in-Again.counts finds r gives) holds.1

pub returns-in-Again-clause-valid : goal.returns-in-Again-clause-valid
returns-in-Again-clause-valid g c = λ certain b ok alike r gives new.
    let finds = subst (λ (u : Uploading). FindsIn c.args.user.now c.args.bytes.now c.args.now (record { board = b; doubtful = c.args.board.now.doubtful }) (Ok u)) c.in-Again.is (c.in_ok-counts.ensures.each b ok alike) in
    absurd (again_not_new c.args.user.now c.args.bytes.now c.args.now (record { board = b; doubtful = c.args.board.now.doubtful }) c.in-Again.counts finds r gives new)

pub returns-in_err-change-in-Judged-clause-moments : goal.returns-in_err-change-in-Judged-clause-moments
returns-in_err-change-in-Judged-clause-moments g c = λ tells certain b holds r gives.
    let old = g.H.Host.disk c.args.host.now in
    let alike = alike_held c.args.board.now.board old (c.requires.rests tells certain) b holds in
    let finds = subst (λ (u : Uploading). FindsIn c.args.user.now c.args.bytes.now c.args.now (record { board = b; doubtful = c.args.board.now.doubtful }) (Ok u)) c.in-Judged.is (c.in_ok-counts.ensures.each b holds.0 alike) in
    subst (λ (next : Board). Between old (g.H.Host.disk c.change.new.host) (BeforeOrNext (IsLayout b) next old)) (new_board c.args.user.now c.args.bytes.now c.args.now (record { board = b; doubtful = c.args.board.now.doubtful }) c.in-Judged.change c.in-Judged.outcomes finds r gives) (c.change.ensures.moments tells certain b holds)

pub returns-in_err-change-in-Judged-clause-now : goal.returns-in_err-change-in-Judged-clause-now
returns-in_err-change-in-Judged-clause-now g c = λ tells certain b holds r gives.
    let old = g.H.Host.disk c.args.host.now in
    let alike = alike_held c.args.board.now.board old (c.requires.rests tells certain) b holds in
    let finds = subst (λ (u : Uploading). FindsIn c.args.user.now c.args.bytes.now c.args.now (record { board = b; doubtful = c.args.board.now.doubtful }) (Ok u)) c.in-Judged.is (c.in_ok-counts.ensures.each b holds.0 alike) in
    subst (λ (next : Board). AllNow (g.H.Host.disk c.change.new.host) (BeforeOrNext (IsLayout b) next old)) (new_board c.args.user.now c.args.bytes.now c.args.now (record { board = b; doubtful = c.args.board.now.doubtful }) c.in-Judged.change c.in-Judged.outcomes finds r gives) (c.change.ensures.now tells certain b holds)

pub returns-in_err-change-in-Judged-clause-answer : goal.returns-in_err-change-in-Judged-clause-answer
returns-in_err-change-in-Judged-clause-answer g c = λ b ok alike r gives.
    let e = c.in_err-change-in-Judged.field-0.0 in
    let is : c.from_residual-in_err-change-in-Judged.result ≡ Err (upload_change_error e) = search rules in
    let finds = subst (λ (u : Uploading). FindsIn c.args.user.now c.args.bytes.now c.args.now (record { board = b; doubtful = c.args.board.now.doubtful }) (Ok u)) c.in-Judged.is (c.in_ok-counts.ensures.each b ok alike) in
    let certain : e ≢ Doubt = λ doubt. true≢false (sym (c.change.ensures.doubt.0 (c.in_err-change-in-Judged.was ∙ ap Err doubt)) ∙ new_certain c.args.user.now c.args.bytes.now c.args.now (record { board = b; doubtful = c.args.board.now.doubtful }) c.in-Judged.change c.in-Judged.outcomes finds) in
    subst (UploadAnswers c.args.board.now.doubtful r) (sym is) (unchanged_answers c.args.user.now c.args.bytes.now c.args.now (record { board = b; doubtful = c.args.board.now.doubtful }) c.in-Judged.change c.in-Judged.outcomes finds r gives e certain)

pub returns-in_err-change-in-Judged-clause-undamaged : goal.returns-in_err-change-in-Judged-clause-undamaged
returns-in_err-change-in-Judged-clause-undamaged g c = λ damage damaged.
    let e = c.in_err-change-in-Judged.field-0.0 in
    let is : c.from_residual-in_err-change-in-Judged.result ≡ Err (upload_change_error e) = search rules in
    let same : upload_change_error e ≡ Damaged damage = cc (sym is ∙ damaged) in
    change_undamaged damage e same

pub returns-in_err-change-in-Judged-clause-valid : goal.returns-in_err-change-in-Judged-clause-valid
returns-in_err-change-in-Judged-clause-valid g c = λ certain b ok alike r gives new.
    let finds = subst (λ (u : Uploading). FindsIn c.args.user.now c.args.bytes.now c.args.now (record { board = b; doubtful = c.args.board.now.doubtful }) (Ok u)) c.in-Judged.is (c.in_ok-counts.ensures.each b ok alike) in
    inr (new_valid c.args.user.now c.args.bytes.now c.args.now (record { board = b; doubtful = c.args.board.now.doubtful }) c.in-Judged.change c.in-Judged.outcomes finds r gives)

-- ---- the change was made
pub returns-in_ok-change-in-Judged-clause-moments : goal.returns-in_ok-change-in-Judged-clause-moments
returns-in_ok-change-in-Judged-clause-moments g c = λ tells certain b holds r gives.
    let old = g.H.Host.disk c.args.host.now in
    let alike = alike_held c.args.board.now.board old (c.requires.rests tells certain) b holds in
    let finds = subst (λ (u : Uploading). FindsIn c.args.user.now c.args.bytes.now c.args.now (record { board = b; doubtful = c.args.board.now.doubtful }) (Ok u)) c.in-Judged.is (c.in_ok-counts.ensures.each b holds.0 alike) in
    subst (λ (next : Board). Between old (g.H.Host.disk c.change.new.host) (BeforeOrNext (IsLayout b) next old)) (new_board c.args.user.now c.args.bytes.now c.args.now (record { board = b; doubtful = c.args.board.now.doubtful }) c.in-Judged.change c.in-Judged.outcomes finds r gives) (c.change.ensures.moments tells certain b holds)

pub returns-in_ok-change-in-Judged-clause-now : goal.returns-in_ok-change-in-Judged-clause-now
returns-in_ok-change-in-Judged-clause-now g c = λ tells certain b holds r gives.
    let old = g.H.Host.disk c.args.host.now in
    let alike = alike_held c.args.board.now.board old (c.requires.rests tells certain) b holds in
    let finds = subst (λ (u : Uploading). FindsIn c.args.user.now c.args.bytes.now c.args.now (record { board = b; doubtful = c.args.board.now.doubtful }) (Ok u)) c.in-Judged.is (c.in_ok-counts.ensures.each b holds.0 alike) in
    subst (λ (next : Board). AllNow (g.H.Host.disk c.change.new.host) (BeforeOrNext (IsLayout b) next old)) (new_board c.args.user.now c.args.bytes.now c.args.now (record { board = b; doubtful = c.args.board.now.doubtful }) c.in-Judged.change c.in-Judged.outcomes finds r gives) (c.change.ensures.now tells certain b holds)

pub returns-in_ok-change-in-Judged-clause-answer : goal.returns-in_ok-change-in-Judged-clause-answer
returns-in_ok-change-in-Judged-clause-answer g c = λ b ok alike r gives.
    let finds = subst (λ (u : Uploading). FindsIn c.args.user.now c.args.bytes.now c.args.now (record { board = b; doubtful = c.args.board.now.doubtful }) (Ok u)) c.in-Judged.is (c.in_ok-counts.ensures.each b ok alike) in
    new_answers c.args.user.now c.args.bytes.now c.args.now (record { board = b; doubtful = c.args.board.now.doubtful }) c.in-Judged.change c.in-Judged.outcomes finds r gives

pub returns-in_ok-change-in-Judged-clause-board : goal.returns-in_ok-change-in-Judged-clause-board
returns-in_ok-change-in-Judged-clause-board g c = λ certain ok r gives.
    let finds = subst (λ (u : Uploading). FindsIn c.args.user.now c.args.bytes.now c.args.now c.args.board.now (Ok u)) c.in-Judged.is c.in_ok-counts.ensures.finds in
    let next = new_board c.args.user.now c.args.bytes.now c.args.now c.args.board.now c.in-Judged.change c.in-Judged.outcomes finds r gives in
    let made : Follows (changed c.in-Judged.change c.args.board.now.board) c.change.new.self = c.in_ok-change-in-Judged.ensures.board in
    record { valid = made.valid; alike = made.alike ∙ ap board_outline next; sure = made.sure }

pub returns-in_ok-change-in-Judged-clause-next : goal.returns-in_ok-change-in-Judged-clause-next
returns-in_ok-change-in-Judged-clause-next g c = λ tells certain b holds r gives.
    let alike = alike_held c.args.board.now.board (g.H.Host.disk c.args.host.now) (c.requires.rests tells certain) b holds in
    let finds = subst (λ (u : Uploading). FindsIn c.args.user.now c.args.bytes.now c.args.now (record { board = b; doubtful = c.args.board.now.doubtful }) (Ok u)) c.in-Judged.is (c.in_ok-counts.ensures.each b holds.0 alike) in
    subst (λ (next : Board). Rests next (g.H.Host.disk c.change.new.host)) (new_board c.args.user.now c.args.bytes.now c.args.now (record { board = b; doubtful = c.args.board.now.doubtful }) c.in-Judged.change c.in-Judged.outcomes finds r gives) (c.in_ok-change-in-Judged.ensures.next tells b holds)

pub returns-in_ok-change-in-Judged-clause-valid : goal.returns-in_ok-change-in-Judged-clause-valid
returns-in_ok-change-in-Judged-clause-valid g c = λ certain b ok alike r gives new.
    let finds = subst (λ (u : Uploading). FindsIn c.args.user.now c.args.bytes.now c.args.now (record { board = b; doubtful = c.args.board.now.doubtful }) (Ok u)) c.in-Judged.is (c.in_ok-counts.ensures.each b ok alike) in
    inr (new_valid c.args.user.now c.args.bytes.now c.args.now (record { board = b; doubtful = c.args.board.now.doubtful }) c.in-Judged.change c.in-Judged.outcomes finds r gives)

pub returns-in_err-counts-clause-wrote : goal.returns-in_err-counts-clause-wrote
returns-in_err-counts-clause-wrote g c = λ tells r gives. none_keeps c.args.board.now.board (after_upload c.args.board.now.board r) (g.H.Host.disk c.args.host.now).wrote

pub returns-in-Again-clause-wrote : goal.returns-in-Again-clause-wrote
returns-in-Again-clause-wrote g c = λ tells r gives. none_keeps c.args.board.now.board (after_upload c.args.board.now.board r) (g.H.Host.disk c.args.host.now).wrote

pub returns-in_err-change-in-Judged-clause-wrote : goal.returns-in_err-change-in-Judged-clause-wrote
returns-in_err-change-in-Judged-clause-wrote g c = λ tells r gives.
    let finds = subst (λ (u : Uploading). FindsIn c.args.user.now c.args.bytes.now c.args.now c.args.board.now (Ok u)) c.in-Judged.is c.in_ok-counts.ensures.finds in
    new_kept c.args.user.now c.args.bytes.now c.args.now c.args.board.now c.in-Judged.change c.in-Judged.outcomes finds (g.H.Host.disk c.args.host.now).wrote (g.H.Host.disk c.change.new.host).wrote (c.change.ensures.wrote tells) r gives

pub returns-in_ok-change-in-Judged-clause-wrote : goal.returns-in_ok-change-in-Judged-clause-wrote
returns-in_ok-change-in-Judged-clause-wrote g c = λ tells r gives.
    let finds = subst (λ (u : Uploading). FindsIn c.args.user.now c.args.bytes.now c.args.now c.args.board.now (Ok u)) c.in-Judged.is c.in_ok-counts.ensures.finds in
    new_kept c.args.user.now c.args.bytes.now c.args.now c.args.board.now c.in-Judged.change c.in-Judged.outcomes finds (g.H.Host.disk c.args.host.now).wrote (g.H.Host.disk c.change.new.host).wrote (c.change.ensures.wrote tells) r gives
