use Rattle.std.proofs.Common.{◌≤◌, false, true, length, Ok, sym, ap, ◌∙◌, arith}
use Rattle.std.proofs.lemmas.Bool.{le-ltb}
use Rattle.board_ledger.specs.Uploads.{wrong_user, too_many, upload_size}
use Rattle.board_ledger.specs.declared.upload.UploadRecord.{UploadRecord}
use Rattle.board_ledger.proofs.UploadTests.{by_tests}
use Rattle.board_ledger.proofs.uploads.new_upload_of.Goals as goal

pub returns-then-too_many-clause-gives : goal.returns-then-too_many-clause-gives
returns-then-too_many-clause-gives c =
    let long : upload_size ≤ length c.args.bytes.now = omega (arith, c.if-bytes-lt-UPLOAD_SIZE.false) in
    rw c.damaged-then-too_many.ensures (by_tests c.args.first c.args.users c.args.before.now c.args.bytes.now false false false true
    (sym (le-ltb _ _ long)) (c.if-wrong_user.ensures ∙ ap (wrong_user c.args.users) c.read-upload.ensures) (sym (c.requires.new long)) (c.if-too_many.ensures ∙ ap (λ (r : UploadRecord). too_many r.counts) c.read-upload.ensures))

pub returns-clause-gives : goal.returns-clause-gives
returns-clause-gives c =
    let long : upload_size ≤ length c.args.bytes.now = omega (arith, c.if-bytes-lt-UPLOAD_SIZE.false) in
    by_tests c.args.first c.args.users c.args.before.now c.args.bytes.now false false false false
    (sym (le-ltb _ _ long)) (c.if-wrong_user.ensures ∙ ap (wrong_user c.args.users) c.read-upload.ensures) (sym (c.requires.new long)) (c.if-too_many.ensures ∙ ap (λ (r : UploadRecord). too_many r.counts) c.read-upload.ensures)
    ∙ ap (λ (r : UploadRecord). Ok (r, upload_size)) (sym c.read-upload.ensures)
