use Rattle.std.proofs.Common.{◌≡◌, ◌<◌, true≢false, ℕ, Bool, sym, ap, ◌∙◌, subst, arith}
use Rattle.std.specs.Prelude.{All}
use Rattle.std.proofs.lemmas.Bool.{leb-true, le-leb}
use Rattle.std.proofs.lemmas.List.{get_or_default}
use Rattle.board_layout.specs.Board.{Board}
use Rattle.board_layout.specs.Valid.{board_limit}
use Rattle.board_ledger.specs.declared.ledger.Ledger.{Ledger}
use Rattle.board_ledger.specs.declared.upload.UploadRecord.{UploadRecord}
use Rattle.byte_lists.specs.Byte.{IsByte}
use Rattle.post_changes.proofs.FitLaws.{Fit, uploaded_bases, uploaded_fits, uploaded_free}
use Rattle.post_changes.specs.Posted.{upload_record}
use Rattle.post_changes.specs.Recorded.{may_record}
use Rattle.post_changes.proofs.fits.fits_upload.Goals as goal

-- the record that is tested is that of the next board
tested : (b : Board) (ledger : Ledger) (upload r : UploadRecord) (may : Bool) → may ≡ may_record ledger upload → ledger ≡ b.ledger → upload ≡ r → may ≡ may_record b.ledger r
tested b ledger upload r may is same made = is ∙ (λ i. may_record (same i) (made i))

pub returns-then-not-may_record : goal.returns-then-not-may_record
returns-then-not-may_record c =
    let b : Board = c.args.board.now in
    let r : UploadRecord = upload_record c.args.user c.args.digest.now c.args.refused c.args.posts.now in
    let is = tested b c.ledger.result.now c.record_of-upload.result r c.may_record.result c.may_record.ensures c.ledger.ensures.ledger (c.record_of-upload.ensures ∙ ap (upload_record c.args.user c.args.digest.now c.args.refused) c.as_slice.ensures) in (
      λ no. absurd (true≢false (sym no)),
      λ both. sym c.if-not-may_record.true ∙ (is ∙ uploaded_free b c.args.posts.now c.ledger.ensures.board c.args.user c.args.digest.now c.args.refused both.1),
    )

pub returns-then-fits_all : goal.returns-then-fits_all
returns-then-fits_all c =
    let b : Board = c.args.board.now in
    let r : UploadRecord = upload_record c.args.user c.args.digest.now c.args.refused c.args.posts.now in
    let ok = c.fits_all.ensures.board in
    let is = tested b c.ledger.result.now c.record_of-upload.result r c.may_record.result c.may_record.ensures c.ledger.ensures.ledger (c.record_of-upload.ensures ∙ ap (upload_record c.args.user c.args.digest.now c.args.refused) c.as_slice.ensures) in
    let fit : Fit b c.args.posts.now = subst (Fit b) c.as_slice-2.ensures (c.fits_all.ensures.fits.0 c.if-fits_all.true) in
    let bytes : All IsByte c.args.digest.now =
    λ k d within. subst (λ (n : ℕ). n < 256) (get_or_default c.args.digest.now k 0 d within) (c.fits-digest k) in
    let size = c.size_with_upload.ensures c.args.user c.args.digest.now c.args.refused c.told-digest in (
      λ small. (
        fit.0,
        uploaded_fits b c.args.posts.now ok c.args.user c.args.digest.now c.args.refused c.told-digest bytes (sym is ∙ c.if-not-may_record.false) fit.1 (omega (arith, size, leb-true c.size_with_upload.result board_limit small)),
      ),
      λ both. le-leb c.size_with_upload.result board_limit (omega (arith, size, both.1.small)),
    )

pub returns-else-fits_all : goal.returns-else-fits_all
returns-else-fits_all c =
    let b : Board = c.args.board.now in (
      λ yes. absurd (true≢false (sym yes ∙ c.if-fits_all.false)),
      λ both. c.fits_all.ensures.fits.1 (subst (Fit b) (sym c.as_slice-2.ensures) (both.0, uploaded_bases b c.args.posts.now c.fits_all.ensures.board c.args.user c.args.digest.now c.args.refused both.1)),
    )
