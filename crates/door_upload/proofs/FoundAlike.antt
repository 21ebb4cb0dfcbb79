-- What is found of a packet on a board is found on each with its outline.
use Rattle.std.proofs.Common.{◌≡◌, ℕ, List, Result, Ok, Err, inl, inr, refl, sym, ap, ◌∙◌, subst}
use Rattle.std.specs.Prelude.{IfOk}
use Rattle.board_layout.specs.Board.{Board}
use Rattle.board_layout.specs.Valid.{IsBoard}
use Rattle.board_ledger.specs.declared.upload.Counts.{Counts}
use Rattle.door_upload.proofs.UploadAlike.{SameUpload, judged_alike, judged_too, read_alike}
use Rattle.door_upload.specs.Upload.{Again, Judged, Upload, UploadRefusal, judged_upload, upload_read}
use Rattle.door_upload.specs.Uploading.{FindsFor, IsJudged, IsKeptFrom, IsNew}
use Rattle.door_upload.specs.declared.answer.UploadError.{UploadError}
use Rattle.door_upload.specs.declared.preparing.Uploading.{Uploading}
use Rattle.door_upload.specs.declared.preparing.Uploading.TheVariants as found
use Rattle.jam_records.specs.declared.message.Message.{Message}
use Rattle.mail_board.proofs.EachNext.{fits_alike}
use Rattle.mail_board.specs.Changes.{changed}
use Rattle.mail_board.specs.Held.{AreAlike, HeldBoard}
use Rattle.mail_board.specs.declared.change.Change.{Change}
use Rattle.packet_verdicts.specs.Judged.{refused_count}
use Rattle.packet_verdicts.specs.declared.outcome.Outcome.{Outcome}
use Rattle.post_changes.specs.Posted.{uploaded}
use Rattle.rep_packet.specs.declared.rep.Rep.{Rep}

-- ---- of results that are the same but for the board
same_refusal : (s : Result Upload UploadRefusal) (why : UploadRefusal) → SameUpload s (Err why) → s ≡ Err why
same_refusal (Err other) why same = ap Err same
same_refusal (Ok upload) why same = absurd same

same_again : (s : Result Upload UploadRefusal) (counts : Counts) → SameUpload s (Ok (Again counts)) → s ≡ Ok (Again counts)
same_again (Err why) counts same = absurd same
same_again (Ok (Again others)) counts same = ap (λ (x : Counts). Ok (Again x)) same
same_again (Ok (Judged next outcomes)) counts same = absurd same

same_new : (s r : Result Upload UploadRefusal) → SameUpload s r → IsNew r → IsNew s
same_new (Err why) (Err other) same new = absurd new
same_new (Err why) (Ok upload) same new = absurd same
same_new (Ok upload) (Err why) same new = absurd same
same_new (Ok (Again counts)) (Ok (Again others)) same new = absurd new
same_new (Ok (Again counts)) (Ok (Judged next outcomes)) same new = absurd same
same_new (Ok (Judged next outcomes)) (Ok (Again counts)) same new = absurd same
same_new (Ok (Judged next outcomes)) (Ok (Judged other others)) same new = tt

module _ (h : HeldBoard) (b : Board) (ok : IsBoard b) (alike : AreAlike b h.board) where
  abbrev each : HeldBoard
  each = record { board = b; doubtful = h.doubtful }

  kept_alike : (e : UploadError) (s r : Result Upload UploadRefusal) → SameUpload s r → IsKeptFrom h e r → IsKeptFrom each e s
  kept_alike e s r same (inl (why, is, named)) = inl (why, same_refusal s why (subst (SameUpload s) is same), named)
  kept_alike e s r same (inr (new, doubt, named)) = inr (same_new s r same new, doubt, named)

  module _ (id : ℕ) (digest : List ℕ) (now : ℕ) (packet : Rep) where
    -- what was judged is judged here too, and posted by the same change
    posted_too : (change : Change) (outcomes : List Outcome) → IsJudged id digest now h.board packet.messages (found.Judged change outcomes) → judged_upload id digest now b packet.messages ≡ Judged (changed change b) outcomes
    posted_too change outcomes is =
        let all = judged_alike b h.board alike id now packet.messages in
        ap (λ (p : List Outcome × List (ℕ × Message)). Judged (uploaded id digest (refused_count p.0) p.1 b) p.0) all
        ∙ (λ i. Judged (changed (sym is.0 i) b) (sym is.1 i))

    pub found_alike : (result : Result Uploading UploadError) → IfOk result (IsJudged id digest now h.board packet.messages) → FindsFor h (upload_read id digest now h.board packet) result → FindsFor each (upload_read id digest now b packet) result
    found_alike result judges (inl starved) = inl starved
    found_alike (Err e) judges (inr kept) = inr (kept_alike e (upload_read id digest now b packet) (upload_read id digest now h.board packet) (read_alike b h.board alike id digest now packet) kept)
    found_alike (Ok (found.Again counts)) judges (inr (is, gives, again)) =
        let same = subst (SameUpload (upload_read id digest now b packet)) (gives ∙ ap Ok again) (read_alike b h.board alike id digest now packet) in
        inr (Again counts, same_again (upload_read id digest now b packet) counts same, refl)
    found_alike (Ok (found.Judged change outcomes)) judges (inr (is, gives, it)) =
        inr (
          Judged (changed change b) outcomes,
          judged_too b h.board alike id digest now packet (changed change h.board) outcomes (gives ∙ ap Ok it.1) ∙ ap Ok (posted_too change outcomes judges),
          (fits_alike b h.board alike ok it.4 change it.0, refl, it.2, it.3, ok),
        )
