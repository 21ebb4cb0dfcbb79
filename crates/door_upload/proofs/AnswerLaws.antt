-- What an upload answers, by what was found and how the board's change ended.
use Rattle.std.proofs.Common.{◌≡◌, ◌≢◌, ℕ, Bool, true, false, List, Result, Ok, Err, refl, sym, ap, ◌∙◌, subst, inl, inr}
use Rattle.std.specs.Prelude.{◌⊎◌}
use Rattle.board_layout.specs.Board.{Board}
use Rattle.board_layout.specs.Valid.{IsBoard}
use Rattle.board_ledger.specs.declared.upload.Counts.{Counts}
use Rattle.door_upload.proofs.OneUpload.{one_upload}
use Rattle.door_upload.specs.Upload.{Again, Broken, Judged, NoBoardId, NoUser, OtherBoard, Size, Upload, UploadGives, UploadRefusal, Uploads, after_upload}
use Rattle.door_upload.specs.Uploading.{UploadAnswers, FindsIn, IsUploadFound, IsKeptFrom, IsNew, UploadLeavesAll, upload_error, upload_change_error}
use Rattle.door_upload.specs.declared.answer.UploadError.{UploadError}
use Rattle.door_upload.specs.declared.answer.UploadError.TheVariants as error
use Rattle.door_upload.specs.declared.answer.Uploaded.TheVariants as answer
use Rattle.door_upload.specs.declared.preparing.Uploading.{Uploading}
use Rattle.door_upload.specs.declared.preparing.Uploading.TheVariants as found
use Rattle.jam_records.specs.declared.damage.Damage.{Damage}
use Rattle.mail_board.proofs.NextLaws.{fits_board}
use Rattle.mail_board.proofs.PostedSlots.{posting_keeps}
use Rattle.mail_board.specs.Changes.{changed, Fits}
use Rattle.mail_board.specs.Held.{HeldBoard}
use Rattle.mail_board.specs.Written.{KeepsBoundOf, WritesFew}
use Rattle.mail_board.specs.declared.change.Change.{Change}
use Rattle.mail_board.specs.declared.change.ChangeError.{ChangeError}
use Rattle.mail_board.specs.declared.change.ChangeError.TheVariants as change_error
use Rattle.packet_verdicts.specs.declared.outcome.Outcome.{Outcome}

-- a refusal and doubt leave all as it was
early : (why : UploadRefusal) → UploadLeavesAll (Err (upload_error why))
early NoUser = tt
early (Broken fault) = tt
early NoBoardId = tt
early OtherBoard = tt
early Uploads = tt
early (Size bytes) = tt

-- neither it nor an error of the board's change is damage
never_damage : (damage : Damage) (why : UploadRefusal) → upload_error why ≡ error.Damaged damage → ⊥
never_damage damage NoUser is = cc is
never_damage damage (Broken fault) is = cc is
never_damage damage NoBoardId is = cc is
never_damage damage OtherBoard is = cc is
never_damage damage Uploads is = cc is
never_damage damage (Size bytes) is = cc is

pub change_undamaged : (damage : Damage) (e : ChangeError) → upload_change_error e ≡ error.Damaged damage → ⊥
change_undamaged damage change_error.DiskFault is = cc is
change_undamaged damage change_error.Doubt is = cc is
change_undamaged damage change_error.OutOfMemory is = cc is

kept_early : (h : HeldBoard) (e : UploadError) (r : Result Upload UploadRefusal) → IsKeptFrom h e r → UploadLeavesAll (Err e)
kept_early h e r (inl (why, is, same)) = subst (λ (x : UploadError). UploadLeavesAll (Err x)) (sym same) (early why)
kept_early h e r (inr (new, doubt, same)) = subst (λ (x : UploadError). UploadLeavesAll (Err x)) (sym same) tt

-- an answer to a new packet where the board is in doubt
doubt_answers : (r : Result Upload UploadRefusal) (t : Bool) → t ≡ true → IsNew r → UploadAnswers t r (Err error.Doubt)
doubt_answers (Ok (Again counts)) t is new = absurd new
doubt_answers (Ok (Judged next outcomes)) true is new = inl refl
doubt_answers (Ok (Judged next outcomes)) false is new = absurd (cc is)
doubt_answers (Err why) t is new = absurd new

memory_answers : (t : Bool) (r : Result Upload UploadRefusal) → UploadAnswers t r (Err error.OutOfMemory)
memory_answers t (Err why) = inr refl
memory_answers t (Ok (Again counts)) = inr refl
memory_answers true (Ok (Judged next outcomes)) = inr refl
memory_answers false (Ok (Judged next outcomes)) = inl (inr refl)

refusal_answers : (t : Bool) (r : Result Upload UploadRefusal) (why : UploadRefusal) → r ≡ Err why → UploadAnswers t r (Err (upload_error why))
refusal_answers t (Err other) why is = let same : why ≡ other = cc in inl (ap (λ (x : UploadRefusal). Err (upload_error x)) same)
refusal_answers t (Ok u) why is = absurd (cc is)

kept_answers : (h : HeldBoard) (e : UploadError) (r : Result Upload UploadRefusal) → IsKeptFrom h e r → UploadAnswers h.doubtful r (Err e)
kept_answers h e r (inl (why, is, same)) = subst (λ (x : UploadError). UploadAnswers h.doubtful r (Err x)) (sym same) (refusal_answers h.doubtful r why is)
kept_answers h e r (inr (new, doubt, same)) = subst (λ (x : UploadError). UploadAnswers h.doubtful r (Err x)) (sym same) (doubt_answers r h.doubtful doubt new)

module _ (name bytes : List ℕ) (now : ℕ) (h : HeldBoard) where
  -- ---- nothing was found to be done
  module _ (e : UploadError) (finds : FindsIn name bytes now h (Err e)) where
    pub unprepared_gives : (e ≡ error.OutOfMemory) ⊎ ((r : Result Upload UploadRefusal) × UploadGives name bytes now h.board r)
    unprepared_gives = by finds
      where
        by : FindsIn name bytes now h (Err e) → (e ≡ error.OutOfMemory) ⊎ ((r : Result Upload UploadRefusal) × UploadGives name bytes now h.board r)
        by (inl starved) = inl (cc starved)
        by (inr (r, gives, kept)) = inr (r, gives)

    pub unprepared_early : UploadLeavesAll (Err e)
    unprepared_early = by finds
      where
        by : FindsIn name bytes now h (Err e) → UploadLeavesAll (Err e)
        by (inl starved) = let one : e ≡ error.OutOfMemory = cc starved in subst (λ (x : UploadError). UploadLeavesAll (Err x)) (sym one) tt
        by (inr (r, gives, kept)) = kept_early h e r kept

    pub unprepared_undamaged : (damage : Damage) → e ≡ error.Damaged damage → ⊥
    unprepared_undamaged damage is = by finds
      where
        by : FindsIn name bytes now h (Err e) → ⊥
        by (inl starved) = let one : e ≡ error.OutOfMemory = cc starved in cc (sym one ∙ is)
        by (inr (r, gives, inl (why, refused, same))) = never_damage damage why (sym same ∙ is)
        by (inr (r, gives, inr (new, doubt, same))) = cc (sym same ∙ is)

    pub unprepared_answers : (r : Result Upload UploadRefusal) → UploadGives name bytes now h.board r → UploadAnswers h.doubtful r (Err e)
    unprepared_answers r gives = by finds
      where
        by : FindsIn name bytes now h (Err e) → UploadAnswers h.doubtful r (Err e)
        by (inl starved) = let one : e ≡ error.OutOfMemory = cc starved in subst (λ (x : UploadError). UploadAnswers h.doubtful r (Err x)) (sym one) (memory_answers h.doubtful r)
        by (inr (other, given, kept)) = subst (λ (x : Result Upload UploadRefusal). UploadAnswers h.doubtful x (Err e)) (one_upload name bytes now h.board other r given gives) (kept_answers h e other kept)

    pub unprepared_valid : h.doubtful ≡ false → (r : Result Upload UploadRefusal) → UploadGives name bytes now h.board r → IsNew r → (e ≡ error.OutOfMemory) ⊎ IsBoard (after_upload h.board r)
    unprepared_valid certain r gives new = by finds
      where
        by : FindsIn name bytes now h (Err e) → (e ≡ error.OutOfMemory) ⊎ IsBoard (after_upload h.board r)
        by (inl starved) = inl (cc starved)
        by (inr (other, given, inl (why, is, same))) = absurd (subst IsNew (one_upload name bytes now h.board r other gives given ∙ is) new)
        by (inr (other, given, inr (fresh, doubt, same))) = absurd (cc (sym certain ∙ doubt))

  -- ---- something was
  module _ (u : Uploading) (finds : FindsIn name bytes now h (Ok u)) where
    pub found_gives : (r : Result Upload UploadRefusal) × UploadGives name bytes now h.board r
    found_gives = by finds
      where
        by : FindsIn name bytes now h (Ok u) → (r : Result Upload UploadRefusal) × UploadGives name bytes now h.board r
        by (inl starved) = absurd (cc starved)
        by (inr (r, gives, finds_it)) = (r, gives)

    found_is : (r : Result Upload UploadRefusal) → UploadGives name bytes now h.board r → (is : Upload) × (r ≡ Ok is) × IsUploadFound h u is
    found_is r gives = by finds
      where
        by : FindsIn name bytes now h (Ok u) → (is : Upload) × (r ≡ Ok is) × IsUploadFound h u is
        by (inl starved) = absurd (cc starved)
        by (inr (other, given, (is, same, it))) = (is, one_upload name bytes now h.board r other gives given ∙ same, it)

  -- the packet was sent before
  module _ (counts : Counts) (finds : FindsIn name bytes now h (Ok (found.Again counts))) where
    again_is : (r : Result Upload UploadRefusal) → UploadGives name bytes now h.board r → Ok (Again counts) ≡ r
    again_is r gives = let is = found_is (found.Again counts) finds r gives in sym (is.1 ∙ ap Ok is.2)

    pub again_answers : (r : Result Upload UploadRefusal) → UploadGives name bytes now h.board r → UploadAnswers h.doubtful r (Ok (answer.Again counts))
    again_answers r gives = subst (λ (x : Result Upload UploadRefusal). UploadAnswers h.doubtful x (Ok (answer.Again counts))) (again_is r gives) (inl refl)

    pub again_board : (r : Result Upload UploadRefusal) → UploadGives name bytes now h.board r → h.board ≡ after_upload h.board r
    again_board r gives = ap (after_upload h.board) (again_is r gives)

    pub again_not_new : (r : Result Upload UploadRefusal) → UploadGives name bytes now h.board r → IsNew r → ⊥
    again_not_new r gives new = subst IsNew (sym (again_is r gives)) new

  -- the packet is a new one
  module _ (change : Change) (outcomes : List Outcome) (finds : FindsIn name bytes now h (Ok (found.Judged change outcomes))) where
    new_is : (r : Result Upload UploadRefusal) → UploadGives name bytes now h.board r → Ok (Judged (changed change h.board) outcomes) ≡ r
    new_is r gives = let is = found_is (found.Judged change outcomes) finds r gives in sym (is.1 ∙ ap Ok is.2.1)

    given : Result Upload UploadRefusal
    given = (found_gives (found.Judged change outcomes) finds).0

    given_is : UploadGives name bytes now h.board given
    unfolding given
    given_is = (found_gives (found.Judged change outcomes) finds).1

    pub new_fits : Fits change h.board
    new_fits = (found_is (found.Judged change outcomes) finds given given_is).2.0

    pub new_certain : h.doubtful ≡ false
    new_certain = (found_is (found.Judged change outcomes) finds given given_is).2.2

    pub new_board : (r : Result Upload UploadRefusal) → UploadGives name bytes now h.board r → changed change h.board ≡ after_upload h.board r
    new_board r gives = ap (after_upload h.board) (new_is r gives)

    -- what it writes
    pub new_kept : (before now_wrote : ℕ) → WritesFew change h.board before now_wrote → (r : Result Upload UploadRefusal) → UploadGives name bytes now h.board r → KeepsBoundOf h.board (after_upload h.board r) before now_wrote
    new_kept before now_wrote few r gives =
        let is = (found_is (found.Judged change outcomes) finds given given_is).2 in
        subst (λ (next : Board). KeepsBoundOf h.board next before now_wrote) (new_board r gives) (posting_keeps change h.board before now_wrote is.3 is.4 is.0 few)

    pub new_valid : (r : Result Upload UploadRefusal) → UploadGives name bytes now h.board r → IsBoard (after_upload h.board r)
    new_valid r gives = subst IsBoard (new_board r gives) (fits_board change h.board new_fits)

    pub new_answers : (r : Result Upload UploadRefusal) → UploadGives name bytes now h.board r → UploadAnswers h.doubtful r (Ok (answer.Judged outcomes))
    new_answers r gives =
        subst (λ (x : Result Upload UploadRefusal). UploadAnswers h.doubtful x (Ok (answer.Judged outcomes))) (new_is r gives)
        (subst (λ (t : Bool). UploadAnswers t (Ok (Judged (changed change h.board) outcomes)) (Ok (answer.Judged outcomes))) (sym new_certain) (inl (inl refl)))

    -- the change wasn't made
    pub unchanged_answers : (r : Result Upload UploadRefusal) → UploadGives name bytes now h.board r → (e : ChangeError) → e ≢ change_error.Doubt → UploadAnswers h.doubtful r (Err (upload_change_error e))
    unchanged_answers r gives e certain =
        subst (λ (x : Result Upload UploadRefusal). UploadAnswers h.doubtful x (Err (upload_change_error e))) (new_is r gives)
        (subst (λ (t : Bool). UploadAnswers t (Ok (Judged (changed change h.board) outcomes)) (Err (upload_change_error e))) (sym new_certain) (by e certain))
      where
        by : (e : ChangeError) → e ≢ change_error.Doubt → UploadAnswers false (Ok (Judged (changed change h.board) outcomes)) (Err (upload_change_error e))
        by change_error.DiskFault certain = inr refl
        by change_error.Doubt certain = absurd (certain refl)
        by change_error.OutOfMemory certain = inl (inr refl)
