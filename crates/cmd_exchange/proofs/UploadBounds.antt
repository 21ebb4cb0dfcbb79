-- An upload writes no more than the messages that it posts may.
use Rattle.std.proofs.Common.{◌≡◌, ◌⊎◌, inl, inr, ⊎_elim, ap, ℕ, List, Option, Some, Result, Ok, Err, refl, sym, ◌∙◌, subst}
use Rattle.std.specs.Prelude.{IsErrOf, OnOk}
use Rattle.cmd_board.proofs.FindLaws.{kept_is}
use Rattle.cmd_board.proofs.WriteLaws.{found_bound, kept_bound, turned_within, WritesFound}
use Rattle.cmd_board.proofs.mail_board.EachBound.{bound_alike}
use Rattle.cmd_board.specs.Kept.{IsOutlined}
use Rattle.cmd_board.specs.State.{State, Stores, migrated}
use Rattle.cmd_board.specs.WriteBound.{FilesKeepBound, KeepsWriteBound}
use Rattle.board_layout.specs.Board.{Board}
use Rattle.door_outside.specs.Disk.{Disk}
use Rattle.door_outside.specs.Shelf as Shelf
use Rattle.door_upload.proofs.UploadAlike.{SameUpload, each_upload, id_alike}
use Rattle.door_upload.specs.Upload.{Again, Judged, Upload, UploadRefusal, UploadsFor, after_upload}
use Rattle.cmd_board.specs.mail_board.declared.loading.Loaded.TheVariants.{Ready}
use Rattle.door_upload.specs.Uploading.{UploadLeavesAll}
use Rattle.door_upload.specs.declared.answer.UploadError.{UploadError}
use Rattle.door_upload.specs.declared.answer.UploadError.TheVariants.{DiskFault, OutOfMemory}
use Rattle.door_upload.specs.declared.answer.Uploaded.{Uploaded}
use Rattle.cmd_exchange.proofs.KeptUploads.{early_or_fault}
use Rattle.intent_journal.specs.Journal.{IsClosed}
use Rattle.intent_journal.specs.Recovered.{recovered}
use Rattle.cmd_board.specs.mail_board.Held.{AreAlike, Follows, HeldBoard, RestsOn}
use Rattle.cmd_board.specs.mail_board.Readers.{user_id}
use Rattle.cmd_board.specs.mail_board.Written.{KeepsBoundOf}
use Rattle.shelf_files.specs.ShelfFile.{file_within, rep_limit}
use Rattle.shelf_files.specs.declared.refusal.Refusal.{Refusal}
use Rattle.cmd_exchange.proofs.UploadActs.{upload_turns}
use Rattle.cmd_exchange.specs.Upload.{Uploads, UploadsFile, UploadsRead, uploaded_turn, uploads}

-- the turn leads to the board after the upload
turn_board : (b : Board) (r : Result Upload UploadRefusal) → (uploaded_turn b r).board ≡ Some (after_upload b r)
turn_board b (Ok (Again counts)) = refl
turn_board b (Ok (Judged next outcomes)) = refl
turn_board b (Err why) = refl

-- boards with one outline have it after uploads that come to the same
after_alike : (a b : Board) → AreAlike a b → (s r : Result Upload UploadRefusal) → SameUpload s r → AreAlike (after_upload a s) (after_upload b r)
after_alike a b alike (Err why) (Err other) same = alike
after_alike a b alike (Err why) (Ok upload) same = absurd same
after_alike a b alike (Ok upload) (Err why) same = absurd same
after_alike a b alike (Ok (Again counts)) (Ok (Again others)) same = alike
after_alike a b alike (Ok (Again counts)) (Ok (Judged next outcomes)) same = absurd same
after_alike a b alike (Ok (Judged next outcomes)) (Ok (Again counts)) same = absurd same
after_alike a b alike (Ok (Judged next outcomes)) (Ok (Judged other others)) same = same.1

module _ (name file : List ℕ) (now : ℕ) (old mid new : Disk) (shelf : Shelf.ShelfFiles) (closed : IsClosed (old.files 1)) (found : WritesFound old mid.wrote) (kept : Option Board)
    (stands : (state : State) → Stores state (recovered old.files) → IsOutlined (migrated state) kept) (b : Board) (kept_is : kept ≡ Some b) where
  module _ (id : ℕ) (id_is : user_id name b ≡ Some id) (bytes : List ℕ) (bytes_is : file_within shelf file rep_limit ≡ Ok bytes) where
    pub upload_within : (r : Result Upload UploadRefusal) → UploadsFor id bytes now b r → KeepsBoundOf b (after_upload b r) mid.wrote new.wrote → KeepsWriteBound (uploads name file now) old new shelf
    upload_within r gives bound =
        let each = each_upload id bytes now b r gives in
        turned_within (Uploads name file now) (upload_turns name file now) old mid new shelf closed found kept stands b kept_is
        (λ real. after_upload real (each.comes real)) (λ real alike. after_alike real b alike (each.comes real) (each.comes b) (each.same real alike))
        (λ real. uploaded_turn real (each.comes real)) (λ real ok alike. (
          subst (λ (user : Option ℕ). UploadsFile file now shelf real user (uploaded_turn real (each.comes real))) (sym (id_alike real b alike name ∙ id_is))
              (subst (λ (read : Result (List ℕ) Refusal). UploadsRead id now real read (uploaded_turn real (each.comes real))) (sym bytes_is) (each.comes real, each.gives real alike, refl)),
          turn_board real (each.comes real),
        )) (subst (λ (x : Result Upload UploadRefusal). KeepsBoundOf b (after_upload b x) mid.wrote new.wrote) (sym each.own) bound)

-- whatever the shelf holds
module _ (old mid new : Disk) (closed : IsClosed (old.files 1)) (found : WritesFound old mid.wrote) (kept : Option Board) (stands : (state : State) → Stores state (recovered old.files) → IsOutlined (migrated state) kept)
    (before after : HeldBoard) (before_is : kept ≡ Some before.board) (Gives : Result Upload UploadRefusal → Type 0) where
  pub upload_bound : (result : Result Uploaded UploadError) → ¬ IsErrOf result DiskFault → (result ≡ Err OutOfMemory) ⊎ ((r : Result Upload UploadRefusal) × Gives r) → (UploadLeavesAll result → new.wrote ≡ mid.wrote)
      → OnOk result ((r : Result Upload UploadRefusal) → Gives r → Follows (after_upload before.board r) after) → OnOk result (RestsOn after.board new)
      → ((r : Result Upload UploadRefusal) → Gives r → KeepsBoundOf before.board (after_upload before.board r) mid.wrote new.wrote) → FilesKeepBound old new
  upload_bound (Ok x) sound (inl starved) same follows rests bound = absurd (cc starved)
  upload_bound (Ok x) sound (inr (r, gives)) same follows rests bound =
      kept_bound old closed mid new found kept stands before.board before_is (Some after.board) (λ next stores. kept_is (Ready after) new next rests stores) after.board refl
      (bound_alike before.board before.board after.board (after_upload before.board r) mid.wrote new.wrote refl (follows r gives).alike (bound r gives))
  upload_bound (Err e) sound given same follows rests bound = ⊎_elim
      (λ early. found_bound old closed new (subst (WritesFound old) (sym (same early)) found))
      (λ is. absurd (sound (ap Err is)))
      (early_or_fault e)
