-- What is kept of the board after an upload.
use Rattle.std.proofs.Common.{◌≡◌, ◌⊎◌, inl, inr, ⊎_elim, false, Err, Ok, refl, ap}
use Rattle.std.specs.Prelude.{Result, IsErrOf, OnOk}
use Rattle.cmd_board.proofs.KeepingLaws.{IsSound, fault_keeps, refused_keeps, starved_keeps, value_keeps}
use Rattle.cmd_board.proofs.KeptLaws.{doubted, next_kept, next_sure, none_kept, none_sure, same_kept, same_sure}
use Rattle.cmd_board.specs.Halts.{halted}
use Rattle.cmd_board.specs.Keeping.{KeepsFiles, went}
use Rattle.cmd_board.specs.Kept.{AreSure, IsKept, unless_doubtful}
use Rattle.board_layout.specs.Valid.{IsBoard}
use Rattle.door_outside.specs.Disk.{Disk}
use Rattle.cmd_exchange.specs.Uploading.{upload_halt}
use Rattle.jam_records.specs.declared.damage.Damage.{Damage}
use Rattle.door_upload.specs.Upload.{Upload, UploadRefusal, after_upload}
use Rattle.door_upload.specs.Uploading.{UploadLeavesAll}
use Rattle.door_upload.specs.declared.answer.UploadError.{UploadError}
use Rattle.door_upload.specs.declared.answer.UploadError.TheVariants.{NoUser, Broken, NoBoardId, OtherBoard, Uploads, Size, DiskFault, Doubt, Damaged, OutOfMemory}
use Rattle.door_upload.specs.declared.answer.Uploaded.{Uploaded}
use Rattle.intent_journal.specs.Hosts.{IsSettled}
use Rattle.cmd_board.specs.mail_board.Held.{Follows, HeldBoard, RestsOn}

-- an error that isn't a disk fault leaves all
pub early_or_fault : (e : UploadError) → UploadLeavesAll (Err e) ⊎ (e ≡ DiskFault)
early_or_fault NoUser = inl tt
early_or_fault (Broken fault) = inl tt
early_or_fault NoBoardId = inl tt
early_or_fault OtherBoard = inl tt
early_or_fault Uploads = inl tt
early_or_fault (Size bytes) = inl tt
early_or_fault DiskFault = inr refl
early_or_fault Doubt = inl tt
early_or_fault (Damaged damage) = inl tt
early_or_fault OutOfMemory = inl tt

-- unless the disk failed, the host holds a board
pub upload_keeps : (result : Result Uploaded UploadError) {old new : Disk} → (UploadLeavesAll result → IsSound new) → OnOk result (IsSound new) → ((d : Damage) → ¬ (result ≡ Err (Damaged d))) → KeepsFiles old new (went (halted upload_halt result))
upload_keeps (Ok x) early sound undamaged = value_keeps sound
upload_keeps (Err NoUser) early sound undamaged = refused_keeps (early tt)
upload_keeps (Err (Broken fault)) early sound undamaged = refused_keeps (early tt)
upload_keeps (Err NoBoardId) early sound undamaged = refused_keeps (early tt)
upload_keeps (Err OtherBoard) early sound undamaged = refused_keeps (early tt)
upload_keeps (Err Uploads) early sound undamaged = refused_keeps (early tt)
upload_keeps (Err (Size bytes)) early sound undamaged = refused_keeps (early tt)
upload_keeps (Err DiskFault) early sound undamaged = fault_keeps
upload_keeps (Err Doubt) early sound undamaged = fault_keeps
upload_keeps (Err (Damaged d)) early sound undamaged = absurd (undamaged d refl)
upload_keeps (Err OutOfMemory) early sound undamaged = starved_keeps (λ before. (early tt).firm)

-- the board before, the one that is held after it, and what the bytes come to
module _ (before after : HeldBoard) (certain : before.doubtful ≡ false) (Gives : Result Upload UploadRefusal → Type 0) where
  -- where it was answered, they come to something
  follows : (x : Uploaded) → (Ok x ≡ Err OutOfMemory) ⊎ ((r : Result Upload UploadRefusal) × Gives r) → ((r : Result Upload UploadRefusal) → Gives r → Follows (after_upload before.board r) after)
      → (r : Result Upload UploadRefusal) × Follows (after_upload before.board r) after
  follows x (inl starved) board = absurd (cc starved)
  follows x (inr (r, gives)) board = (r, board r gives)

  pub upload_kept : (result : Result Uploaded UploadError) (disk : Disk) → (result ≡ Err OutOfMemory) ⊎ ((r : Result Upload UploadRefusal) × Gives r) → OnOk result ((r : Result Upload UploadRefusal) → Gives r → Follows (after_upload before.board r) after)
      → OnOk result (RestsOn after.board disk) → (UploadLeavesAll result → after ≡ before) → (UploadLeavesAll result → RestsOn before.board disk) → (IsErrOf result DiskFault → after ≡ doubted before) → IsSettled disk → IsKept (unless_doubtful after) disk
  upload_kept (Ok x) disk gives board rests same still fault settled =
      let made = follows x gives board in
      next_kept before after certain (after_upload before.board made.0) disk made.1 rests
  upload_kept (Err e) disk gives board rests same still fault settled = ⊎_elim
      (λ early. same_kept before after certain disk (same early) (still early))
      (λ is. none_kept before after certain disk (fault (ap Err is)) settled)
      (early_or_fault e)

  pub upload_sure : (result : Result Uploaded UploadError) → IsBoard before.board → (result ≡ Err OutOfMemory) ⊎ ((r : Result Upload UploadRefusal) × Gives r) → OnOk result ((r : Result Upload UploadRefusal) → Gives r → Follows (after_upload before.board r) after)
      → (UploadLeavesAll result → after ≡ before) → (IsErrOf result DiskFault → after ≡ doubted before) → AreSure (unless_doubtful after)
  upload_sure (Ok x) ok gives board same fault =
      let made = follows x gives board in
      next_sure before after certain (after_upload before.board made.0) made.1
  upload_sure (Err e) ok gives board same fault = ⊎_elim
      (λ early. same_sure before after certain (same early) ok)
      (λ is. none_sure before after certain (fault (ap Err is)))
      (early_or_fault e)
