-- What an upload answers.
use Rattle.std.specs.Prelude.{◌≡◌, ◌⊎◌, ℕ, List, Bool, true, false, Result, Ok, Err}
use Rattle.byte_lists.specs.Memory.{UnlessMemory}
use Rattle.board_layout.specs.Board.{Board}
use Rattle.board_layout.specs.Valid.{IsBoard}
use Rattle.mail_board.specs.Changes.{changed, Fits}
use Rattle.mail_board.specs.Held.{AreAlike, HeldBoard}
use Rattle.mail_board.specs.Written.{IsPosting}
use Rattle.mail_board.specs.declared.change.Change.TheVariants as posting
use Rattle.mail_board.specs.declared.change.ChangeError.{ChangeError}
use Rattle.mail_board.specs.declared.change.ChangeError.TheVariants as change
use Rattle.packet_verdicts.specs.Judged.{judged, refused_count}
use Rattle.qwk_blocks.specs.declared.message.QwkMessage.{QwkMessage}
use Rattle.rep_packet.specs.declared.fault.RepError.{RepError}
use Rattle.rep_packet.specs.declared.fault.RepError.TheVariants as rep
use Rattle.door_upload.specs.Upload.{Upload, UploadRefusal, UploadGives}
use Rattle.door_upload.specs.Upload as upload
use Rattle.door_upload.specs.declared.answer.UploadError.{UploadError}
use Rattle.door_upload.specs.declared.answer.UploadError.TheVariants.{NoUser, Broken, NoBoardId, OtherBoard, Uploads, Size, DiskFault, Doubt, Damaged, OutOfMemory}
use Rattle.door_upload.specs.declared.answer.Uploaded.{Uploaded}
use Rattle.door_upload.specs.declared.answer.Uploaded.TheVariants.{Again, Judged}
use Rattle.door_upload.specs.declared.preparing.Uploading.{Uploading}
use Rattle.door_upload.specs.declared.preparing.Uploading.TheVariants as found

-- ---- errors
-- the refusal as an error
abbrev pub upload_error : UploadRefusal → UploadError
upload_error upload.NoUser = NoUser
upload_error (upload.Broken fault) = Broken fault
upload_error upload.NoBoardId = NoBoardId
upload_error upload.OtherBoard = OtherBoard
upload_error upload.Uploads = Uploads
upload_error (upload.Size bytes) = Size bytes

-- the error as which the packet wasn't read
abbrev pub of_rep : RepError → UploadError
of_rep (rep.Fault fault) = Broken fault
of_rep rep.NoBoardId = NoBoardId
of_rep rep.OutOfMemory = OutOfMemory

-- the error as which the board's change ended
abbrev pub upload_change_error : ChangeError → UploadError
upload_change_error change.DiskFault = DiskFault
upload_change_error change.Doubt = Doubt
upload_change_error change.OutOfMemory = OutOfMemory

-- ---- before the board is changed
-- what was found of a packet that isn't refused, of a board in no doubt: a change that posts its messages, on a valid board
abbrev pub IsUploadFound : HeldBoard → Uploading → Upload → Type 0
IsUploadFound h (found.Again counts) u = u ≡ upload.Again counts
IsUploadFound h (found.Judged change outcomes) u =
    Fits change h.board × (u ≡ upload.Judged (changed change h.board) outcomes) × (h.doubtful ≡ false) × IsPosting change × IsBoard h.board

-- the change posts what was judged on this board, and these are the outcomes
abbrev pub IsJudged : ℕ → List ℕ → ℕ → Board → List QwkMessage → Uploading → Type 0
IsJudged id digest now b messages (found.Again counts) = Unit {0}
IsJudged id digest now b messages (found.Judged change outcomes) =
    let all = judged b id now messages in
    (change ≡ posting.Upload id digest (refused_count all.0) all.1) × (outcomes ≡ all.0)

-- P says it of each valid board with the outline of the one that is held
abbrev pub OfEach : HeldBoard → (HeldBoard → Type 0) → Type 0
OfEach h P = (b : Board) → IsBoard b → AreAlike b h.board → P (record { board = b; doubtful = h.doubtful })

-- the packet is a new one
abbrev pub IsNew : Result Upload UploadRefusal → Type 0
IsNew (Ok (upload.Again counts)) = ⊥
IsNew (Ok (upload.Judged next outcomes)) = Unit {0}
IsNew (Err why) = ⊥

-- the refusal, or doubt where the packet is a new one
abbrev pub IsKeptFrom : HeldBoard → UploadError → Result Upload UploadRefusal → Type 0
IsKeptFrom h e r = ((why : UploadRefusal) × (r ≡ Err why) × (e ≡ upload_error why)) ⊎ (IsNew r × (h.doubtful ≡ true) × (e ≡ Doubt))

abbrev pub UploadFinds : HeldBoard → Result Upload UploadRefusal → Result Uploading UploadError → Type 0
UploadFinds h r (Ok u) = (is : Upload) × (r ≡ Ok is) × IsUploadFound h u is
UploadFinds h r (Err e) = IsKeptFrom h e r

-- what is found, unless memory runs out
abbrev pub FindsFor : HeldBoard → Result Upload UploadRefusal → Result Uploading UploadError → Type 0
FindsFor h r result = (result ≡ Err OutOfMemory) ⊎ UploadFinds h r result

-- what is found of the bytes that the user of a name uploads at a moment
abbrev pub FindsIn : List ℕ → List ℕ → ℕ → HeldBoard → Result Uploading UploadError → Type 0
FindsIn name bytes now h result = (result ≡ Err OutOfMemory) ⊎ ((r : Result Upload UploadRefusal) × UploadGives name bytes now h.board r × UploadFinds h r result)

-- ---- the answer
abbrev pub UnlessFault : Result Uploaded UploadError → Result Uploaded UploadError → Type 0
UnlessFault result answer = UnlessMemory OutOfMemory result answer ⊎ (result ≡ Err DiskFault)

-- The answer to what the bytes come to: the refusal, or what became of the packet when it was sent before; else doubt
-- where the board is doubtful, and what became of the messages.
abbrev pub UploadAnswers : Bool → Result Upload UploadRefusal → Result Uploaded UploadError → Type 0
UploadAnswers doubtful (Err why) result = UnlessMemory OutOfMemory result (Err (upload_error why))
UploadAnswers doubtful (Ok (upload.Again counts)) result = UnlessMemory OutOfMemory result (Ok (Again counts))
UploadAnswers true (Ok (upload.Judged next outcomes)) result = UnlessMemory OutOfMemory result (Err Doubt)
UploadAnswers false (Ok (upload.Judged next outcomes)) result = UnlessFault result (Ok (Judged outcomes))

-- an answer that leaves all as it was: any but what became of messages, and a disk fault
abbrev pub UploadLeavesAll : Result Uploaded UploadError → Type 0
UploadLeavesAll (Ok (Again counts)) = Unit {0}
UploadLeavesAll (Ok (Judged outcomes)) = ⊥
UploadLeavesAll (Err NoUser) = Unit {0}
UploadLeavesAll (Err (Broken fault)) = Unit {0}
UploadLeavesAll (Err NoBoardId) = Unit {0}
UploadLeavesAll (Err OtherBoard) = Unit {0}
UploadLeavesAll (Err Uploads) = Unit {0}
UploadLeavesAll (Err (Size bytes)) = Unit {0}
UploadLeavesAll (Err DiskFault) = ⊥
UploadLeavesAll (Err Doubt) = Unit {0}
UploadLeavesAll (Err (Damaged damage)) = Unit {0}
UploadLeavesAll (Err OutOfMemory) = Unit {0}
