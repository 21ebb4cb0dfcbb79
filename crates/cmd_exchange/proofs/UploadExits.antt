-- The exits of `upload`: from what was found, and what the upload left, to what the command's contract gives.
use Rattle.std.proofs.Common.{◌≡◌, ℕ, List, Option, Some, None, Result, Ok, Err, false, refl, sym, ◌∙◌, ap, subst, ⊎_elim}
use Rattle.std.specs.Prelude.{◌⊎◌, IsErrOf, IsSome, OnOk}
use Rattle.cmd_board.proofs.ChangeLaws.{changes_to}
use Rattle.cmd_board.proofs.Exits.{answered, shelf_fails, starved, turned, unturned}
use Rattle.cmd_board.specs.Halts.{halted, told, of_shelf}
use Rattle.cmd_board.specs.State.{State, Made, Stores, migrated}
use Rattle.cmd_board.specs.Turns.{Turn, refuses}
use Rattle.cmd_board.specs.declared.halt.BoardHalt.{BoardHalt}
use Rattle.cmd_board.specs.declared.halt.BoardHalt.TheVariants as board_halt
use Rattle.board_layout.specs.Board.{Board}
use Rattle.board_layout.specs.Layout.{IsLayout}
use Rattle.board_layout.specs.Valid.{IsBoard}
use Rattle.door_outside.specs.Disk.{Disk, AllNow, Between, Unchanged}
use Rattle.door_outside.specs.Shelf as Shelf
use Rattle.door_upload.specs.Upload.{Upload, UploadRefusal, UploadsFor, after_upload}
use Rattle.door_upload.specs.Upload as upload
use Rattle.door_upload.specs.Uploading.{UploadAnswers, IsNew, UploadLeavesAll, upload_error}
use Rattle.door_upload.specs.declared.answer.UploadError.{UploadError}
use Rattle.door_upload.specs.declared.answer.UploadError.TheVariants.{DiskFault, OutOfMemory}
use Rattle.door_upload.specs.declared.answer.Uploaded.{Uploaded}
use Rattle.door_upload.specs.declared.answer.Uploaded.TheVariants.{Again, Judged}
use Rattle.entry_runs.proofs.Boards.{found_still}
use Rattle.entry_runs.proofs.Commands.{works_same}
use Rattle.entry_runs.specs.Door.{World}
use Rattle.entry_runs.specs.Entry.{Changes, Finds, IsAt, Works}
use Rattle.intent_journal.specs.Hosts.{IsSettled}
use Rattle.intent_journal.specs.declared.recovery.JournalError.{JournalError}
use Rattle.intent_journal.specs.declared.recovery.JournalError.TheVariants as journal
use Rattle.cmd_board.specs.mail_board.Held.{BeforeOrNext, Rests}
use Rattle.cmd_board.specs.mail_board.Readers.{user_id}
use Rattle.mail_intake.specs.packet_verdicts.declared.outcome.Outcome.{Outcome}
use Rattle.shelf_files.specs.Halts.{Comes, refused as says_refusal}
use Rattle.shelf_files.specs.ShelfFile.{file_within, rep_limit}
use Rattle.shelf_files.specs.declared.halt.Halt.{Halt}
use Rattle.shelf_files.specs.declared.halt.Halt.TheVariants as halt
use Rattle.shelf_files.specs.declared.refusal.Refusal.{Refusal}
use Rattle.shelf_files.specs.declared.refusal.Refusal.TheVariants.{NoUser}
use Rattle.cmd_exchange.specs.Upload.{Uploads, UploadsFile, UploadsRead, upload_refusal, uploaded_turn, uploaded_text, uploads}
use Rattle.cmd_exchange.specs.Uploading.{upload_halt}

-- what an upload to a board in no doubt left, by what the bytes come to
pub record Leaves (b : Board) (mid new : Disk) (r : Result Upload UploadRefusal) (result : Result Uploaded UploadError) : Type 0 where
  pub moments : Between mid new (BeforeOrNext (IsLayout b) (after_upload b r) mid)
  pub now_is : AllNow new (BeforeOrNext (IsLayout b) (after_upload b r) mid)
  pub settled : IsSettled new
  pub answers : UploadAnswers false r result
  pub same : UploadLeavesAll result → Unchanged mid new
  pub rests : OnOk result (Rests (after_upload b r) new)
  pub valid : IsNew r → IsErrOf result OutOfMemory ⊎ IsBoard (after_upload b r)

-- what an answer has with it
pub on_ok : {T E P Q : Type 0} (result : Result T E) → (P → Q) → OnOk result P → OnOk result Q
on_ok (Ok value) more holds = more holds
on_ok (Err e) more holds = tt

pub some_is : (o : Option ℕ) → IsSome o → (n : ℕ) × (o ≡ Some n)
some_is None some = absurd (cc some)
some_is (Some n) some = (n, refl)

-- a refusal is told as one, and leaves all
refused_told : (why : UploadRefusal) → told uploaded_text (halted upload_halt (Err (upload_error why))) ≡ Ok (says_refusal (upload_refusal why))
refused_told upload.NoUser = refl
refused_told (upload.Broken fault) = refl
refused_told upload.NoBoardId = refl
refused_told upload.OtherBoard = refl
refused_told upload.Uploads = refl
refused_told (upload.Size bytes) = refl

refusal_leaves : (why : UploadRefusal) → UploadLeavesAll (Err (upload_error why))
refusal_leaves upload.NoUser = tt
refusal_leaves (upload.Broken fault) = tt
refusal_leaves upload.NoBoardId = tt
refusal_leaves upload.OtherBoard = tt
refusal_leaves upload.Uploads = tt
refusal_leaves (upload.Size bytes) = tt

module _ (name file : List ℕ) (now : ℕ) (b : Board) {world : World State} {old mid : Disk} {shelf : Shelf.ShelfFiles} (at : IsAt Stores world old shelf) (finds : Finds Stores world.state (migrated world.state) old mid (Ok (tt {0}))) (is : migrated world.state ≡ Made b) where
  takes_file : (o : Option ℕ) → user_id name b ≡ o → (turn : Turn) → UploadsFile file now shelf b o turn → Uploads name file now world.shelf (Some b) turn
  takes_file o o_is turn takes =
      subst (λ (files : Shelf.ShelfFiles). Uploads name file now files (Some b) turn) at.shelf_is (subst (λ (found : Option ℕ). UploadsFile file now shelf b found turn) (sym o_is) takes)

  -- no user has the name
  pub unknown : {e : BoardHalt} → e ≡ board_halt.Refused NoUser → user_id name b ≡ None → Works Stores (uploads name file now) world old mid shelf (told uploaded_text (Err e))
  unknown e_is none =
      subst (λ (e : BoardHalt). Works Stores (uploads name file now) world old mid shelf (told uploaded_text (Err e))) (sym e_is)
      (answered (Uploads name file now) at {board = Some b} finds is (refuses NoUser (Some b)) (takes_file None none (refuses NoUser (Some b)) refl) refl)

  module _ {later : Shelf.ShelfFiles} (id : ℕ) (id_is : user_id name b ≡ Some id) (same_shelf : later ≡ shelf) where
    takes : (read : Result (List ℕ) Refusal) → file_within shelf file rep_limit ≡ read → (turn : Turn) → UploadsRead id now b read turn → Uploads name file now world.shelf (Some b) turn
    takes read read_is turn taken = takes_file (Some id) id_is turn (subst (λ (r : Result (List ℕ) Refusal). UploadsRead id now b r turn) (sym read_is) taken)

    -- the file isn't there or is too long, or couldn't be read
    pub no_file : (h : Halt) → Comes {Value = List ℕ} (Err h) (λ read. read ≡ file_within shelf file rep_limit) → Works Stores (uploads name file now) world old mid later (told uploaded_text (Err (of_shelf h)))
    no_file (halt.Refused why) comes = works_same Stores (uploads name file now) same_shelf
        (answered (Uploads name file now) at {board = Some b} finds is (refuses why (Some b)) (takes (Err why) (sym comes) (refuses why (Some b)) refl) refl)
    no_file halt.ShelfFault comes = works_same Stores (uploads name file now) same_shelf (shelf_fails (Uploads name file now) at finds)
    no_file halt.OutOfMemory comes = works_same Stores (uploads name file now) same_shelf (starved (Uploads name file now) at finds)

    -- nothing was changed
    still : {new : Disk} → Unchanged mid new → Finds Stores world.state (migrated world.state) old new (Ok (tt {0}))
    still same = found_still Stores at.board (Ok (tt {0})) finds same (λ never. absurd (cc never))

    -- memory ran out
    pub out_of_memory : {new : Disk} (result : Result Uploaded UploadError) → result ≡ Err OutOfMemory → (UploadLeavesAll result → Unchanged mid new) → Works Stores (uploads name file now) world old new later (told uploaded_text (halted upload_halt result))
    out_of_memory {new} result e same =
        subst (λ (r : Result Uploaded UploadError). Works Stores (uploads name file now) world old new later (told uploaded_text (halted upload_halt r))) (sym e)
        (works_same Stores (uploads name file now) same_shelf (starved (Uploads name file now) at (still (same (subst UploadLeavesAll (sym e) tt)))))

    module _ (ok : IsBoard b) (bytes : List ℕ) (bytes_is : file_within shelf file rep_limit ≡ Ok bytes) {new : Disk} (result : Result Uploaded UploadError) where
      -- the board stays, and this is answered
      stays : (r : Result Upload UploadRefusal) → UploadsFor id bytes now b r → (answer : Result Uploaded UploadError) → UploadLeavesAll answer → (uploaded_turn b r).board ≡ Some b → told uploaded_text (halted upload_halt answer) ≡ Ok (uploaded_turn b r).reply → result ≡ answer → Leaves b mid new r result
          → Works Stores (uploads name file now) world old new later (told uploaded_text (halted upload_halt result))
      stays r gives answer early board says e leaves =
          subst (Works Stores (uploads name file now) world old new later) (sym (ap (λ (x : Result Uploaded UploadError). told uploaded_text (halted upload_halt x)) e ∙ says))
          (works_same Stores (uploads name file now) same_shelf
          (answered (Uploads name file now) at {board = Some b} (still (leaves.same (subst UploadLeavesAll (sym e) early))) is (uploaded_turn b r) (takes (Ok bytes) bytes_is (uploaded_turn b r) (r, gives, refl)) board))

      -- the packet is a new one
      module _ (next : Board) (outcomes : List Outcome) (gives : UploadsFor id bytes now b (Ok (upload.Judged next outcomes))) (leaves : Leaves b mid new (Ok (upload.Judged next outcomes)) result) where
        turn : Turn
        turn = uploaded_turn b (Ok (upload.Judged next outcomes))

        taken : Uploads name file now world.shelf (Some b) turn
        unfolding turn
        taken = takes (Ok bytes) bytes_is (uploaded_turn b (Ok (upload.Judged next outcomes))) (Ok (upload.Judged next outcomes), gives, refl)

        next_board : (result ≡ Err OutOfMemory → ⊥) → IsBoard next
        next_board never = ⊎_elim (λ oom. absurd (never oom)) (λ valid. valid) (leaves.valid tt)

        changes : {T E : Type 0} (part : Result T E) → IsBoard next → OnOk part (Rests next new) → Changes Stores (migrated world.state) (Made next) mid new part
        changes part valid rests =
            subst (λ (s : State). Changes Stores s (Made next) mid new part) (sym is)
            (changes_to (Made b) (IsLayout b) (λ files laid. (ok, laid)) next valid part leaves.moments leaves.now_is leaves.settled rests)

        posts : result ≡ Ok (Judged outcomes) → Works Stores (uploads name file now) world old new later (told uploaded_text (halted upload_halt result))
        unfolding turn
        posts e =
            let valid : IsBoard next = next_board (λ oom. cc (sym e ∙ oom)) in
            let rests : Rests next new = subst (λ (x : Result Uploaded UploadError). OnOk x (Rests next new)) e leaves.rests in
            subst (λ (x : Result Uploaded UploadError). Works Stores (uploads name file now) world old new later (told uploaded_text (halted upload_halt x))) (sym e)
            (works_same Stores (uploads name file now) same_shelf (turned (Uploads name file now) at {board = Some b} finds is turn taken (changes {E = JournalError} (Ok (tt {0})) valid rests)))

        fails : result ≡ Err DiskFault → Works Stores (uploads name file now) world old new later (told uploaded_text (halted upload_halt result))
        unfolding turn
        fails e =
            let valid : IsBoard next = next_board (λ oom. cc (sym e ∙ oom)) in
            subst (λ (x : Result Uploaded UploadError). Works Stores (uploads name file now) world old new later (told uploaded_text (halted upload_halt x))) (sym e)
            (works_same Stores (uploads name file now) same_shelf
            (unturned (Uploads name file now) at {board = Some b} finds is turn taken uploaded_text journal.DiskFault (changes {T = Unit {0}} (Err journal.DiskFault) valid tt) (λ never. absurd (cc never))))

      pub works : (r : Result Upload UploadRefusal) → UploadsFor id bytes now b r → Leaves b mid new r result → Works Stores (uploads name file now) world old new later (told uploaded_text (halted upload_halt result))
      works (Err why) gives leaves = ⊎_elim (λ e. stays (Err why) gives (Err (upload_error why)) (refusal_leaves why) refl (refused_told why) e leaves) (λ oom. out_of_memory result oom leaves.same) leaves.answers
      works (Ok (upload.Again counts)) gives leaves = ⊎_elim (λ e. stays (Ok (upload.Again counts)) gives (Ok (Again counts)) tt refl refl e leaves) (λ oom. out_of_memory result oom leaves.same) leaves.answers
      works (Ok (upload.Judged next outcomes)) gives leaves =
          ⊎_elim (λ e. ⊎_elim (λ done. posts next outcomes gives leaves done) (λ oom. out_of_memory result oom leaves.same) e) (λ fault. fails next outcomes gives leaves fault) leaves.answers
