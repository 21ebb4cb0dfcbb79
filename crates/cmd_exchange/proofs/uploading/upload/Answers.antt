use Rattle.std.proofs.Common.{rules, ◌≡◌, ℕ, Bool, Option, Some, None, Result, Ok, Err, refl, sym, ◌∙◌, ap, subst, ⊎_elim}
use Rattle.std.specs.Prelude.{IsSome}
use Rattle.cmd_board.proofs.ChangeLaws.{stores_holds}
use Rattle.cmd_board.proofs.Exits.{answered, unfound}
use Rattle.cmd_board.proofs.FindLaws.{same_host}
use Rattle.cmd_board.proofs.KeepingLaws.{IsSound, keeps_as, read_sound, refused_as, unfound_keeps, unopened_keeps}
use Rattle.cmd_board.proofs.LikeLaws.{none_outlined, real_stored, some_outlined}
use Rattle.cmd_board.proofs.WriteLaws.{found_bound, found_within, WritesFound}
use Rattle.cmd_board.specs.Halts.{halted, told, halt_of_read, of_shelf}
use Rattle.cmd_board.specs.Kept.{AreSure, IsKept, kept_board}
use Rattle.cmd_board.specs.State.{Stores, migrated}
use Rattle.cmd_board.specs.Turns.{refuses}
use Rattle.cmd_board.specs.declared.halt.BoardHalt.{BoardHalt}
use Rattle.board_layout.specs.Board.{Board}
use Rattle.door_outside.specs.Disk.{Unchanged}
use Rattle.door_upload.proofs.UploadAlike.{gives_alike, id_alike}
use Rattle.door_upload.specs.Upload.{UploadGives, UploadsAs}
use Rattle.door_upload.specs.Uploading.{UploadAnswers, UploadLeavesAll}
use Rattle.door_upload.specs.declared.answer.Uploaded.{Uploaded}
use Rattle.entry_runs.specs.Entry.{Works}
use Rattle.cmd_board.specs.mail_board.Held.{RestsOn}
use Rattle.cmd_board.specs.mail_board.Readers.{user_id}
use Rattle.cmd_board.specs.mail_board.declared.loading.Loaded.{Loaded}
use Rattle.cmd_board.specs.mail_board.declared.loading.Loaded.TheVariants.{Ready}
use Rattle.shelf_files.specs.ShelfFile.{file_within, rep_limit}
use Rattle.shelf_files.specs.declared.refusal.Refusal.TheVariants.{NotMade}
use Rattle.shelf_files.specs.declared.refusal.Refusal.TheVariants as refusal
use Rattle.cmd_exchange.proofs.KeptUploads.{upload_keeps, upload_kept, upload_sure}
use Rattle.cmd_exchange.proofs.UploadExits.{no_file, on_ok, out_of_memory, some_is, unknown, works}
use Rattle.cmd_exchange.proofs.UploadBounds.{upload_bound, upload_within}
use Rattle.cmd_exchange.specs.Uploading.{upload_halt}
use Rattle.cmd_exchange.specs.Upload.{Uploads, uploaded_text, uploads}
use Rattle.cmd_exchange.proofs.uploading.upload.Goals as goal

pub returns-in_err-find-clause-works : goal.returns-in_err-find-clause-works
returns-in_err-find-clause-works g c tells shelf_tells world at =
    let is : c.from_residual.result ≡ Err (halt_of_read c.in_err-find.field-0.0) = search rules in
    subst (λ (r : Result Uploaded BoardHalt). Works Stores (uploads c.args.user.now c.args.file.now c.args.now) world (g.H.Host.disk c.args.host.now) (g.H.Host.disk c.find.new.host) (g.S.Shelf.files c.args.shelf.now) (told uploaded_text r)) (sym is)
    (unfound (Uploads c.args.user.now c.args.file.now c.args.now) at uploaded_text c.find.new.kept c.in_err-find.field-0.0
    (c.in_err-find.ensures.finds tells world.state at.board.stores) (c.in_err-find.ensures.state tells world.state at.board.stores))

pub returns-in_err-board_in-clause-works : goal.returns-in_err-board_in-clause-works
returns-in_err-board_in-clause-works g c tells shelf_tells world at =
    let e : BoardHalt = c.in_err-board_in.field-0.0 in
    let is : c.from_residual-in_err-board_in.result ≡ Err e = search rules in
    let none = none_outlined (migrated world.state) (kept_board c.find.new.kept) c.in_err-board_in.ensures.board.1 (c.in_ok-find.ensures.state tells world.state at.board.stores) in
    subst (λ (r : Result Uploaded BoardHalt). Works Stores (uploads c.args.user.now c.args.file.now c.args.now) world (g.H.Host.disk c.args.host.now) (g.H.Host.disk c.find.new.host) (g.S.Shelf.files c.args.shelf.now) (told uploaded_text r)) (sym is)
    (subst (λ (halt : BoardHalt). Works Stores (uploads c.args.user.now c.args.file.now c.args.now) world (g.H.Host.disk c.args.host.now) (g.H.Host.disk c.find.new.host) (g.S.Shelf.files c.args.shelf.now) (told uploaded_text (Err halt))) (sym c.in_err-board_in.ensures.board.0)
    (answered (Uploads c.args.user.now c.args.file.now c.args.now) at {board = None} (c.in_ok-find.ensures.finds tells world.state at.board.stores) none (refuses NotMade None) refl refl))

pub returns-in_err-look_for-clause-works : goal.returns-in_err-look_for-clause-works
returns-in_err-look_for-clause-works g c tells shelf_tells world at =
    let held : Board = c.in_ok-board_in.field-0.now.board in
    let is : c.from_residual-in_err-look_for.result ≡ Err c.in_err-look_for.field-0.0 = search rules in
    let real = some_outlined (migrated world.state) (kept_board c.find.new.kept) held c.in_ok-board_in.ensures.board (c.in_ok-find.ensures.state tells world.state at.board.stores) in
    subst (λ (r : Result Uploaded BoardHalt). Works Stores (uploads c.args.user.now c.args.file.now c.args.now) world (g.H.Host.disk c.args.host.now) (g.H.Host.disk c.find.new.host) (g.S.Shelf.files c.args.shelf.now) (told uploaded_text r)) (sym is)
    (unknown c.args.user.now c.args.file.now c.args.now real.board at (c.in_ok-find.ensures.finds tells world.state at.board.stores) real.is c.in_err-look_for.ensures.0 (id_alike real.board held real.alike c.args.user.now ∙ c.in_err-look_for.ensures.1))

pub returns-in_err-bytes-clause-works : goal.returns-in_err-bytes-clause-works
returns-in_err-bytes-clause-works g c tells shelf_tells world at =
    let held : Board = c.in_ok-board_in.field-0.now.board in
    let halt = c.in_err-bytes.field-0.0 in
    let him = some_is (user_id c.args.user.now held) c.in_ok-look_for.ensures in
    let is : c.from_residual-in_err-bytes.result ≡ Err (of_shelf halt) = search rules in
    let real = some_outlined (migrated world.state) (kept_board c.find.new.kept) held c.in_ok-board_in.ensures.board (c.in_ok-find.ensures.state tells world.state at.board.stores) in
    let id = id_alike real.board held real.alike c.args.user.now ∙ him.1 in
    subst (λ (r : Result Uploaded BoardHalt). Works Stores (uploads c.args.user.now c.args.file.now c.args.now) world (g.H.Host.disk c.args.host.now) (g.H.Host.disk c.find.new.host) (g.S.Shelf.files c.file_in.new.shelf) (told uploaded_text r)) (sym is)
    (no_file c.args.user.now c.args.file.now c.args.now real.board at (c.in_ok-find.ensures.finds tells world.state at.board.stores) real.is him.0 id (c.in_err-bytes.ensures.unchanged shelf_tells) halt (c.in_err-bytes.ensures.file shelf_tells))

pub returns-clause-works : goal.returns-clause-works
returns-clause-works g c tells shelf_tells world at =
    let name = c.args.user.now in
    let held = c.in_ok-board.board in
    let here : c.find.new.kept ≡ _ = c.in_ok-board.ensures.board in
    let certain = subst AreSure here c.in_ok-find.ensures.sure in
    let disk = g.H.Host.disk c.find.new.host in
    let rests : RestsOn held.board disk = subst (λ (kept : Option Loaded). IsKept kept disk) here (c.in_ok-find.ensures.kept tells) in
    let finds = c.in_ok-find.ensures.finds tells world.state at.board.stores in
    let real = some_outlined (migrated world.state) (kept_board c.find.new.kept) held.board (ap kept_board here) (c.in_ok-find.ensures.state tells world.state at.board.stores) in
    let b : Board = real.board in
    let holds = stores_holds b disk rests.calm (real_stored finds b real.is) in
    let looked : Some c.in_ok-board_in.field-0.now.board ≡ Some held.board = sym c.in_ok-board_in.ensures.board ∙ ap kept_board here in
    let one : c.in_ok-board_in.field-0.now.board ≡ held.board = cc looked in
    let him = some_is (user_id name held.board) (subst (λ (b : Board). IsSome (user_id name b)) one c.in_ok-look_for.ensures) in
    let id : user_id name b ≡ Some him.0 = id_alike b held.board real.alike name ∙ him.1 in
    let bytes = c.as_slice.result.now in
    let read : file_within (g.S.Shelf.files c.args.shelf.now) c.args.file.now rep_limit ≡ Ok bytes = sym (c.in_ok-bytes.ensures.file shelf_tells) ∙ ap Ok (sym c.as_slice.ensures.same) in
    let result = c.upload-uploaded.result in
    let gives = c.upload-uploaded.ensures in
    let same : UploadLeavesAll result → Unchanged disk (g.H.Host.disk c.upload-uploaded.new.host) = λ early. subst (λ host. Unchanged disk (g.H.Host.disk host)) (sym (gives.unchanged early).1) (same_host disk) in
    subst (λ (r : Result Uploaded BoardHalt). Works Stores (uploads name c.args.file.now c.args.now) world (g.H.Host.disk c.args.host.now) (g.H.Host.disk c.upload-uploaded.new.host) (g.S.Shelf.files c.file_in.new.shelf) (told uploaded_text r)) (sym c.answered.ensures)
    (⊎_elim
    (λ starved. out_of_memory name c.args.file.now c.args.now b at finds real.is him.0 id (c.in_ok-bytes.ensures.unchanged shelf_tells) result starved same)
    (λ given.
    let r = gives_alike b held.board real.alike bytes c.args.now name given.0 given.1 in
    works name c.args.file.now c.args.now b at finds real.is him.0 id (c.in_ok-bytes.ensures.unchanged shelf_tells) real.valid bytes read result r.0
    (subst (λ (o : Option ℕ). UploadsAs o bytes c.args.now b r.0) id r.1)
    (record {
      moments = gives.moments tells certain.1 b holds r.0 r.1;
      now_is = gives.now tells certain.1 b holds r.0 r.1;
      settled = gives.settled tells certain.1;
      answers = subst (λ (doubtful : Bool). UploadAnswers doubtful r.0 result) certain.1 (gives.answer b real.valid real.alike r.0 r.1);
      same = same;
      rests = on_ok result (λ next. next tells certain.1 b holds r.0 r.1) gives.next;
      valid = gives.valid certain.1 b real.valid real.alike r.0 r.1;
    }))
    gives.gives)

pub returns-clause-kept : goal.returns-clause-kept
returns-clause-kept g c tells =
    let held = c.in_ok-board.board in
    let here : c.find.new.kept ≡ _ = c.in_ok-board.ensures.board in
    let certain = subst AreSure here c.in_ok-find.ensures.sure in
    let rests = subst (λ (kept : Option Loaded). IsKept kept (g.H.Host.disk c.find.new.host)) here (c.in_ok-find.ensures.kept tells) in
    let result = c.upload-uploaded.result in
    let gives = c.upload-uploaded.ensures in
    subst (λ (kept : Option Loaded). IsKept kept (g.H.Host.disk c.upload-uploaded.new.host)) (sym c.keep_board.ensures)
    (upload_kept held c.upload-uploaded.new.board certain.1 (λ r. UploadGives c.args.user.now c.as_slice.result.now c.args.now held.board r) result (g.H.Host.disk c.upload-uploaded.new.host) gives.gives
    (on_ok result (λ board. board certain.1 certain.0) gives.board) (on_ok result (λ rests. rests tells certain.1) gives.rests) (λ early. (gives.unchanged early).0)
    (λ early. subst (λ host. RestsOn held.board (g.H.Host.disk host)) (sym (gives.unchanged early).1) rests) gives.fault (gives.settled tells certain.1))

pub returns-clause-sure : goal.returns-clause-sure
returns-clause-sure g c =
    let held = c.in_ok-board.board in
    let here : c.find.new.kept ≡ _ = c.in_ok-board.ensures.board in
    let certain = subst AreSure here c.in_ok-find.ensures.sure in
    let result = c.upload-uploaded.result in
    let gives = c.upload-uploaded.ensures in
    subst AreSure (sym c.keep_board.ensures)
    (upload_sure held c.upload-uploaded.new.board certain.1 (λ r. UploadGives c.args.user.now c.as_slice.result.now c.args.now held.board r) result certain.0 gives.gives
    (on_ok result (λ board. board certain.1 certain.0) gives.board) (λ early. (gives.unchanged early).0) gives.fault)

pub returns-in_err-find-clause-wrote : goal.returns-in_err-find-clause-wrote
returns-in_err-find-clause-wrote g c tells shelf_tells closed = found_within (uploads c.args.user.now c.args.file.now c.args.now) (g.H.Host.disk c.args.host.now) (g.H.Host.disk c.find.new.host) (g.S.Shelf.files c.args.shelf.now) closed (c.find.ensures.wrote tells)

pub returns-in_err-board_in-clause-wrote : goal.returns-in_err-board_in-clause-wrote
returns-in_err-board_in-clause-wrote g c tells shelf_tells closed = found_within (uploads c.args.user.now c.args.file.now c.args.now) (g.H.Host.disk c.args.host.now) (g.H.Host.disk c.find.new.host) (g.S.Shelf.files c.args.shelf.now) closed (c.find.ensures.wrote tells)

pub returns-in_err-look_for-clause-wrote : goal.returns-in_err-look_for-clause-wrote
returns-in_err-look_for-clause-wrote g c tells shelf_tells closed = found_within (uploads c.args.user.now c.args.file.now c.args.now) (g.H.Host.disk c.args.host.now) (g.H.Host.disk c.find.new.host) (g.S.Shelf.files c.args.shelf.now) closed (c.find.ensures.wrote tells)

pub returns-in_err-bytes-clause-wrote : goal.returns-in_err-bytes-clause-wrote
returns-in_err-bytes-clause-wrote g c tells shelf_tells closed = found_within (uploads c.args.user.now c.args.file.now c.args.now) (g.H.Host.disk c.args.host.now) (g.H.Host.disk c.find.new.host) (g.S.Shelf.files c.args.shelf.now) closed (c.find.ensures.wrote tells)

pub returns-clause-wrote : goal.returns-clause-wrote
returns-clause-wrote g c tells shelf_tells closed =
    let name = c.args.user.now in
    let held = c.in_ok-board.board in
    let here : c.find.new.kept ≡ _ = c.in_ok-board.ensures.board in
    let looked : Some c.in_ok-board_in.field-0.now.board ≡ Some held.board = sym c.in_ok-board_in.ensures.board ∙ ap kept_board here in
    let one : c.in_ok-board_in.field-0.now.board ≡ held.board = cc looked in
    let him = some_is (user_id name held.board) (subst (λ (b : Board). IsSome (user_id name b)) one c.in_ok-look_for.ensures) in
    let bytes = c.as_slice.result.now in
    let read : file_within (g.S.Shelf.files c.args.shelf.now) c.args.file.now rep_limit ≡ Ok bytes = sym (c.in_ok-bytes.ensures.file shelf_tells) ∙ ap Ok (sym c.as_slice.ensures.same) in
    let old = g.H.Host.disk c.args.host.now in
    let mid = g.H.Host.disk c.find.new.host in
    let new = g.H.Host.disk c.upload-uploaded.new.host in
    let gives = c.upload-uploaded.ensures in
    ⊎_elim
    (λ starved. found_within (uploads name c.args.file.now c.args.now) old new (g.S.Shelf.files c.args.shelf.now) closed
    (subst (λ host. WritesFound old (g.H.Host.disk host).wrote) (sym (gives.unchanged (subst UploadLeavesAll (sym starved) tt)).1) (c.find.ensures.wrote tells)))
    (λ given. upload_within name c.args.file.now c.args.now old mid new (g.S.Shelf.files c.args.shelf.now) closed (c.find.ensures.wrote tells) (kept_board c.find.new.kept) (c.in_ok-find.ensures.state tells) held.board (ap kept_board here) him.0 him.1 bytes read given.0
    (subst (λ (o : Option ℕ). UploadsAs o bytes c.args.now held.board given.0) him.1 given.1) (gives.wrote tells given.0 given.1))
    gives.gives

pub returns-in_err-find-clause-keeps : goal.returns-in_err-find-clause-keeps
returns-in_err-find-clause-keeps g c tells =
    let is : c.from_residual.result ≡ Err (halt_of_read c.in_err-find.field-0.0) = search rules in
    keeps_as is (unfound_keeps c.find.new.kept c.in_err-find.field-0.0 (c.in_err-find.ensures.finds tells) (c.in_err-find.ensures.state tells))

pub returns-in_err-board_in-clause-keeps : goal.returns-in_err-board_in-clause-keeps
returns-in_err-board_in-clause-keeps g c tells =
    let is : c.from_residual-in_err-board_in.result ≡ Err c.in_err-board_in.field-0.0 = search rules in
    keeps_as is (refused_as c.in_err-board_in.field-0.0 NotMade c.in_err-board_in.ensures.board.0 (read_sound c.find.new.kept (g.H.Host.disk c.find.new.host) c.in_ok-find.ensures.read (c.in_ok-find.ensures.kept tells)))

pub returns-in_err-look_for-clause-keeps : goal.returns-in_err-look_for-clause-keeps
returns-in_err-look_for-clause-keeps g c tells =
    let is : c.from_residual-in_err-look_for.result ≡ Err c.in_err-look_for.field-0.0 = search rules in
    keeps_as is (refused_as c.in_err-look_for.field-0.0 refusal.NoUser c.in_err-look_for.ensures.0 (read_sound c.find.new.kept (g.H.Host.disk c.find.new.host) c.in_ok-find.ensures.read (c.in_ok-find.ensures.kept tells)))

pub returns-in_err-bytes-clause-keeps : goal.returns-in_err-bytes-clause-keeps
returns-in_err-bytes-clause-keeps g c tells =
    let is : c.from_residual-in_err-bytes.result ≡ Err (of_shelf c.in_err-bytes.field-0.0) = search rules in
    keeps_as is (unopened_keeps c.in_err-bytes.field-0.0 (read_sound c.find.new.kept (g.H.Host.disk c.find.new.host) c.in_ok-find.ensures.read (c.in_ok-find.ensures.kept tells)))

pub returns-clause-keeps : goal.returns-clause-keeps
returns-clause-keeps g c tells =
    let held = c.in_ok-board.board in
    let here : c.find.new.kept ≡ _ = c.in_ok-board.ensures.board in
    let certain = subst AreSure here c.in_ok-find.ensures.sure in
    let after = c.upload-uploaded.new.board in
    let result = c.upload-uploaded.result in
    let gives = c.upload-uploaded.ensures in
    let sound = read_sound c.find.new.kept (g.H.Host.disk c.find.new.host) c.in_ok-find.ensures.read (c.in_ok-find.ensures.kept tells) in
    keeps_as c.answered.ensures
    (upload_keeps result (λ early. subst (λ host. IsSound (g.H.Host.disk host)) (sym (gives.unchanged early).1) sound)
    (on_ok result (λ rests. read_sound (Some (Ready after)) (g.H.Host.disk c.upload-uploaded.new.host) tt (rests tells certain.1)) gives.rests) gives.undamaged)

pub returns-in_err-find-clause-wrote_between : goal.returns-in_err-find-clause-wrote_between
returns-in_err-find-clause-wrote_between g c tells closed sound = found_bound (g.H.Host.disk c.args.host.now) closed (g.H.Host.disk c.find.new.host) (c.find.ensures.wrote tells)

pub returns-in_err-board_in-clause-wrote_between : goal.returns-in_err-board_in-clause-wrote_between
returns-in_err-board_in-clause-wrote_between g c tells closed sound = found_bound (g.H.Host.disk c.args.host.now) closed (g.H.Host.disk c.find.new.host) (c.find.ensures.wrote tells)

pub returns-in_err-look_for-clause-wrote_between : goal.returns-in_err-look_for-clause-wrote_between
returns-in_err-look_for-clause-wrote_between g c tells closed sound = found_bound (g.H.Host.disk c.args.host.now) closed (g.H.Host.disk c.find.new.host) (c.find.ensures.wrote tells)

pub returns-in_err-bytes-clause-wrote_between : goal.returns-in_err-bytes-clause-wrote_between
returns-in_err-bytes-clause-wrote_between g c tells closed sound = found_bound (g.H.Host.disk c.args.host.now) closed (g.H.Host.disk c.find.new.host) (c.find.ensures.wrote tells)

pub returns-clause-wrote_between : goal.returns-clause-wrote_between
returns-clause-wrote_between g c tells closed sound =
    let held = c.in_ok-board.board in
    let here : c.find.new.kept ≡ _ = c.in_ok-board.ensures.board in
    let certain = subst AreSure here c.in_ok-find.ensures.sure in
    let result = c.upload-uploaded.result in
    let gives = c.upload-uploaded.ensures in
    upload_bound (g.H.Host.disk c.args.host.now) (g.H.Host.disk c.find.new.host) (g.H.Host.disk c.upload-uploaded.new.host) closed (c.find.ensures.wrote tells) (kept_board c.find.new.kept) (c.in_ok-find.ensures.state tells) held c.upload-uploaded.new.board (ap kept_board here)
    (λ r. UploadGives c.args.user.now c.as_slice.result.now c.args.now held.board r) result (λ fault. sound (c.answered.ensures ∙ ap (halted upload_halt) fault)) gives.gives (λ early. ap (λ host. (g.H.Host.disk host).wrote) (gives.unchanged early).1)
    (on_ok result (λ board. board certain.1 certain.0) gives.board) (on_ok result (λ rests. rests tells certain.1) gives.rests) (gives.wrote tells)
