use Rattle.std.proofs.Common.{rules, ◌≡◌, ℕ, Some, Err, refl, sym, ◌∙◌, ap, subst}
use Rattle.std.specs.Prelude.{Result}
use Rattle.cmd_board.proofs.CauseLaws.{no_fault}
use Rattle.cmd_board.proofs.Exits.{unfound}
use Rattle.cmd_board.proofs.FindLaws.{same_host}
use Rattle.cmd_board.proofs.KeepingLaws.{keeps_as, read_sound, refused_as, stopped_keeps, unfound_keeps, unmade_keeps, unopened_keeps, value_keeps}
use Rattle.intent_journal.specs.Hosts.{IsFirm}
use Rattle.cmd_board.proofs.WriteLaws.{changed_bound, found_bound, found_within, unmade_bound}
use Rattle.cmd_board.proofs.mail_board.PostedSlots.{posting_keeps}
use Rattle.cmd_board.specs.Halts.{told, halt_of_read, of_shelf, of_journal}
use Rattle.cmd_board.specs.Kept.{kept_board}
use Rattle.cmd_board.specs.State.{Stores}
use Rattle.cmd_board.specs.declared.halt.BoardHalt.{BoardHalt}
use Rattle.board_layout.specs.Board.{Board}
use Rattle.door_outside.specs.Disk.{Unchanged}
use Rattle.entry_runs.specs.Entry.{Works}
use Rattle.entry_runs.specs.Promise.{FaultCounts, HasCauses, counts, ended}
use Rattle.entry_runs.specs.declared.status.Status.TheVariants as status
use Rattle.cmd_board.specs.mail_board.Changes.{Fits}
use Rattle.cmd_board.specs.shelf_files.declared.refusal.Refusal.TheVariants.{NoConference, NotMade}
use Rattle.cmd_board.proofs.ChangeExits.{refused_on, unmade_by}
use Rattle.cmd_messages.proofs.ImportExits.{imported, no_sheet, unimported, unplaced, unprepared}
use Rattle.cmd_board.proofs.PlaceAlike.{place_alike}
use Rattle.cmd_messages.proofs.PostBounds.{import_within}
use Rattle.cmd_messages.specs.Import.{Imports, imported_line, imports}
use Rattle.cmd_messages.proofs.importing.import.Goals as goal

pub returns-in_err-find-clause-works : goal.returns-in_err-find-clause-works
returns-in_err-find-clause-works g c tells shelf_tells world at =
    let is : c.from_residual.result ≡ Err (halt_of_read c.in_err-find.field-0.0) = search rules in
    subst (λ (r : Result ℕ BoardHalt). Works Stores (imports c.args.conference c.args.file.now c.args.now) world (g.H.Host.disk c.args.host.now) (g.H.Host.disk c.find.new.host) (g.S.Shelf.files c.args.shelf.now) (told (imported_line c.args.conference) r)) (sym is)
    (unfound (Imports c.args.conference c.args.file.now c.args.now) at (imported_line c.args.conference) c.find.new.kept c.in_err-find.field-0.0
    (c.in_err-find.ensures.finds tells world.state at.board.stores) (c.in_err-find.ensures.state tells world.state at.board.stores))

pub returns-in_err-board-clause-works : goal.returns-in_err-board-clause-works
returns-in_err-board-clause-works g c tells shelf_tells world at =
    let e : BoardHalt = c.in_err-board.field-0.0 in
    let is : c.from_residual-in_err-board.result ≡ Err e = search rules in
    subst (λ (r : Result ℕ BoardHalt). Works Stores (imports c.args.conference c.args.file.now c.args.now) world (g.H.Host.disk c.args.host.now) (g.H.Host.disk c.find.new.host) (g.S.Shelf.files c.args.shelf.now) (told (imported_line c.args.conference) r)) (sym is)
    (unmade_by (Imports c.args.conference c.args.file.now c.args.now) at (kept_board c.find.new.kept) (c.in_ok-find.ensures.finds tells world.state at.board.stores) (c.in_ok-find.ensures.state tells world.state at.board.stores)
    (imported_line c.args.conference) e c.in_err-board.ensures.board.1 c.in_err-board.ensures.board.0 refl)

pub returns-in_err-place-clause-works : goal.returns-in_err-place-clause-works
returns-in_err-place-clause-works g c tells shelf_tells world at =
    let e : BoardHalt = c.in_err-place.field-0.0 in
    let b : Board = c.in_ok-board.board.now.board in
    let is : c.from_residual-in_err-place.result ≡ Err e = search rules in
    subst (λ (r : Result ℕ BoardHalt). Works Stores (imports c.args.conference c.args.file.now c.args.now) world (g.H.Host.disk c.args.host.now) (g.H.Host.disk c.find.new.host) (g.S.Shelf.files c.args.shelf.now) (told (imported_line c.args.conference) r)) (sym is)
    (refused_on (Imports c.args.conference c.args.file.now c.args.now) at (kept_board c.find.new.kept) (c.in_ok-find.ensures.finds tells world.state at.board.stores) (c.in_ok-find.ensures.state tells world.state at.board.stores)
    (imported_line c.args.conference) b NoConference e c.in_ok-board.ensures.board c.in_err-place.ensures.place.0
    (λ real valid alike. unplaced c.args.conference c.args.file.now c.args.now (g.S.Shelf.files c.args.shelf.now) real (place_alike real b alike c.args.conference ∙ c.in_err-place.ensures.place.1)))

pub returns-in_err-entries-clause-works : goal.returns-in_err-entries-clause-works
returns-in_err-entries-clause-works g c tells shelf_tells world at =
    let halt = c.in_err-entries.field-0.0 in
    let b : Board = c.in_ok-board.board.now.board in
    let is : c.from_residual-in_err-entries.result ≡ Err (of_shelf halt) = search rules in
    subst (λ (r : Result ℕ BoardHalt). Works Stores (imports c.args.conference c.args.file.now c.args.now) world (g.H.Host.disk c.args.host.now) (g.H.Host.disk c.find.new.host) (g.S.Shelf.files c.sheet_in.new.shelf) (told (imported_line c.args.conference) r)) (sym is)
    (no_sheet c.args.conference c.args.file.now c.args.now at (kept_board c.find.new.kept) (c.in_ok-find.ensures.finds tells world.state at.board.stores) (c.in_ok-find.ensures.state tells world.state at.board.stores)
    b c.in_ok-board.ensures.board c.in_ok-place.place c.in_ok-place.ensures.place (c.in_err-entries.ensures.unchanged shelf_tells) halt (c.in_err-entries.ensures.sheet shelf_tells))

pub returns-in_err-importing-clause-works : goal.returns-in_err-importing-clause-works
returns-in_err-importing-clause-works g c tells shelf_tells world at =
    let e : BoardHalt = c.in_err-importing.field-0.0 in
    let b : Board = c.in_ok-board.board.now.board in
    let is : c.from_residual-in_err-importing.result ≡ Err e = search rules in
    subst (λ (r : Result ℕ BoardHalt). Works Stores (imports c.args.conference c.args.file.now c.args.now) world (g.H.Host.disk c.args.host.now) (g.H.Host.disk c.find.new.host) (g.S.Shelf.files c.sheet_in.new.shelf) (told (imported_line c.args.conference) r)) (sym is)
    (unprepared c.args.conference c.args.file.now c.args.now at (kept_board c.find.new.kept) (c.in_ok-find.ensures.finds tells world.state at.board.stores) (c.in_ok-find.ensures.state tells world.state at.board.stores)
    b c.in_ok-board.ensures.board c.in_ok-place.place c.in_ok-place.ensures.place (c.in_ok-entries.ensures.unchanged shelf_tells) c.in_ok-entries.entries (c.in_ok-entries.ensures.sheet shelf_tells) e (c.in_err-importing.ensures c.args.conference))

pub returns-in_err-make_change-clause-works : goal.returns-in_err-make_change-clause-works
returns-in_err-make_change-clause-works g c tells shelf_tells world at =
    let error = c.in_err-make_change.field-0.0 in
    let b : Board = c.in_ok-board.board.now.board in
    let is : c.from_residual-in_err-make_change.result ≡ Err (of_journal error) = search rules in
    subst (λ (r : Result ℕ BoardHalt). Works Stores (imports c.args.conference c.args.file.now c.args.now) world (g.H.Host.disk c.args.host.now) (g.H.Host.disk c.make_change.new.host) (g.S.Shelf.files c.sheet_in.new.shelf) (told (imported_line c.args.conference) r)) (sym is)
    (unimported c.args.conference c.args.file.now c.args.now at (kept_board c.find.new.kept) (c.in_ok-find.ensures.finds tells world.state at.board.stores) (c.in_ok-find.ensures.state tells world.state at.board.stores)
    b c.in_ok-board.ensures.board c.in_ok-place.place c.in_ok-place.ensures.place (c.in_ok-entries.ensures.unchanged shelf_tells) c.in_ok-entries.entries (c.in_ok-entries.ensures.sheet shelf_tells)
    c.in_ok-importing.importing (c.in_ok-importing.ensures c.args.conference) error (c.in_err-make_change.ensures.changes tells)
    (λ starved. subst (λ host. Unchanged (g.H.Host.disk c.find.new.host) (g.H.Host.disk host)) (sym (c.in_err-make_change.ensures.unchanged (ap Err starved))) (same_host (g.H.Host.disk c.find.new.host))))

pub returns-clause-works : goal.returns-clause-works
returns-clause-works g c tells shelf_tells world at =
    let b : Board = c.in_ok-board.board.now.board in
    imported c.args.conference c.args.file.now c.args.now at (kept_board c.find.new.kept) (c.in_ok-find.ensures.finds tells world.state at.board.stores) (c.in_ok-find.ensures.state tells world.state at.board.stores)
    b c.in_ok-board.ensures.board c.in_ok-place.place c.in_ok-place.ensures.place (c.in_ok-entries.ensures.unchanged shelf_tells) c.in_ok-entries.entries (c.in_ok-entries.ensures.sheet shelf_tells)
    c.in_ok-importing.importing (c.in_ok-importing.ensures c.args.conference) (c.in_ok-make_change.ensures.changes tells)

pub make_change-requires-clause-fits : goal.make_change-requires-clause-fits
make_change-requires-clause-fits g c b is =
    let here : Some c.in_ok-board.board.now.board ≡ Some b = sym c.in_ok-board.ensures.board ∙ is in
    let same : c.in_ok-board.board.now.board ≡ b = cc in
    subst (Fits c.in_ok-importing.importing.change) same (c.in_ok-importing.ensures 0).0

pub returns-in_err-importing-clause-causes : goal.returns-in_err-importing-clause-causes
returns-in_err-importing-clause-causes g c =
    let e : BoardHalt = c.in_err-importing.field-0.0 in
    let is : c.from_residual-in_err-importing.result ≡ Err e = search rules in
    let old : FaultCounts = counts (g.H.Host.disk_faults c.args.host.now) (g.H.Host.voice_faults c.args.host.now) (g.S.Shelf.faults c.args.shelf.now) in
    let new : FaultCounts = counts (g.H.Host.disk_faults c.find.new.host) (g.H.Host.voice_faults c.find.new.host) (g.S.Shelf.faults c.sheet_in.new.shelf) in
    let done : HasCauses old new status.Done = search rules in
    let starved : HasCauses old new status.OutOfMemory = search rules in
    subst (λ (r : Result ℕ BoardHalt). HasCauses old new (ended (told (imported_line c.args.conference) r))) (sym is)
    (no_fault (imported_line c.args.conference) _ e (c.in_err-importing.ensures c.args.conference) done starved)

pub returns-in_err-find-clause-wrote : goal.returns-in_err-find-clause-wrote
returns-in_err-find-clause-wrote g c tells shelf_tells closed = found_within (imports c.args.conference c.args.file.now c.args.now) (g.H.Host.disk c.args.host.now) (g.H.Host.disk c.find.new.host) (g.S.Shelf.files c.args.shelf.now) closed (c.find.ensures.wrote tells)

pub returns-in_err-board-clause-wrote : goal.returns-in_err-board-clause-wrote
returns-in_err-board-clause-wrote g c tells shelf_tells closed = found_within (imports c.args.conference c.args.file.now c.args.now) (g.H.Host.disk c.args.host.now) (g.H.Host.disk c.find.new.host) (g.S.Shelf.files c.args.shelf.now) closed (c.find.ensures.wrote tells)

pub returns-in_err-place-clause-wrote : goal.returns-in_err-place-clause-wrote
returns-in_err-place-clause-wrote g c tells shelf_tells closed = found_within (imports c.args.conference c.args.file.now c.args.now) (g.H.Host.disk c.args.host.now) (g.H.Host.disk c.find.new.host) (g.S.Shelf.files c.args.shelf.now) closed (c.find.ensures.wrote tells)

pub returns-in_err-entries-clause-wrote : goal.returns-in_err-entries-clause-wrote
returns-in_err-entries-clause-wrote g c tells shelf_tells closed = found_within (imports c.args.conference c.args.file.now c.args.now) (g.H.Host.disk c.args.host.now) (g.H.Host.disk c.find.new.host) (g.S.Shelf.files c.args.shelf.now) closed (c.find.ensures.wrote tells)

pub returns-in_err-importing-clause-wrote : goal.returns-in_err-importing-clause-wrote
returns-in_err-importing-clause-wrote g c tells shelf_tells closed = found_within (imports c.args.conference c.args.file.now c.args.now) (g.H.Host.disk c.args.host.now) (g.H.Host.disk c.find.new.host) (g.S.Shelf.files c.args.shelf.now) closed (c.find.ensures.wrote tells)

pub returns-in_err-make_change-clause-wrote : goal.returns-in_err-make_change-clause-wrote
returns-in_err-make_change-clause-wrote g c tells shelf_tells closed =
    let b : Board = c.in_ok-board.board.now.board in
    import_within (g.H.Host.disk c.args.host.now) (g.H.Host.disk c.find.new.host) (g.H.Host.disk c.make_change.new.host) (g.S.Shelf.files c.args.shelf.now) closed (c.find.ensures.wrote tells) (kept_board c.find.new.kept) (c.in_ok-find.ensures.state tells) b c.in_ok-board.ensures.board c.in_ok-board.ensures.valid c.args.conference c.args.file.now c.args.now
    c.in_ok-place.place c.in_ok-place.ensures.place c.in_ok-entries.entries (c.in_ok-entries.ensures.sheet shelf_tells) c.in_ok-importing.importing (c.in_ok-importing.ensures c.args.conference)
    (c.make_change.ensures.wrote tells b c.in_ok-board.ensures.board)

pub returns-clause-wrote : goal.returns-clause-wrote
returns-clause-wrote g c tells shelf_tells closed =
    let b : Board = c.in_ok-board.board.now.board in
    import_within (g.H.Host.disk c.args.host.now) (g.H.Host.disk c.find.new.host) (g.H.Host.disk c.make_change.new.host) (g.S.Shelf.files c.args.shelf.now) closed (c.find.ensures.wrote tells) (kept_board c.find.new.kept) (c.in_ok-find.ensures.state tells) b c.in_ok-board.ensures.board c.in_ok-board.ensures.valid c.args.conference c.args.file.now c.args.now
    c.in_ok-place.place c.in_ok-place.ensures.place c.in_ok-entries.entries (c.in_ok-entries.ensures.sheet shelf_tells) c.in_ok-importing.importing (c.in_ok-importing.ensures c.args.conference)
    (c.make_change.ensures.wrote tells b c.in_ok-board.ensures.board)

pub returns-in_err-find-clause-keeps : goal.returns-in_err-find-clause-keeps
returns-in_err-find-clause-keeps g c tells =
    let is : c.from_residual.result ≡ Err (halt_of_read c.in_err-find.field-0.0) = search rules in
    keeps_as is (unfound_keeps c.find.new.kept c.in_err-find.field-0.0 (c.in_err-find.ensures.finds tells) (c.in_err-find.ensures.state tells))

pub returns-in_err-board-clause-keeps : goal.returns-in_err-board-clause-keeps
returns-in_err-board-clause-keeps g c tells =
    let is : c.from_residual-in_err-board.result ≡ Err c.in_err-board.field-0.0 = search rules in
    keeps_as is (refused_as c.in_err-board.field-0.0 NotMade c.in_err-board.ensures.board.0 (read_sound c.find.new.kept (g.H.Host.disk c.find.new.host) c.in_ok-find.ensures.read (c.in_ok-find.ensures.kept tells)))

pub returns-in_err-place-clause-keeps : goal.returns-in_err-place-clause-keeps
returns-in_err-place-clause-keeps g c tells =
    let is : c.from_residual-in_err-place.result ≡ Err c.in_err-place.field-0.0 = search rules in
    keeps_as is (refused_as c.in_err-place.field-0.0 NoConference c.in_err-place.ensures.place.0 (read_sound c.find.new.kept (g.H.Host.disk c.find.new.host) c.in_ok-find.ensures.read (c.in_ok-find.ensures.kept tells)))

pub returns-in_err-entries-clause-keeps : goal.returns-in_err-entries-clause-keeps
returns-in_err-entries-clause-keeps g c tells =
    let is : c.from_residual-in_err-entries.result ≡ Err (of_shelf c.in_err-entries.field-0.0) = search rules in
    keeps_as is (unopened_keeps c.in_err-entries.field-0.0 (read_sound c.find.new.kept (g.H.Host.disk c.find.new.host) c.in_ok-find.ensures.read (c.in_ok-find.ensures.kept tells)))

pub returns-in_err-importing-clause-keeps : goal.returns-in_err-importing-clause-keeps
returns-in_err-importing-clause-keeps g c tells =
    let is : c.from_residual-in_err-importing.result ≡ Err c.in_err-importing.field-0.0 = search rules in
    keeps_as is (stopped_keeps _ c.in_err-importing.field-0.0 (c.in_err-importing.ensures c.args.conference) (read_sound c.find.new.kept (g.H.Host.disk c.find.new.host) c.in_ok-find.ensures.read (c.in_ok-find.ensures.kept tells)))

pub returns-in_err-make_change-clause-keeps : goal.returns-in_err-make_change-clause-keeps
returns-in_err-make_change-clause-keeps g c tells =
    let is : c.from_residual-in_err-make_change.result ≡ Err (of_journal c.in_err-make_change.field-0.0) = search rules in
    let sound = read_sound c.find.new.kept (g.H.Host.disk c.find.new.host) c.in_ok-find.ensures.read (c.in_ok-find.ensures.kept tells) in
    keeps_as is (unmade_keeps c.in_err-make_change.field-0.0 (λ starved. subst (λ host. IsFirm (g.H.Host.disk host)) (sym (c.in_err-make_change.ensures.unchanged (ap Err starved))) sound.firm))

pub returns-clause-keeps : goal.returns-clause-keeps
returns-clause-keeps g c tells =
    value_keeps (read_sound c.make_change.new.kept (g.H.Host.disk c.make_change.new.host) c.in_ok-make_change.ensures.read (c.in_ok-make_change.ensures.kept tells))

pub returns-in_err-find-clause-wrote_between : goal.returns-in_err-find-clause-wrote_between
returns-in_err-find-clause-wrote_between g c tells closed sound = found_bound (g.H.Host.disk c.args.host.now) closed (g.H.Host.disk c.find.new.host) (c.find.ensures.wrote tells)

pub returns-in_err-board-clause-wrote_between : goal.returns-in_err-board-clause-wrote_between
returns-in_err-board-clause-wrote_between g c tells closed sound = found_bound (g.H.Host.disk c.args.host.now) closed (g.H.Host.disk c.find.new.host) (c.find.ensures.wrote tells)

pub returns-in_err-place-clause-wrote_between : goal.returns-in_err-place-clause-wrote_between
returns-in_err-place-clause-wrote_between g c tells closed sound = found_bound (g.H.Host.disk c.args.host.now) closed (g.H.Host.disk c.find.new.host) (c.find.ensures.wrote tells)

pub returns-in_err-entries-clause-wrote_between : goal.returns-in_err-entries-clause-wrote_between
returns-in_err-entries-clause-wrote_between g c tells closed sound = found_bound (g.H.Host.disk c.args.host.now) closed (g.H.Host.disk c.find.new.host) (c.find.ensures.wrote tells)

pub returns-in_err-importing-clause-wrote_between : goal.returns-in_err-importing-clause-wrote_between
returns-in_err-importing-clause-wrote_between g c tells closed sound = found_bound (g.H.Host.disk c.args.host.now) closed (g.H.Host.disk c.find.new.host) (c.find.ensures.wrote tells)

pub returns-in_err-make_change-clause-wrote_between : goal.returns-in_err-make_change-clause-wrote_between
returns-in_err-make_change-clause-wrote_between g c tells closed sound =
    let error = c.in_err-make_change.field-0.0 in
    let is : c.from_residual-in_err-make_change.result ≡ Err (of_journal error) = search rules in
    unmade_bound (g.H.Host.disk c.args.host.now) closed (g.H.Host.disk c.find.new.host) (g.H.Host.disk c.make_change.new.host) error (λ fault. sound (is ∙ ap Err fault)) (λ starved. ap (λ host. (g.H.Host.disk host).wrote) (c.in_err-make_change.ensures.unchanged (ap Err starved))) (c.find.ensures.wrote tells)

pub returns-clause-wrote_between : goal.returns-clause-wrote_between
returns-clause-wrote_between g c tells closed sound =
    let b : Board = c.in_ok-board.board.now.board in
    changed_bound (g.H.Host.disk c.args.host.now) closed (g.H.Host.disk c.find.new.host) (g.H.Host.disk c.make_change.new.host) (c.find.ensures.wrote tells) (kept_board c.find.new.kept) (c.in_ok-find.ensures.state tells) b c.in_ok-board.ensures.board c.in_ok-importing.importing.change (c.in_ok-find.ensures.finds tells) (c.in_ok-make_change.ensures.changes tells)
    (posting_keeps c.in_ok-importing.importing.change b (g.H.Host.disk c.find.new.host).wrote (g.H.Host.disk c.make_change.new.host).wrote (c.in_ok-importing.ensures c.args.conference).2 c.in_ok-board.ensures.valid (c.in_ok-importing.ensures c.args.conference).0 (c.make_change.ensures.wrote tells b c.in_ok-board.ensures.board))
