use Rattle.std.proofs.Common.{rules, ◌≡◌, inl, inr, refl, sym, ◌∙◌, subst, arith}
use Rattle.cmd_entries.proofs.Entering.{begins_wrong}
use Rattle.cmd_entries.specs.Entries.{AreEntries, BeginsWrong, EntriesRead}
use Rattle.entry_runs.specs.declared.status.Status.TheVariants as status
use Rattle.entry_runs.specs.declared.stop.Stop.TheVariants as stop
use Rattle.mail_cli.proofs.AnyShelf.{begins_touching}
use Rattle.mail_cli.proofs.CommandBounds.{run_between, run_bound, unwritten, unwritten_between}
use Rattle.mail_cli.proofs.Histories.{run_continues}
use Rattle.mail_cli.proofs.Passages.{read_passage, run_joins, run_spoils_none, unread_passage}
use Rattle.mail_cli.proofs.Promises.{faulty_causes, read_promises, starved_causes, unread_promises}
use Rattle.mail_cli.proofs.Reading.{read_causes, read_completes, read_kept, read_ends, read_survives, unread_ends, unread_survives}
use Rattle.mail_cli.proofs.Staying.{names_no_batch, none_uses_shelf, nothing_done, read_anywhere}
use Rattle.mail_cli.proofs.running.run.Goals as goal

-- ---- the entries weren't read
pub returns-in-Err-ShelfFault-clause-ends : goal.returns-in-Err-ShelfFault-clause-ends
returns-in-Err-ShelfFault-clause-ends g c tells shelf_tells =
    unread_ends c.args.now c.args.words.now stop.ShelfFault status.ShelfFault (g.H.Host.disk c.args.host.now) (g.S.Shelf.files c.args.shelf.now) (g.S.Shelf.files c.entries_of.new.shelf)
    (inl refl) refl (c.entries_of.ensures.unchanged shelf_tells)

pub returns-in-Err-OutOfMemory-clause-ends : goal.returns-in-Err-OutOfMemory-clause-ends
returns-in-Err-OutOfMemory-clause-ends g c tells shelf_tells =
    unread_ends c.args.now c.args.words.now stop.OutOfMemory status.OutOfMemory (g.H.Host.disk c.args.host.now) (g.S.Shelf.files c.args.shelf.now) (g.S.Shelf.files c.entries_of.new.shelf)
    (inr refl) refl (c.entries_of.ensures.unchanged shelf_tells)

pub returns-in-Err-ShelfFault-clause-survives : goal.returns-in-Err-ShelfFault-clause-survives
returns-in-Err-ShelfFault-clause-survives g c tells shelf_tells = unread_survives c.args.now c.args.words.now _ _ (c.requires tells)

pub returns-in-Err-OutOfMemory-clause-survives : goal.returns-in-Err-OutOfMemory-clause-survives
returns-in-Err-OutOfMemory-clause-survives g c tells shelf_tells = unread_survives c.args.now c.args.words.now _ _ (c.requires tells)

pub returns-in-Err-ShelfFault-clause-continues : goal.returns-in-Err-ShelfFault-clause-continues
returns-in-Err-ShelfFault-clause-continues g c tells shelf_tells =
    run_continues c.args.now c.args.words.now status.ShelfFault _ _ _ _
    (unread_ends c.args.now c.args.words.now stop.ShelfFault status.ShelfFault (g.H.Host.disk c.args.host.now) (g.S.Shelf.files c.args.shelf.now) (g.S.Shelf.files c.entries_of.new.shelf)
    (inl refl) refl (c.entries_of.ensures.unchanged shelf_tells))
    (unread_survives c.args.now c.args.words.now (g.H.Host.disk c.args.host.now) (g.S.Shelf.files c.args.shelf.now) (c.requires tells))

pub returns-in-Err-OutOfMemory-clause-continues : goal.returns-in-Err-OutOfMemory-clause-continues
returns-in-Err-OutOfMemory-clause-continues g c tells shelf_tells =
    run_continues c.args.now c.args.words.now status.OutOfMemory _ _ _ _
    (unread_ends c.args.now c.args.words.now stop.OutOfMemory status.OutOfMemory (g.H.Host.disk c.args.host.now) (g.S.Shelf.files c.args.shelf.now) (g.S.Shelf.files c.entries_of.new.shelf)
    (inr refl) refl (c.entries_of.ensures.unchanged shelf_tells))
    (unread_survives c.args.now c.args.words.now (g.H.Host.disk c.args.host.now) (g.S.Shelf.files c.args.shelf.now) (c.requires tells))

pub returns-in-Err-ShelfFault-clause-passage : goal.returns-in-Err-ShelfFault-clause-passage
returns-in-Err-ShelfFault-clause-passage g c tells shelf_tells =
    unread_passage c.args.now c.args.words.now stop.ShelfFault status.ShelfFault (g.H.Host.disk c.args.host.now) (g.S.Shelf.files c.args.shelf.now) (g.S.Shelf.files c.entries_of.new.shelf)
    (inl refl) refl (c.entries_of.ensures.unchanged shelf_tells) (c.requires tells)

pub returns-in-Err-ShelfFault-clause-joins : goal.returns-in-Err-ShelfFault-clause-joins
returns-in-Err-ShelfFault-clause-joins g c tells shelf_tells = run_joins
    (unread_passage c.args.now c.args.words.now stop.ShelfFault status.ShelfFault (g.H.Host.disk c.args.host.now) (g.S.Shelf.files c.args.shelf.now) (g.S.Shelf.files c.entries_of.new.shelf)
    (inl refl) refl (c.entries_of.ensures.unchanged shelf_tells) (c.requires tells)) (omega arith)

pub returns-in-Err-ShelfFault-clause-unspoiled : goal.returns-in-Err-ShelfFault-clause-unspoiled
returns-in-Err-ShelfFault-clause-unspoiled g c tells shelf_tells = run_spoils_none
    (unread_passage c.args.now c.args.words.now stop.ShelfFault status.ShelfFault (g.H.Host.disk c.args.host.now) (g.S.Shelf.files c.args.shelf.now) (g.S.Shelf.files c.entries_of.new.shelf)
    (inl refl) refl (c.entries_of.ensures.unchanged shelf_tells) (c.requires tells))

pub returns-in-Err-OutOfMemory-clause-passage : goal.returns-in-Err-OutOfMemory-clause-passage
returns-in-Err-OutOfMemory-clause-passage g c tells shelf_tells =
    unread_passage c.args.now c.args.words.now stop.OutOfMemory status.OutOfMemory (g.H.Host.disk c.args.host.now) (g.S.Shelf.files c.args.shelf.now) (g.S.Shelf.files c.entries_of.new.shelf)
    (inr refl) refl (c.entries_of.ensures.unchanged shelf_tells) (c.requires tells)

pub returns-in-Err-OutOfMemory-clause-joins : goal.returns-in-Err-OutOfMemory-clause-joins
returns-in-Err-OutOfMemory-clause-joins g c tells shelf_tells = run_joins
    (unread_passage c.args.now c.args.words.now stop.OutOfMemory status.OutOfMemory (g.H.Host.disk c.args.host.now) (g.S.Shelf.files c.args.shelf.now) (g.S.Shelf.files c.entries_of.new.shelf)
    (inr refl) refl (c.entries_of.ensures.unchanged shelf_tells) (c.requires tells)) (omega arith)

pub returns-in-Err-OutOfMemory-clause-unspoiled : goal.returns-in-Err-OutOfMemory-clause-unspoiled
returns-in-Err-OutOfMemory-clause-unspoiled g c tells shelf_tells = run_spoils_none
    (unread_passage c.args.now c.args.words.now stop.OutOfMemory status.OutOfMemory (g.H.Host.disk c.args.host.now) (g.S.Shelf.files c.args.shelf.now) (g.S.Shelf.files c.entries_of.new.shelf)
    (inr refl) refl (c.entries_of.ensures.unchanged shelf_tells) (c.requires tells))

pub returns-in-Err-ShelfFault-clause-files_stay : goal.returns-in-Err-ShelfFault-clause-files_stay
returns-in-Err-ShelfFault-clause-files_stay g c none tells = nothing_done (g.H.Host.disk c.args.host.now)

pub returns-in-Err-ShelfFault-clause-read_files_stay : goal.returns-in-Err-ShelfFault-clause-read_files_stay
returns-in-Err-ShelfFault-clause-read_files_stay g c shelf_tells none tells = nothing_done (g.H.Host.disk c.args.host.now)

pub returns-in-Err-ShelfFault-clause-shelf_stays : goal.returns-in-Err-ShelfFault-clause-shelf_stays
returns-in-Err-ShelfFault-clause-shelf_stays g c none = c.entries_of.ensures.no_batch (names_no_batch c.args.words.now none)

pub returns-in-Err-OutOfMemory-clause-files_stay : goal.returns-in-Err-OutOfMemory-clause-files_stay
returns-in-Err-OutOfMemory-clause-files_stay g c none tells = nothing_done (g.H.Host.disk c.args.host.now)

pub returns-in-Err-OutOfMemory-clause-read_files_stay : goal.returns-in-Err-OutOfMemory-clause-read_files_stay
returns-in-Err-OutOfMemory-clause-read_files_stay g c shelf_tells none tells = nothing_done (g.H.Host.disk c.args.host.now)

pub returns-in-Err-OutOfMemory-clause-shelf_stays : goal.returns-in-Err-OutOfMemory-clause-shelf_stays
returns-in-Err-OutOfMemory-clause-shelf_stays g c none = c.entries_of.ensures.no_batch (names_no_batch c.args.words.now none)

pub returns-in-Err-ShelfFault-clause-firm : goal.returns-in-Err-ShelfFault-clause-firm
returns-in-Err-ShelfFault-clause-firm g c tells sound firm = firm

pub returns-in-Err-OutOfMemory-clause-firm : goal.returns-in-Err-OutOfMemory-clause-firm
returns-in-Err-OutOfMemory-clause-firm g c tells sound firm = firm

-- ---- they were
pub returns-clause-ends : goal.returns-clause-ends
returns-clause-ends g c tells shelf_tells =
    let same : c.as_slice.result.now ≡ c.in-Ok.entries = search rules in
    let reads = subst (EntriesRead c.args.words.now (g.S.Shelf.files c.args.shelf.now)) (sym same) (c.in-Ok.ensures.reads shelf_tells) in
    read_ends c.args.now c.args.words.now c.as_slice.result.now (g.H.Host.disk c.args.host.now) (g.H.Host.disk c.run_entries.new.host) (g.S.Shelf.files c.args.shelf.now) (g.S.Shelf.files c.entries_of.new.shelf)
    (c.entries_of.ensures.unchanged shelf_tells) reads c.run_entries.result (g.S.Shelf.files c.run_entries.new.shelf) (c.run_entries.ensures.ends tells shelf_tells)

pub returns-clause-survives : goal.returns-clause-survives
returns-clause-survives g c tells shelf_tells =
    let same : c.as_slice.result.now ≡ c.in-Ok.entries = search rules in
    let reads = subst (EntriesRead c.args.words.now (g.S.Shelf.files c.args.shelf.now)) (sym same) (c.in-Ok.ensures.reads shelf_tells) in
    read_survives c.args.now c.args.words.now c.as_slice.result.now (g.H.Host.disk c.args.host.now) (g.H.Host.disk c.run_entries.new.host) (g.S.Shelf.files c.args.shelf.now) (g.S.Shelf.files c.entries_of.new.shelf)
    (c.entries_of.ensures.unchanged shelf_tells) reads (c.run_entries.ensures.survives tells shelf_tells)

pub returns-clause-completes : goal.returns-clause-completes
returns-clause-completes g c tells shelf_tells =
    let same : c.as_slice.result.now ≡ c.in-Ok.entries = search rules in
    let reads = subst (EntriesRead c.args.words.now (g.S.Shelf.files c.args.shelf.now)) (sym same) (c.in-Ok.ensures.reads shelf_tells) in
    let kept = read_kept c.in-Ok.entries c.in-Ok.ensures.causes in
    read_completes c.args.now c.args.words.now c.as_slice.result.now (g.H.Host.disk c.args.host.now) (g.H.Host.disk c.run_entries.new.host) (g.S.Shelf.files c.args.shelf.now) (g.S.Shelf.files c.entries_of.new.shelf)
    (c.entries_of.ensures.unchanged shelf_tells) reads _ _ c.run_entries.result (g.S.Shelf.files c.run_entries.new.shelf)
    (read_causes _ _ _ _ _ c.run_entries.result kept c.run_entries.ensures.causes) (c.run_entries.ensures.ends tells shelf_tells)

pub returns-clause-no_command : goal.returns-clause-no_command
returns-clause-no_command g c none =
    let same : c.as_slice.result.now ≡ c.in-Ok.entries = search rules in
    c.run_entries.ensures.wrong (subst BeginsWrong (sym same) (begins_wrong c.args.words.now c.in-Ok.entries c.in-Ok.ensures.some none))

pub returns-clause-continues : goal.returns-clause-continues
returns-clause-continues g c tells shelf_tells =
    let same : c.as_slice.result.now ≡ c.in-Ok.entries = search rules in
    let reads = subst (EntriesRead c.args.words.now (g.S.Shelf.files c.args.shelf.now)) (sym same) (c.in-Ok.ensures.reads shelf_tells) in
    run_continues c.args.now c.args.words.now c.run_entries.result (g.H.Host.disk c.args.host.now) (g.H.Host.disk c.run_entries.new.host) (g.S.Shelf.files c.args.shelf.now) (g.S.Shelf.files c.run_entries.new.shelf)
    (read_ends c.args.now c.args.words.now c.as_slice.result.now (g.H.Host.disk c.args.host.now) (g.H.Host.disk c.run_entries.new.host) (g.S.Shelf.files c.args.shelf.now) (g.S.Shelf.files c.entries_of.new.shelf)
    (c.entries_of.ensures.unchanged shelf_tells) reads c.run_entries.result (g.S.Shelf.files c.run_entries.new.shelf) (c.run_entries.ensures.ends tells shelf_tells))
    (read_survives c.args.now c.args.words.now c.as_slice.result.now (g.H.Host.disk c.args.host.now) (g.H.Host.disk c.run_entries.new.host) (g.S.Shelf.files c.args.shelf.now) (g.S.Shelf.files c.entries_of.new.shelf)
    (c.entries_of.ensures.unchanged shelf_tells) reads (c.run_entries.ensures.survives tells shelf_tells))

pub returns-clause-passage : goal.returns-clause-passage
returns-clause-passage g c tells shelf_tells =
    let same : c.as_slice.result.now ≡ c.in-Ok.entries = search rules in
    let reads = subst (EntriesRead c.args.words.now (g.S.Shelf.files c.args.shelf.now)) (sym same) (c.in-Ok.ensures.reads shelf_tells) in
    read_passage c.args.now c.args.words.now c.as_slice.result.now c.run_entries.result (g.H.Host.disk c.args.host.now) (g.H.Host.disk c.run_entries.new.host) (g.S.Shelf.files c.args.shelf.now)
    (g.S.Shelf.files c.entries_of.new.shelf) (g.S.Shelf.files c.run_entries.new.shelf) (c.entries_of.ensures.unchanged shelf_tells) reads (c.run_entries.ensures.ends tells shelf_tells) (c.run_entries.ensures.survives tells shelf_tells)

pub returns-clause-joins : goal.returns-clause-joins
returns-clause-joins g c tells shelf_tells =
    let same : c.as_slice.result.now ≡ c.in-Ok.entries = search rules in
    let reads = subst (EntriesRead c.args.words.now (g.S.Shelf.files c.args.shelf.now)) (sym same) (c.in-Ok.ensures.reads shelf_tells) in
    run_joins (read_passage c.args.now c.args.words.now c.as_slice.result.now c.run_entries.result (g.H.Host.disk c.args.host.now) (g.H.Host.disk c.run_entries.new.host) (g.S.Shelf.files c.args.shelf.now)
    (g.S.Shelf.files c.entries_of.new.shelf) (g.S.Shelf.files c.run_entries.new.shelf) (c.entries_of.ensures.unchanged shelf_tells) reads (c.run_entries.ensures.ends tells shelf_tells) (c.run_entries.ensures.survives tells shelf_tells)) (c.run_entries.ensures.later tells shelf_tells)

pub returns-clause-unspoiled : goal.returns-clause-unspoiled
returns-clause-unspoiled g c tells shelf_tells =
    let same : c.as_slice.result.now ≡ c.in-Ok.entries = search rules in
    let reads = subst (EntriesRead c.args.words.now (g.S.Shelf.files c.args.shelf.now)) (sym same) (c.in-Ok.ensures.reads shelf_tells) in
    run_spoils_none (read_passage c.args.now c.args.words.now c.as_slice.result.now c.run_entries.result (g.H.Host.disk c.args.host.now) (g.H.Host.disk c.run_entries.new.host) (g.S.Shelf.files c.args.shelf.now)
    (g.S.Shelf.files c.entries_of.new.shelf) (g.S.Shelf.files c.run_entries.new.shelf) (c.entries_of.ensures.unchanged shelf_tells) reads (c.run_entries.ensures.ends tells shelf_tells) (c.run_entries.ensures.survives tells shelf_tells))

pub returns-clause-rests : goal.returns-clause-rests
returns-clause-rests g c tells answered touching =
    let same : c.as_slice.result.now ≡ c.in-Ok.entries = search rules in
    let some = subst (AreEntries c.args.words.now) (sym same) c.in-Ok.ensures.some in
    c.run_entries.ensures.rests tells answered (begins_touching c.args.now c.args.words.now c.as_slice.result.now some touching)

-- ---- what stays
pub returns-clause-files_stay : goal.returns-clause-files_stay
returns-clause-files_stay g c none tells =
    let same : c.as_slice.result.now ≡ c.in-Ok.entries = search rules in
    let some = subst (AreEntries c.args.words.now) (sym same) c.in-Ok.ensures.some in
    c.run_entries.ensures.files_stay (none c.as_slice.result.now some) tells

pub returns-clause-disk_faults_stay : goal.returns-clause-disk_faults_stay
returns-clause-disk_faults_stay g c none =
    let same : c.as_slice.result.now ≡ c.in-Ok.entries = search rules in
    let some = subst (AreEntries c.args.words.now) (sym same) c.in-Ok.ensures.some in
    c.run_entries.ensures.disk_faults_stay (none c.as_slice.result.now some)

pub returns-clause-read_files_stay : goal.returns-clause-read_files_stay
returns-clause-read_files_stay g c shelf_tells none tells =
    let same : c.as_slice.result.now ≡ c.in-Ok.entries = search rules in
    let reads = subst (EntriesRead c.args.words.now (g.S.Shelf.files c.args.shelf.now)) (sym same) (c.in-Ok.ensures.reads shelf_tells) in
    c.run_entries.ensures.files_stay (none c.as_slice.result.now reads) tells

pub returns-clause-read_disk_faults_stay : goal.returns-clause-read_disk_faults_stay
returns-clause-read_disk_faults_stay g c shelf_tells none =
    let same : c.as_slice.result.now ≡ c.in-Ok.entries = search rules in
    let reads = subst (EntriesRead c.args.words.now (g.S.Shelf.files c.args.shelf.now)) (sym same) (c.in-Ok.ensures.reads shelf_tells) in
    c.run_entries.ensures.disk_faults_stay (none c.as_slice.result.now reads)

pub returns-clause-shelf_stays : goal.returns-clause-shelf_stays
returns-clause-shelf_stays g c none =
    let same : c.as_slice.result.now ≡ c.in-Ok.entries = search rules in
    let some = subst (AreEntries c.args.words.now) (sym same) c.in-Ok.ensures.some in
    c.run_entries.ensures.shelf_stays (none_uses_shelf c.args.words.now c.as_slice.result.now none some)
    ∙ c.entries_of.ensures.no_batch (names_no_batch c.args.words.now none)

-- ---- by what was read
pub returns-clause-read_usage : goal.returns-clause-read_usage
returns-clause-read_usage g c shelf_tells is =
    let same : c.as_slice.result.now ≡ c.in-Ok.entries = search rules in
    let reads = subst (EntriesRead c.args.words.now (g.S.Shelf.files c.args.shelf.now)) (sym same) (c.in-Ok.ensures.reads shelf_tells) in
    (c.as_slice.result.now, reads, c.run_entries.ensures.usage is)

pub returns-clause-read_touched : goal.returns-clause-read_touched
returns-clause-read_touched g c shelf_tells is =
    let same : c.as_slice.result.now ≡ c.in-Ok.entries = search rules in
    let reads = subst (EntriesRead c.args.words.now (g.S.Shelf.files c.args.shelf.now)) (sym same) (c.in-Ok.ensures.reads shelf_tells) in
    (c.as_slice.result.now, reads, c.run_entries.ensures.touched is)

-- ---- what is written
pub returns-in-Err-ShelfFault-clause-wrote : goal.returns-in-Err-ShelfFault-clause-wrote
returns-in-Err-ShelfFault-clause-wrote g c tells shelf_tells = unwritten c.args.now c.args.words.now (g.H.Host.disk c.args.host.now) (g.S.Shelf.files c.args.shelf.now)

pub returns-in-Err-OutOfMemory-clause-wrote : goal.returns-in-Err-OutOfMemory-clause-wrote
returns-in-Err-OutOfMemory-clause-wrote g c tells shelf_tells = unwritten c.args.now c.args.words.now (g.H.Host.disk c.args.host.now) (g.S.Shelf.files c.args.shelf.now)

pub returns-clause-wrote : goal.returns-clause-wrote
returns-clause-wrote g c tells shelf_tells =
    let same : c.as_slice.result.now ≡ c.in-Ok.entries = search rules in
    let reads = subst (EntriesRead c.args.words.now (g.S.Shelf.files c.args.shelf.now)) (sym same) (c.in-Ok.ensures.reads shelf_tells) in
    run_bound c.args.now c.args.words.now (g.H.Host.disk c.args.host.now) (g.H.Host.disk c.run_entries.new.host) (g.S.Shelf.files c.args.shelf.now) (g.S.Shelf.files c.entries_of.new.shelf) c.as_slice.result.now
    (c.entries_of.ensures.unchanged shelf_tells) reads (c.run_entries.ensures.wrote tells shelf_tells)

-- ---- words that name no file of the shelf
pub returns-in-Err-ShelfFault-clause-any_shelf : goal.returns-in-Err-ShelfFault-clause-any_shelf
returns-in-Err-ShelfFault-clause-any_shelf g c tells none files =
    unread_promises c.args.now c.args.words.now stop.ShelfFault status.ShelfFault (g.H.Host.disk c.args.host.now) files (inl refl) refl (c.requires tells) (faulty_causes _ _ c.in-Err-ShelfFault.field-0-is c.in-Err-ShelfFault.ensures.causes)

pub returns-in-Err-OutOfMemory-clause-any_shelf : goal.returns-in-Err-OutOfMemory-clause-any_shelf
returns-in-Err-OutOfMemory-clause-any_shelf g c tells none files =
    unread_promises c.args.now c.args.words.now stop.OutOfMemory status.OutOfMemory (g.H.Host.disk c.args.host.now) files (inr refl) refl (c.requires tells) (starved_causes _ _ c.in-Err-OutOfMemory.field-0-is c.in-Err-OutOfMemory.ensures.causes)

pub returns-clause-any_shelf : goal.returns-clause-any_shelf
returns-clause-any_shelf g c tells none files =
    let same : c.as_slice.result.now ≡ c.in-Ok.entries = search rules in
    let some = subst (AreEntries c.args.words.now) (sym same) c.in-Ok.ensures.some in
    let off = none_uses_shelf c.args.words.now c.as_slice.result.now none some in
    let kept = read_kept c.in-Ok.entries c.in-Ok.ensures.causes in
    read_promises c.args.now c.args.words.now c.as_slice.result.now c.run_entries.result (g.H.Host.disk c.args.host.now) (g.H.Host.disk c.run_entries.new.host) files
    (read_anywhere c.args.words.now c.as_slice.result.now none some files) (read_causes _ _ _ _ _ c.run_entries.result kept c.run_entries.ensures.causes)
    (c.run_entries.ensures.ends_any off tells files) (c.run_entries.ensures.survives_any off tells files) (c.run_entries.ensures.later_any off tells) (c.run_entries.ensures.wrote_any off tells files)

-- ---- counts of faults
pub returns-in-Err-ShelfFault-clause-causes : goal.returns-in-Err-ShelfFault-clause-causes
returns-in-Err-ShelfFault-clause-causes g c = faulty_causes _ _ c.in-Err-ShelfFault.field-0-is c.in-Err-ShelfFault.ensures.causes

pub returns-in-Err-OutOfMemory-clause-causes : goal.returns-in-Err-OutOfMemory-clause-causes
returns-in-Err-OutOfMemory-clause-causes g c = starved_causes _ _ c.in-Err-OutOfMemory.field-0-is c.in-Err-OutOfMemory.ensures.causes

pub returns-clause-causes : goal.returns-clause-causes
returns-clause-causes g c = read_causes _ _ _ _ _ c.run_entries.result (read_kept c.in-Ok.entries c.in-Ok.ensures.causes) c.run_entries.ensures.causes

-- ---- what is written, whatever the shelf holds
pub returns-in-Err-ShelfFault-clause-wrote_between : goal.returns-in-Err-ShelfFault-clause-wrote_between
returns-in-Err-ShelfFault-clause-wrote_between g c tells sound = unwritten_between c.args.now c.args.words.now (g.H.Host.disk c.args.host.now)

pub returns-in-Err-OutOfMemory-clause-wrote_between : goal.returns-in-Err-OutOfMemory-clause-wrote_between
returns-in-Err-OutOfMemory-clause-wrote_between g c tells sound = unwritten_between c.args.now c.args.words.now (g.H.Host.disk c.args.host.now)

pub returns-clause-wrote_between : goal.returns-clause-wrote_between
returns-clause-wrote_between g c tells sound =
    let same : c.as_slice.result.now ≡ c.in-Ok.entries = search rules in
    let some = subst (AreEntries c.args.words.now) (sym same) c.in-Ok.ensures.some in
    run_between c.args.now c.args.words.now (g.H.Host.disk c.args.host.now) (g.H.Host.disk c.run_entries.new.host) c.as_slice.result.now some (c.run_entries.ensures.wrote_between tells sound)
