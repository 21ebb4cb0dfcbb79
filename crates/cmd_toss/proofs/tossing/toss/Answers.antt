use Rattle.std.proofs.Common.{rules, ◌≡◌, ℕ, List, Some, Err, refl, sym, ◌∙◌, ap, subst}
use Rattle.std.specs.Prelude.{Result}
use Rattle.cmd_board.proofs.CauseLaws.{no_fault}
use Rattle.cmd_board.proofs.Exits.{unfound}
use Rattle.cmd_board.proofs.FindLaws.{same_host}
use Rattle.cmd_board.proofs.KeepingLaws.{keeps_as, read_sound, refused_as, stopped_keeps, unfound_keeps, unmade_keeps, unopened_keeps, value_keeps}
use Rattle.intent_journal.specs.Hosts.{IsFirm}
use Rattle.shelf_files.specs.declared.refusal.Refusal.TheVariants.{NotMade}
use Rattle.cmd_board.proofs.WriteLaws.{changed_bound, found_bound, found_within, unmade_bound}
use Rattle.cmd_board.proofs.mail_board.PostedSlots.{posting_keeps}
use Rattle.cmd_board.specs.Halts.{told, halt_of_read, of_shelf, of_journal}
use Rattle.cmd_board.specs.Kept.{kept_board}
use Rattle.cmd_board.specs.State.{Stores}
use Rattle.cmd_board.specs.declared.halt.BoardHalt.{BoardHalt}
use Rattle.board_layout.specs.Board.{Board}
use Rattle.door_outside.specs.Disk.{Unchanged}
use Rattle.entry_runs.specs.Entry.{Works}
use Rattle.entry_runs.specs.Promise.{FaultCounts, HasCauses, counts, ended}
use Rattle.entry_runs.specs.declared.status.Status.TheVariants as status
use Rattle.cmd_board.specs.mail_board.Changes.{Fits}
use Rattle.cmd_board.proofs.ChangeExits.{unmade_by}
use Rattle.cmd_toss.proofs.TossBounds.{toss_within}
use Rattle.cmd_toss.proofs.TossExits.{no_packet, said, tosses_all, unprepared, untossed}
use Rattle.cmd_toss.specs.Toss.{Tosses, tosses}
use Rattle.cmd_toss.proofs.tossing.toss.Goals as goal

pub returns-in_err-find-clause-works : goal.returns-in_err-find-clause-works
returns-in_err-find-clause-works g c tells shelf_tells world at =
    let is : c.from_residual.result ≡ Err (halt_of_read c.in_err-find.field-0.0) = search rules in
    subst (λ (r : Result (List ℕ) BoardHalt). Works Stores (tosses c.args.file.now c.args.now) world (g.H.Host.disk c.args.host.now) (g.H.Host.disk c.find.new.host) (g.S.Shelf.files c.args.shelf.now) (told said r)) (sym is)
    (unfound (Tosses c.args.file.now c.args.now) at said c.find.new.kept c.in_err-find.field-0.0
    (c.in_err-find.ensures.finds tells world.state at.board.stores) (c.in_err-find.ensures.state tells world.state at.board.stores))

pub returns-in_err-board-clause-works : goal.returns-in_err-board-clause-works
returns-in_err-board-clause-works g c tells shelf_tells world at =
    let e : BoardHalt = c.in_err-board.field-0.0 in
    let is : c.from_residual-in_err-board.result ≡ Err e = search rules in
    subst (λ (r : Result (List ℕ) BoardHalt). Works Stores (tosses c.args.file.now c.args.now) world (g.H.Host.disk c.args.host.now) (g.H.Host.disk c.find.new.host) (g.S.Shelf.files c.args.shelf.now) (told said r)) (sym is)
    (unmade_by (Tosses c.args.file.now c.args.now) at (kept_board c.find.new.kept) (c.in_ok-find.ensures.finds tells world.state at.board.stores) (c.in_ok-find.ensures.state tells world.state at.board.stores)
    said e c.in_err-board.ensures.board.1 c.in_err-board.ensures.board.0 refl)

pub returns-in_err-messages-clause-works : goal.returns-in_err-messages-clause-works
returns-in_err-messages-clause-works g c tells shelf_tells world at =
    let halt = c.in_err-messages.field-0.0 in
    let b : Board = c.in_ok-board.board.now.board in
    let is : c.from_residual-in_err-messages.result ≡ Err (of_shelf halt) = search rules in
    subst (λ (r : Result (List ℕ) BoardHalt). Works Stores (tosses c.args.file.now c.args.now) world (g.H.Host.disk c.args.host.now) (g.H.Host.disk c.find.new.host) (g.S.Shelf.files c.packet_in.new.shelf) (told said r)) (sym is)
    (no_packet c.args.file.now c.args.now at (kept_board c.find.new.kept) (c.in_ok-find.ensures.finds tells world.state at.board.stores) (c.in_ok-find.ensures.state tells world.state at.board.stores)
    b c.in_ok-board.ensures.board (c.in_err-messages.ensures.unchanged shelf_tells) halt (c.in_err-messages.ensures.packet shelf_tells))

pub returns-in_err-tossing-clause-works : goal.returns-in_err-tossing-clause-works
returns-in_err-tossing-clause-works g c tells shelf_tells world at =
    let e : BoardHalt = c.in_err-tossing.field-0.0 in
    let b : Board = c.in_ok-board.board.now.board in
    let is : c.from_residual-in_err-tossing.result ≡ Err e = search rules in
    subst (λ (r : Result (List ℕ) BoardHalt). Works Stores (tosses c.args.file.now c.args.now) world (g.H.Host.disk c.args.host.now) (g.H.Host.disk c.find.new.host) (g.S.Shelf.files c.packet_in.new.shelf) (told said r)) (sym is)
    (unprepared c.args.file.now c.args.now at (kept_board c.find.new.kept) (c.in_ok-find.ensures.finds tells world.state at.board.stores) (c.in_ok-find.ensures.state tells world.state at.board.stores)
    b c.in_ok-board.ensures.board (c.in_ok-messages.ensures.unchanged shelf_tells) c.in_ok-messages.messages (c.in_ok-messages.ensures.packet shelf_tells) e c.in_err-tossing.ensures.may)

pub returns-in_err-make_change-clause-works : goal.returns-in_err-make_change-clause-works
returns-in_err-make_change-clause-works g c tells shelf_tells world at =
    let error = c.in_err-make_change.field-0.0 in
    let b : Board = c.in_ok-board.board.now.board in
    let is : c.from_residual-in_err-make_change.result ≡ Err (of_journal error) = search rules in
    subst (λ (r : Result (List ℕ) BoardHalt). Works Stores (tosses c.args.file.now c.args.now) world (g.H.Host.disk c.args.host.now) (g.H.Host.disk c.make_change.new.host) (g.S.Shelf.files c.packet_in.new.shelf) (told said r)) (sym is)
    (untossed c.args.file.now c.args.now at (kept_board c.find.new.kept) (c.in_ok-find.ensures.finds tells world.state at.board.stores) (c.in_ok-find.ensures.state tells world.state at.board.stores)
    b c.in_ok-board.ensures.board (c.in_ok-messages.ensures.unchanged shelf_tells) c.in_ok-messages.messages (c.in_ok-messages.ensures.packet shelf_tells)
    c.in_ok-tossing.tossing c.in_ok-tossing.ensures.may c.in_ok-tossing.ensures.change error (c.in_err-make_change.ensures.changes tells)
    (λ starved. subst (λ host. Unchanged (g.H.Host.disk c.find.new.host) (g.H.Host.disk host)) (sym (c.in_err-make_change.ensures.unchanged (ap Err starved))) (same_host (g.H.Host.disk c.find.new.host))))

pub returns-clause-works : goal.returns-clause-works
returns-clause-works g c tells shelf_tells world at =
    let b : Board = c.in_ok-board.board.now.board in
    tosses_all c.args.file.now c.args.now at (kept_board c.find.new.kept) (c.in_ok-find.ensures.finds tells world.state at.board.stores) (c.in_ok-find.ensures.state tells world.state at.board.stores)
    b c.in_ok-board.ensures.board (c.in_ok-messages.ensures.unchanged shelf_tells) c.in_ok-messages.messages (c.in_ok-messages.ensures.packet shelf_tells)
    c.in_ok-tossing.tossing c.in_ok-tossing.ensures.may c.in_ok-tossing.ensures.change (c.in_ok-make_change.ensures.changes tells)

pub make_change-requires-clause-fits : goal.make_change-requires-clause-fits
make_change-requires-clause-fits g c b is =
    let here : Some c.in_ok-board.board.now.board ≡ Some b = sym c.in_ok-board.ensures.board ∙ is in
    let same : c.in_ok-board.board.now.board ≡ b = cc in
    subst (Fits c.in_ok-tossing.tossing.change) same c.in_ok-tossing.ensures.may.0

pub returns-in_err-tossing-clause-causes : goal.returns-in_err-tossing-clause-causes
returns-in_err-tossing-clause-causes g c =
    let e : BoardHalt = c.in_err-tossing.field-0.0 in
    let is : c.from_residual-in_err-tossing.result ≡ Err e = search rules in
    let old : FaultCounts = counts (g.H.Host.disk_faults c.args.host.now) (g.H.Host.voice_faults c.args.host.now) (g.S.Shelf.faults c.args.shelf.now) in
    let new : FaultCounts = counts (g.H.Host.disk_faults c.find.new.host) (g.H.Host.voice_faults c.find.new.host) (g.S.Shelf.faults c.packet_in.new.shelf) in
    let done : HasCauses old new status.Done = search rules in
    let starved : HasCauses old new status.OutOfMemory = search rules in
    subst (λ (r : Result (List ℕ) BoardHalt). HasCauses old new (ended (told said r))) (sym is)
    (no_fault said _ e c.in_err-tossing.ensures.may done starved)

pub returns-in_err-find-clause-wrote : goal.returns-in_err-find-clause-wrote
returns-in_err-find-clause-wrote g c tells shelf_tells closed = found_within (tosses c.args.file.now c.args.now) (g.H.Host.disk c.args.host.now) (g.H.Host.disk c.find.new.host) (g.S.Shelf.files c.args.shelf.now) closed (c.find.ensures.wrote tells)

pub returns-in_err-board-clause-wrote : goal.returns-in_err-board-clause-wrote
returns-in_err-board-clause-wrote g c tells shelf_tells closed = found_within (tosses c.args.file.now c.args.now) (g.H.Host.disk c.args.host.now) (g.H.Host.disk c.find.new.host) (g.S.Shelf.files c.args.shelf.now) closed (c.find.ensures.wrote tells)

pub returns-in_err-messages-clause-wrote : goal.returns-in_err-messages-clause-wrote
returns-in_err-messages-clause-wrote g c tells shelf_tells closed = found_within (tosses c.args.file.now c.args.now) (g.H.Host.disk c.args.host.now) (g.H.Host.disk c.find.new.host) (g.S.Shelf.files c.args.shelf.now) closed (c.find.ensures.wrote tells)

pub returns-in_err-tossing-clause-wrote : goal.returns-in_err-tossing-clause-wrote
returns-in_err-tossing-clause-wrote g c tells shelf_tells closed = found_within (tosses c.args.file.now c.args.now) (g.H.Host.disk c.args.host.now) (g.H.Host.disk c.find.new.host) (g.S.Shelf.files c.args.shelf.now) closed (c.find.ensures.wrote tells)

pub returns-in_err-make_change-clause-wrote : goal.returns-in_err-make_change-clause-wrote
returns-in_err-make_change-clause-wrote g c tells shelf_tells closed =
    let b : Board = c.in_ok-board.board.now.board in
    toss_within (g.H.Host.disk c.args.host.now) (g.H.Host.disk c.find.new.host) (g.H.Host.disk c.make_change.new.host) (g.S.Shelf.files c.args.shelf.now) closed (c.find.ensures.wrote tells) (kept_board c.find.new.kept) (c.in_ok-find.ensures.state tells) b c.in_ok-board.ensures.board c.in_ok-board.ensures.valid c.args.file.now c.args.now
    c.in_ok-messages.messages (c.in_ok-messages.ensures.packet shelf_tells) c.in_ok-tossing.tossing c.in_ok-tossing.ensures.may c.in_ok-tossing.ensures.change
    (c.make_change.ensures.wrote tells b c.in_ok-board.ensures.board)

pub returns-clause-wrote : goal.returns-clause-wrote
returns-clause-wrote g c tells shelf_tells closed =
    let b : Board = c.in_ok-board.board.now.board in
    toss_within (g.H.Host.disk c.args.host.now) (g.H.Host.disk c.find.new.host) (g.H.Host.disk c.make_change.new.host) (g.S.Shelf.files c.args.shelf.now) closed (c.find.ensures.wrote tells) (kept_board c.find.new.kept) (c.in_ok-find.ensures.state tells) b c.in_ok-board.ensures.board c.in_ok-board.ensures.valid c.args.file.now c.args.now
    c.in_ok-messages.messages (c.in_ok-messages.ensures.packet shelf_tells) c.in_ok-tossing.tossing c.in_ok-tossing.ensures.may c.in_ok-tossing.ensures.change
    (c.make_change.ensures.wrote tells b c.in_ok-board.ensures.board)

pub returns-in_err-find-clause-keeps : goal.returns-in_err-find-clause-keeps
returns-in_err-find-clause-keeps g c tells =
    let is : c.from_residual.result ≡ Err (halt_of_read c.in_err-find.field-0.0) = search rules in
    keeps_as is (unfound_keeps c.find.new.kept c.in_err-find.field-0.0 (c.in_err-find.ensures.finds tells) (c.in_err-find.ensures.state tells))

pub returns-in_err-board-clause-keeps : goal.returns-in_err-board-clause-keeps
returns-in_err-board-clause-keeps g c tells =
    let is : c.from_residual-in_err-board.result ≡ Err c.in_err-board.field-0.0 = search rules in
    keeps_as is (refused_as c.in_err-board.field-0.0 NotMade c.in_err-board.ensures.board.0 (read_sound c.find.new.kept (g.H.Host.disk c.find.new.host) c.in_ok-find.ensures.read (c.in_ok-find.ensures.kept tells)))

pub returns-in_err-messages-clause-keeps : goal.returns-in_err-messages-clause-keeps
returns-in_err-messages-clause-keeps g c tells =
    let is : c.from_residual-in_err-messages.result ≡ Err (of_shelf c.in_err-messages.field-0.0) = search rules in
    keeps_as is (unopened_keeps c.in_err-messages.field-0.0 (read_sound c.find.new.kept (g.H.Host.disk c.find.new.host) c.in_ok-find.ensures.read (c.in_ok-find.ensures.kept tells)))

pub returns-in_err-tossing-clause-keeps : goal.returns-in_err-tossing-clause-keeps
returns-in_err-tossing-clause-keeps g c tells =
    let is : c.from_residual-in_err-tossing.result ≡ Err c.in_err-tossing.field-0.0 = search rules in
    keeps_as is (stopped_keeps _ c.in_err-tossing.field-0.0 (c.in_err-tossing.ensures.may) (read_sound c.find.new.kept (g.H.Host.disk c.find.new.host) c.in_ok-find.ensures.read (c.in_ok-find.ensures.kept tells)))

pub returns-in_err-make_change-clause-keeps : goal.returns-in_err-make_change-clause-keeps
returns-in_err-make_change-clause-keeps g c tells =
    let is : c.from_residual-in_err-make_change.result ≡ Err (of_journal c.in_err-make_change.field-0.0) = search rules in
    let sound = read_sound c.find.new.kept (g.H.Host.disk c.find.new.host) c.in_ok-find.ensures.read (c.in_ok-find.ensures.kept tells) in
    keeps_as is (unmade_keeps c.in_err-make_change.field-0.0 (λ starved. subst (λ host. IsFirm (g.H.Host.disk host)) (sym (c.in_err-make_change.ensures.unchanged (ap Err starved))) sound.firm))

pub returns-clause-keeps : goal.returns-clause-keeps
returns-clause-keeps g c tells =
    value_keeps (read_sound c.make_change.new.kept (g.H.Host.disk c.make_change.new.host) c.in_ok-make_change.ensures.read (c.in_ok-make_change.ensures.kept tells))

pub returns-in_err-find-clause-wrote_between : goal.returns-in_err-find-clause-wrote_between
returns-in_err-find-clause-wrote_between g c tells closed sound = found_bound (g.H.Host.disk c.args.host.now) closed (g.H.Host.disk c.find.new.host) (c.find.ensures.wrote tells)

pub returns-in_err-board-clause-wrote_between : goal.returns-in_err-board-clause-wrote_between
returns-in_err-board-clause-wrote_between g c tells closed sound = found_bound (g.H.Host.disk c.args.host.now) closed (g.H.Host.disk c.find.new.host) (c.find.ensures.wrote tells)

pub returns-in_err-messages-clause-wrote_between : goal.returns-in_err-messages-clause-wrote_between
returns-in_err-messages-clause-wrote_between g c tells closed sound = found_bound (g.H.Host.disk c.args.host.now) closed (g.H.Host.disk c.find.new.host) (c.find.ensures.wrote tells)

pub returns-in_err-tossing-clause-wrote_between : goal.returns-in_err-tossing-clause-wrote_between
returns-in_err-tossing-clause-wrote_between g c tells closed sound = found_bound (g.H.Host.disk c.args.host.now) closed (g.H.Host.disk c.find.new.host) (c.find.ensures.wrote tells)

pub returns-in_err-make_change-clause-wrote_between : goal.returns-in_err-make_change-clause-wrote_between
returns-in_err-make_change-clause-wrote_between g c tells closed sound =
    let error = c.in_err-make_change.field-0.0 in
    let is : c.from_residual-in_err-make_change.result ≡ Err (of_journal error) = search rules in
    unmade_bound (g.H.Host.disk c.args.host.now) closed (g.H.Host.disk c.find.new.host) (g.H.Host.disk c.make_change.new.host) error (λ fault. sound (is ∙ ap Err fault)) (λ starved. ap (λ host. (g.H.Host.disk host).wrote) (c.in_err-make_change.ensures.unchanged (ap Err starved))) (c.find.ensures.wrote tells)

pub returns-clause-wrote_between : goal.returns-clause-wrote_between
returns-clause-wrote_between g c tells closed sound =
    let b : Board = c.in_ok-board.board.now.board in
    changed_bound (g.H.Host.disk c.args.host.now) closed (g.H.Host.disk c.find.new.host) (g.H.Host.disk c.make_change.new.host) (c.find.ensures.wrote tells) (kept_board c.find.new.kept) (c.in_ok-find.ensures.state tells) b c.in_ok-board.ensures.board c.in_ok-tossing.tossing.change (c.in_ok-find.ensures.finds tells) (c.in_ok-make_change.ensures.changes tells)
    (posting_keeps c.in_ok-tossing.tossing.change b (g.H.Host.disk c.find.new.host).wrote (g.H.Host.disk c.make_change.new.host).wrote c.in_ok-tossing.ensures.may.2 c.in_ok-board.ensures.valid c.in_ok-tossing.ensures.may.0 (c.make_change.ensures.wrote tells b c.in_ok-board.ensures.board))
