use Rattle.std.proofs.Common.{rules, ◌≡◌, ℕ, length, Some, None, Err, sym, ap, subst}
use Rattle.std.specs.Prelude.{Result}
use Rattle.door_outside.specs.Disk.{Unchanged}
use Rattle.entry_runs.specs.Entry.{Works}
use Rattle.board_layout.specs.Board.{Board}
use Rattle.intent_journal.specs.Hosts.{IsFirm}
use Rattle.cmd_board.specs.Halts.{told, halt_of_read, of_shelf, of_journal}
use Rattle.cmd_board.specs.Init.{Inits, inits, made_line}
use Rattle.cmd_board.specs.Kept.{kept_board}
use Rattle.cmd_board.specs.State.{Stores}
use Rattle.cmd_board.specs.declared.halt.BoardHalt.{BoardHalt}
use Rattle.cmd_board.proofs.Exits.{unfound}
use Rattle.cmd_board.proofs.FindLaws.{same_host}
use Rattle.cmd_board.proofs.InitExits.{exists_already, unset, begun, unbegun}
use Rattle.cmd_board.proofs.KeepingLaws.{keeps_as, read_sound, refused_keeps, unfound_keeps, unmade_keeps, unopened_keeps, value_keeps}
use Rattle.cmd_board.proofs.LikeLaws.{none_outlined}
use Rattle.cmd_board.proofs.creation.init.Goals as goal

pub returns-in_err-find-clause-works : goal.returns-in_err-find-clause-works
returns-in_err-find-clause-works g c tells shelf_tells world at =
    let is : c.from_residual.result ≡ Err (halt_of_read c.in_err-find.field-0.0) = search rules in
    subst (λ (r : Result ℕ BoardHalt). Works Stores (inits c.args.file.now c.args.now) world (g.H.Host.disk c.args.host.now) (g.H.Host.disk c.find.new.host) (g.S.Shelf.files c.args.shelf.now) (told made_line r)) (sym is)
    (unfound (Inits c.args.file.now c.args.now) at made_line c.find.new.kept c.in_err-find.field-0.0
    (c.in_err-find.ensures.finds tells world.state at.board.stores) (c.in_err-find.ensures.state tells world.state at.board.stores))

pub returns-in-Some-Ready-clause-works : goal.returns-in-Some-Ready-clause-works
returns-in-Some-Ready-clause-works g c tells shelf_tells world at =
    let b : Board = c.in-Some-Ready.field-0-0.board in
    let kept : kept_board c.find.new.kept ≡ Some b = search rules in
    exists_already c.args.file.now c.args.now at (kept_board c.find.new.kept) (c.in_ok-find.ensures.finds tells world.state at.board.stores) (c.in_ok-find.ensures.state tells world.state at.board.stores) b kept

pub returns-in_err-setup-clause-works : goal.returns-in_err-setup-clause-works
returns-in_err-setup-clause-works g c tells shelf_tells world at =
    let halt = c.in_err-setup.field-0.0 in
    let is : c.from_residual-in_err-setup.result ≡ Err (of_shelf halt) = search rules in
    let none : kept_board c.find.new.kept ≡ None = search rules in
    subst (λ (r : Result ℕ BoardHalt). Works Stores (inits c.args.file.now c.args.now) world (g.H.Host.disk c.args.host.now) (g.H.Host.disk c.find.new.host) (g.S.Shelf.files c.setup_in.new.shelf) (told made_line r)) (sym is)
    (unset c.args.file.now c.args.now at (c.in_ok-find.ensures.finds tells world.state at.board.stores) (none_outlined _ (kept_board c.find.new.kept) none (c.in_ok-find.ensures.state tells world.state at.board.stores))
    halt (c.in_err-setup.ensures.setup shelf_tells) (c.in_err-setup.ensures.unchanged shelf_tells))

pub returns-in_err-make_board-clause-works : goal.returns-in_err-make_board-clause-works
returns-in_err-make_board-clause-works g c tells shelf_tells world at =
    let error = c.in_err-make_board.field-0.0 in
    let is : c.from_residual-in_err-make_board.result ≡ Err (of_journal error) = search rules in
    let none : kept_board c.find.new.kept ≡ None = search rules in
    subst (λ (r : Result ℕ BoardHalt). Works Stores (inits c.args.file.now c.args.now) world (g.H.Host.disk c.args.host.now) (g.H.Host.disk c.make_board.new.host) (g.S.Shelf.files c.setup_in.new.shelf) (told made_line r)) (sym is)
    (unbegun c.args.file.now c.args.now at (c.in_ok-find.ensures.finds tells world.state at.board.stores) (none_outlined _ (kept_board c.find.new.kept) none (c.in_ok-find.ensures.state tells world.state at.board.stores))
    c.in_ok-setup.setup (c.in_ok-setup.ensures.setup shelf_tells) error (c.in_err-make_board.ensures.changes tells)
    (λ starved. subst (λ host. Unchanged (g.H.Host.disk c.find.new.host) (g.H.Host.disk host)) (sym (c.in_err-make_board.ensures.unchanged (ap Err starved))) (same_host (g.H.Host.disk c.find.new.host)))
    (c.in_ok-setup.ensures.unchanged shelf_tells))

pub returns-clause-works : goal.returns-clause-works
returns-clause-works g c tells shelf_tells world at =
    let none : kept_board c.find.new.kept ≡ None = search rules in
    let counted : c.conference_count-count.result ≡ length c.in_ok-setup.setup.conferences = c.conference_count-count.ensures in
    begun c.args.file.now c.args.now at (c.in_ok-find.ensures.finds tells world.state at.board.stores) (none_outlined _ (kept_board c.find.new.kept) none (c.in_ok-find.ensures.state tells world.state at.board.stores))
    c.in_ok-setup.setup (c.in_ok-setup.ensures.setup shelf_tells) c.conference_count-count.result counted (c.in_ok-make_board.ensures.changes tells) (c.in_ok-setup.ensures.unchanged shelf_tells)

pub returns-in_err-find-clause-keeps : goal.returns-in_err-find-clause-keeps
returns-in_err-find-clause-keeps g c tells =
    let is : c.from_residual.result ≡ Err (halt_of_read c.in_err-find.field-0.0) = search rules in
    keeps_as is (unfound_keeps c.find.new.kept c.in_err-find.field-0.0 (c.in_err-find.ensures.finds tells) (c.in_err-find.ensures.state tells))

pub returns-in-Some-Ready-clause-keeps : goal.returns-in-Some-Ready-clause-keeps
returns-in-Some-Ready-clause-keeps g c tells =
    refused_keeps (read_sound c.find.new.kept (g.H.Host.disk c.find.new.host) c.in_ok-find.ensures.read (c.in_ok-find.ensures.kept tells))

pub returns-in_err-setup-clause-keeps : goal.returns-in_err-setup-clause-keeps
returns-in_err-setup-clause-keeps g c tells =
    let is : c.from_residual-in_err-setup.result ≡ Err (of_shelf c.in_err-setup.field-0.0) = search rules in
    keeps_as is (unopened_keeps c.in_err-setup.field-0.0 (read_sound c.find.new.kept (g.H.Host.disk c.find.new.host) c.in_ok-find.ensures.read (c.in_ok-find.ensures.kept tells)))

pub returns-in_err-make_board-clause-keeps : goal.returns-in_err-make_board-clause-keeps
returns-in_err-make_board-clause-keeps g c tells =
    let is : c.from_residual-in_err-make_board.result ≡ Err (of_journal c.in_err-make_board.field-0.0) = search rules in
    let sound = read_sound c.find.new.kept (g.H.Host.disk c.find.new.host) c.in_ok-find.ensures.read (c.in_ok-find.ensures.kept tells) in
    keeps_as is (unmade_keeps c.in_err-make_board.field-0.0 (λ starved. subst (λ host. IsFirm (g.H.Host.disk host)) (sym (c.in_err-make_board.ensures.unchanged (ap Err starved))) sound.firm))

pub returns-clause-keeps : goal.returns-clause-keeps
returns-clause-keeps g c tells =
    value_keeps (read_sound c.make_board.new.kept (g.H.Host.disk c.make_board.new.host) c.in_ok-make_board.ensures.read (c.in_ok-make_board.ensures.kept tells))
