use Rattle.std.proofs.Common.{rules, ◌≡◌, List, ℕ, Err, refl, sym, ap, subst}
use Rattle.std.specs.Prelude.{Result}
use Rattle.cmd_board.proofs.Exits.{unfound}
use Rattle.cmd_board.proofs.FindLaws.{same_host}
use Rattle.cmd_board.specs.Halts.{told, halt_of_read, of_journal}
use Rattle.cmd_board.specs.Kept.{kept_board}
use Rattle.cmd_board.specs.State.{Stores}
use Rattle.cmd_board.specs.declared.halt.BoardHalt.{BoardHalt}
use Rattle.board_layout.specs.Board.{Board}
use Rattle.door_outside.specs.Disk.{Unchanged}
use Rattle.entry_runs.specs.Entry.{Works}
use Rattle.cmd_board.specs.mail_board.declared.change.Change.{Change}
use Rattle.cmd_board.specs.shelf_files.declared.refusal.Refusal.TheVariants.{NoConference, NoMessage}
use Rattle.cmd_board.proofs.ChangeExits.{changed_by, refused_on, unchanged_by, unmade_by}
use Rattle.cmd_messages.proofs.KillLaws.{turn_killing, turn_missing, turn_unplaced}
use Rattle.cmd_messages.specs.Kill.{kill_turn, killed_line, kills}
use Rattle.cmd_messages.proofs.killing.kill.Goals as goal

pub returns-in_err-find-clause-works : goal.returns-in_err-find-clause-works
returns-in_err-find-clause-works g c tells world shelf at =
    let is : c.from_residual.result ≡ Err (halt_of_read c.in_err-find.field-0.0) = search rules in
    subst (λ (r : Result (Unit {0}) BoardHalt). Works Stores (kills c.args.conference c.args.number) world (g.H.Host.disk c.args.host.now) (g.H.Host.disk c.find.new.host) shelf (told (λ done. killed_line c.args.conference c.args.number) r)) (sym is)
    (unfound (λ files board turn. turn ≡ kill_turn c.args.conference c.args.number board) at (λ (done : Unit {0}). killed_line c.args.conference c.args.number) c.find.new.kept c.in_err-find.field-0.0
    (c.in_err-find.ensures.finds tells world.state at.board.stores) (c.in_err-find.ensures.state tells world.state at.board.stores))

pub returns-in_err-board-clause-works : goal.returns-in_err-board-clause-works
returns-in_err-board-clause-works g c tells world shelf at =
    let e : BoardHalt = c.in_err-board.field-0.0 in
    let is : c.from_residual-in_err-board.result ≡ Err e = search rules in
    subst (λ (r : Result (Unit {0}) BoardHalt). Works Stores (kills c.args.conference c.args.number) world (g.H.Host.disk c.args.host.now) (g.H.Host.disk c.find.new.host) shelf (told (λ done. killed_line c.args.conference c.args.number) r)) (sym is)
    (unmade_by (λ files board turn. turn ≡ kill_turn c.args.conference c.args.number board) at (kept_board c.find.new.kept) (c.in_ok-find.ensures.finds tells world.state at.board.stores) (c.in_ok-find.ensures.state tells world.state at.board.stores)
    (λ (done : Unit {0}). killed_line c.args.conference c.args.number) e c.in_err-board.ensures.board.1 c.in_err-board.ensures.board.0 refl)

pub returns-in_err-place-clause-works : goal.returns-in_err-place-clause-works
returns-in_err-place-clause-works g c tells world shelf at =
    let e : BoardHalt = c.in_err-place.field-0.0 in
    let b : Board = c.in_ok-board.board.now.board in
    let is : c.from_residual-in_err-place.result ≡ Err e = search rules in
    subst (λ (r : Result (Unit {0}) BoardHalt). Works Stores (kills c.args.conference c.args.number) world (g.H.Host.disk c.args.host.now) (g.H.Host.disk c.find.new.host) shelf (told (λ done. killed_line c.args.conference c.args.number) r)) (sym is)
    (refused_on (λ files board turn. turn ≡ kill_turn c.args.conference c.args.number board) at (kept_board c.find.new.kept) (c.in_ok-find.ensures.finds tells world.state at.board.stores) (c.in_ok-find.ensures.state tells world.state at.board.stores)
    (λ (done : Unit {0}). killed_line c.args.conference c.args.number) b NoConference e c.in_ok-board.ensures.board c.in_err-place.ensures.place.0 (λ real valid alike. turn_unplaced c.args.conference c.args.number b c.in_err-place.ensures.place.1 real alike))

pub returns-in_err-change-clause-works : goal.returns-in_err-change-clause-works
returns-in_err-change-clause-works g c tells world shelf at =
    let e : BoardHalt = c.in_err-change.field-0.0 in
    let b : Board = c.in_ok-board.board.now.board in
    let place : ℕ = c.in_ok-place.place in
    let is : c.from_residual-in_err-change.result ≡ Err e = search rules in
    subst (λ (r : Result (Unit {0}) BoardHalt). Works Stores (kills c.args.conference c.args.number) world (g.H.Host.disk c.args.host.now) (g.H.Host.disk c.find.new.host) shelf (told (λ done. killed_line c.args.conference c.args.number) r)) (sym is)
    (refused_on (λ files board turn. turn ≡ kill_turn c.args.conference c.args.number board) at (kept_board c.find.new.kept) (c.in_ok-find.ensures.finds tells world.state at.board.stores) (c.in_ok-find.ensures.state tells world.state at.board.stores)
    (λ (done : Unit {0}). killed_line c.args.conference c.args.number) b NoMessage e c.in_ok-board.ensures.board c.in_err-change.ensures.change.0
    (λ real valid alike. turn_missing c.args.conference c.args.number b place c.in_ok-place.ensures.place c.in_err-change.ensures.change.1 real alike))

pub returns-in_err-make_change-clause-works : goal.returns-in_err-make_change-clause-works
returns-in_err-make_change-clause-works g c tells world shelf at =
    let error = c.in_err-make_change.field-0.0 in
    let b : Board = c.in_ok-board.board.now.board in
    let change : Change = c.in_ok-change.change in
    let line : List ℕ = killed_line c.args.conference c.args.number in
    let takes = turn_killing c.args.conference c.args.number b c.in_ok-place.place c.in_ok-place.ensures.place c.in_ok-change.ensures.change.1 change c.in_ok-change.ensures.change.0 in
    let is : c.from_residual-in_err-make_change.result ≡ Err (of_journal error) = search rules in
    subst (λ (r : Result (Unit {0}) BoardHalt). Works Stores (kills c.args.conference c.args.number) world (g.H.Host.disk c.args.host.now) (g.H.Host.disk c.make_change.new.host) shelf (told (λ done. killed_line c.args.conference c.args.number) r)) (sym is)
    (unchanged_by (λ files board turn. turn ≡ kill_turn c.args.conference c.args.number board) at (kept_board c.find.new.kept) (c.in_ok-find.ensures.finds tells world.state at.board.stores) (c.in_ok-find.ensures.state tells world.state at.board.stores)
    b c.in_ok-board.ensures.board change line (λ real valid alike. takes real alike) (λ (done : Unit {0}). line) error (c.in_err-make_change.ensures.changes tells)
    (λ starved. subst (λ host. Unchanged (g.H.Host.disk c.find.new.host) (g.H.Host.disk host)) (sym (c.in_err-make_change.ensures.unchanged (ap Err starved))) (same_host (g.H.Host.disk c.find.new.host))))

pub returns-clause-works : goal.returns-clause-works
returns-clause-works g c tells world shelf at =
    let b : Board = c.in_ok-board.board.now.board in
    let change : Change = c.in_ok-change.change in
    let line : List ℕ = killed_line c.args.conference c.args.number in
    let takes = turn_killing c.args.conference c.args.number b c.in_ok-place.place c.in_ok-place.ensures.place c.in_ok-change.ensures.change.1 change c.in_ok-change.ensures.change.0 in
    changed_by (λ files board turn. turn ≡ kill_turn c.args.conference c.args.number board) at (kept_board c.find.new.kept) (c.in_ok-find.ensures.finds tells world.state at.board.stores) (c.in_ok-find.ensures.state tells world.state at.board.stores)
    b c.in_ok-board.ensures.board change line (λ real valid alike. takes real alike) (c.in_ok-make_change.ensures.changes tells)
