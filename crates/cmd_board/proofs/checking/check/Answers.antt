use Rattle.std.proofs.Common.{rules, ◌≡◌, List, ℕ, Some, None, Ok, Err, sym, subst}
use Rattle.std.specs.Prelude.{Result}
use Rattle.entry_runs.specs.Entry.{Works}
use Rattle.board_layout.specs.Board.{Board}
use Rattle.shelf_files.specs.Halts.{done}
use Rattle.cmd_board.specs.Check.{checks, checked}
use Rattle.cmd_board.specs.Halts.{told, halt_of_read}
use Rattle.cmd_board.specs.Kept.{kept_board}
use Rattle.cmd_board.specs.State.{Stores}
use Rattle.cmd_board.specs.declared.halt.BoardHalt.{BoardHalt}
use Rattle.cmd_board.proofs.CheckLaws.{reported, unmade}
use Rattle.cmd_board.proofs.Exits.{unfound}
use Rattle.cmd_board.proofs.checking.check.Goals as goal

pub returns-in_err-find-clause-works : goal.returns-in_err-find-clause-works
returns-in_err-find-clause-works g c tells world shelf at =
    let is : c.from_residual.result ≡ Err (halt_of_read c.in_err-find.field-0.0) = search rules in
    subst (λ (r : Result (List ℕ) BoardHalt). Works Stores checks world (g.H.Host.disk c.args.host.now) (g.H.Host.disk c.find.new.host) shelf (told (λ text. text) r)) (sym is)
    (unfound (λ shelf board turn. turn ≡ checked board) at (λ (text : List ℕ). text) c.find.new.kept c.in_err-find.field-0.0
    (c.in_err-find.ensures.finds tells world.state at.board.stores) (c.in_err-find.ensures.state tells world.state at.board.stores))

pub returns-in_ok-report-in-Some-Ready-clause-works : goal.returns-in_ok-report-in-Some-Ready-clause-works
returns-in_ok-report-in-Some-Ready-clause-works g c tells world shelf at =
    let b : Board = c.in-Some-Ready.board.board in
    let kept : kept_board c.find.new.kept ≡ Some b = search rules in
    subst (λ (text : List ℕ). Works Stores checks world (g.H.Host.disk c.args.host.now) (g.H.Host.disk c.find.new.host) shelf (Ok (done text))) (sym c.in_ok-report-in-Some-Ready.ensures)
    (reported at (kept_board c.find.new.kept) (c.in_ok-find.ensures.finds tells world.state at.board.stores) (c.in_ok-find.ensures.state tells world.state at.board.stores) b kept)

pub returns-in_default-clause-works : goal.returns-in_default-clause-works
returns-in_default-clause-works g c tells world shelf at =
    let kept : kept_board c.find.new.kept ≡ None = search rules in
    unmade at (kept_board c.find.new.kept) (c.in_ok-find.ensures.finds tells world.state at.board.stores) (c.in_ok-find.ensures.state tells world.state at.board.stores) kept
