use Rattle.std.proofs.Common.{rules, ◌≡◌, ℕ, Some, Err, refl, sym, ◌∙◌, ap, subst}
use Rattle.std.specs.Prelude.{Result}
use Rattle.cmd_board.proofs.CauseLaws.{no_fault}
use Rattle.cmd_board.proofs.Exits.{unfound}
use Rattle.cmd_board.proofs.FindLaws.{same_host}
use Rattle.cmd_board.proofs.WriteLaws.{changed_bound, found_bound, found_within, unmade_bound}
use Rattle.cmd_board.proofs.mail_board.PostedSlots.{posting_keeps}
use Rattle.cmd_board.specs.Halts.{told, halt_of_read, of_journal}
use Rattle.cmd_board.specs.Kept.{kept_board}
use Rattle.cmd_board.specs.State.{Stores}
use Rattle.cmd_board.specs.declared.halt.BoardHalt.{BoardHalt}
use Rattle.board_layout.specs.Board.{Board}
use Rattle.door_outside.specs.Disk.{Unchanged}
use Rattle.entry_runs.specs.Entry.{Works}
use Rattle.entry_runs.specs.Promise.{FaultCounts, HasCauses, counts, ended}
use Rattle.entry_runs.specs.declared.status.Status.TheVariants as status
use Rattle.cmd_board.specs.mail_board.Changes.{Fits}
use Rattle.cmd_board.proofs.ChangeExits.{unmade_by}
use Rattle.cmd_messages.proofs.PostBounds.{sample_within}
use Rattle.cmd_messages.proofs.SampleExits.{Turns, appended, unappended, unprepared}
use Rattle.cmd_messages.specs.Sample.{sampled_line, samples}
use Rattle.cmd_messages.proofs.sampling.sample.Goals as goal

pub returns-in_err-find-clause-works : goal.returns-in_err-find-clause-works
returns-in_err-find-clause-works g c tells world shelf at =
    let is : c.from_residual.result ≡ Err (halt_of_read c.in_err-find.field-0.0) = search rules in
    subst (λ (r : Result ℕ BoardHalt). Works Stores (samples c.args.seed c.args.count c.args.now) world (g.H.Host.disk c.args.host.now) (g.H.Host.disk c.find.new.host) shelf (told sampled_line r)) (sym is)
    (unfound (Turns c.args.seed c.args.count c.args.now) at sampled_line c.find.new.kept c.in_err-find.field-0.0 (c.in_err-find.ensures.finds tells world.state at.board.stores) (c.in_err-find.ensures.state tells world.state at.board.stores))

pub returns-in_err-board-clause-works : goal.returns-in_err-board-clause-works
returns-in_err-board-clause-works g c tells world shelf at =
    let e : BoardHalt = c.in_err-board.field-0.0 in
    let is : c.from_residual-in_err-board.result ≡ Err e = search rules in
    subst (λ (r : Result ℕ BoardHalt). Works Stores (samples c.args.seed c.args.count c.args.now) world (g.H.Host.disk c.args.host.now) (g.H.Host.disk c.find.new.host) shelf (told sampled_line r)) (sym is)
    (unmade_by (Turns c.args.seed c.args.count c.args.now) at (kept_board c.find.new.kept) (c.in_ok-find.ensures.finds tells world.state at.board.stores) (c.in_ok-find.ensures.state tells world.state at.board.stores)
    sampled_line e c.in_err-board.ensures.board.1 c.in_err-board.ensures.board.0 refl)

pub returns-in_err-change-clause-works : goal.returns-in_err-change-clause-works
returns-in_err-change-clause-works g c tells world shelf at =
    let e : BoardHalt = c.in_err-change.field-0.0 in
    let b : Board = c.in_ok-board.board.now.board in
    let is : c.from_residual-in_err-change.result ≡ Err e = search rules in
    subst (λ (r : Result ℕ BoardHalt). Works Stores (samples c.args.seed c.args.count c.args.now) world (g.H.Host.disk c.args.host.now) (g.H.Host.disk c.find.new.host) shelf (told sampled_line r)) (sym is)
    (unprepared c.args.seed c.args.count c.args.now at (kept_board c.find.new.kept) (c.in_ok-find.ensures.finds tells world.state at.board.stores) (c.in_ok-find.ensures.state tells world.state at.board.stores)
    b c.in_ok-board.ensures.board e c.in_err-change.ensures)

pub returns-in_err-make_change-clause-works : goal.returns-in_err-make_change-clause-works
returns-in_err-make_change-clause-works g c tells world shelf at =
    let error = c.in_err-make_change.field-0.0 in
    let b : Board = c.in_ok-board.board.now.board in
    let is : c.from_residual-in_err-make_change.result ≡ Err (of_journal error) = search rules in
    subst (λ (r : Result ℕ BoardHalt). Works Stores (samples c.args.seed c.args.count c.args.now) world (g.H.Host.disk c.args.host.now) (g.H.Host.disk c.make_change.new.host) shelf (told sampled_line r)) (sym is)
    (unappended c.args.seed c.args.count c.args.now at (kept_board c.find.new.kept) (c.in_ok-find.ensures.finds tells world.state at.board.stores) (c.in_ok-find.ensures.state tells world.state at.board.stores)
    b c.in_ok-board.ensures.board c.in_ok-change.change c.in_ok-change.ensures error (c.in_err-make_change.ensures.changes tells)
    (λ starved. subst (λ host. Unchanged (g.H.Host.disk c.find.new.host) (g.H.Host.disk host)) (sym (c.in_err-make_change.ensures.unchanged (ap Err starved))) (same_host (g.H.Host.disk c.find.new.host))))

pub returns-clause-works : goal.returns-clause-works
returns-clause-works g c tells world shelf at =
    let b : Board = c.in_ok-board.board.now.board in
    appended c.args.seed c.args.count c.args.now at (kept_board c.find.new.kept) (c.in_ok-find.ensures.finds tells world.state at.board.stores) (c.in_ok-find.ensures.state tells world.state at.board.stores)
    b c.in_ok-board.ensures.board c.in_ok-change.change c.in_ok-change.ensures (c.in_ok-make_change.ensures.changes tells)

pub make_change-requires-clause-fits : goal.make_change-requires-clause-fits
make_change-requires-clause-fits g c b is =
    let here : Some c.in_ok-board.board.now.board ≡ Some b = sym c.in_ok-board.ensures.board ∙ is in
    let same : c.in_ok-board.board.now.board ≡ b = cc in
    subst (Fits c.in_ok-change.change) same c.in_ok-change.ensures.0

pub returns-in_err-change-clause-causes : goal.returns-in_err-change-clause-causes
returns-in_err-change-clause-causes g c shelf =
    let e : BoardHalt = c.in_err-change.field-0.0 in
    let is : c.from_residual-in_err-change.result ≡ Err e = search rules in
    let old : FaultCounts = counts (g.H.Host.disk_faults c.args.host.now) (g.H.Host.voice_faults c.args.host.now) shelf in
    let new : FaultCounts = counts (g.H.Host.disk_faults c.find.new.host) (g.H.Host.voice_faults c.find.new.host) shelf in
    let done : HasCauses old new status.Done = search rules in
    let starved : HasCauses old new status.OutOfMemory = search rules in
    subst (λ (r : Result ℕ BoardHalt). HasCauses old new (ended (told sampled_line r))) (sym is)
    (no_fault sampled_line _ e c.in_err-change.ensures done starved)

pub returns-in_err-find-clause-wrote : goal.returns-in_err-find-clause-wrote
returns-in_err-find-clause-wrote g c tells closed shelf = found_within (samples c.args.seed c.args.count c.args.now) (g.H.Host.disk c.args.host.now) (g.H.Host.disk c.find.new.host) shelf closed (c.find.ensures.wrote tells)

pub returns-in_err-board-clause-wrote : goal.returns-in_err-board-clause-wrote
returns-in_err-board-clause-wrote g c tells closed shelf = found_within (samples c.args.seed c.args.count c.args.now) (g.H.Host.disk c.args.host.now) (g.H.Host.disk c.find.new.host) shelf closed (c.find.ensures.wrote tells)

pub returns-in_err-change-clause-wrote : goal.returns-in_err-change-clause-wrote
returns-in_err-change-clause-wrote g c tells closed shelf = found_within (samples c.args.seed c.args.count c.args.now) (g.H.Host.disk c.args.host.now) (g.H.Host.disk c.find.new.host) shelf closed (c.find.ensures.wrote tells)

pub returns-in_err-make_change-clause-wrote : goal.returns-in_err-make_change-clause-wrote
returns-in_err-make_change-clause-wrote g c tells closed shelf =
    let b : Board = c.in_ok-board.board.now.board in
    sample_within (g.H.Host.disk c.args.host.now) (g.H.Host.disk c.find.new.host) (g.H.Host.disk c.make_change.new.host) shelf closed (c.find.ensures.wrote tells) (kept_board c.find.new.kept) (c.in_ok-find.ensures.state tells) b c.in_ok-board.ensures.board c.in_ok-board.ensures.valid c.args.seed c.args.count c.args.now
    c.in_ok-change.change c.in_ok-change.ensures (c.make_change.ensures.wrote tells b c.in_ok-board.ensures.board)

pub returns-clause-wrote : goal.returns-clause-wrote
returns-clause-wrote g c tells closed shelf =
    let b : Board = c.in_ok-board.board.now.board in
    sample_within (g.H.Host.disk c.args.host.now) (g.H.Host.disk c.find.new.host) (g.H.Host.disk c.make_change.new.host) shelf closed (c.find.ensures.wrote tells) (kept_board c.find.new.kept) (c.in_ok-find.ensures.state tells) b c.in_ok-board.ensures.board c.in_ok-board.ensures.valid c.args.seed c.args.count c.args.now
    c.in_ok-change.change c.in_ok-change.ensures (c.make_change.ensures.wrote tells b c.in_ok-board.ensures.board)

pub returns-in_err-find-clause-wrote_between : goal.returns-in_err-find-clause-wrote_between
returns-in_err-find-clause-wrote_between g c tells closed sound = found_bound (g.H.Host.disk c.args.host.now) closed (g.H.Host.disk c.find.new.host) (c.find.ensures.wrote tells)

pub returns-in_err-board-clause-wrote_between : goal.returns-in_err-board-clause-wrote_between
returns-in_err-board-clause-wrote_between g c tells closed sound = found_bound (g.H.Host.disk c.args.host.now) closed (g.H.Host.disk c.find.new.host) (c.find.ensures.wrote tells)

pub returns-in_err-change-clause-wrote_between : goal.returns-in_err-change-clause-wrote_between
returns-in_err-change-clause-wrote_between g c tells closed sound = found_bound (g.H.Host.disk c.args.host.now) closed (g.H.Host.disk c.find.new.host) (c.find.ensures.wrote tells)

pub returns-in_err-make_change-clause-wrote_between : goal.returns-in_err-make_change-clause-wrote_between
returns-in_err-make_change-clause-wrote_between g c tells closed sound =
    let error = c.in_err-make_change.field-0.0 in
    let is : c.from_residual-in_err-make_change.result ≡ Err (of_journal error) = search rules in
    unmade_bound (g.H.Host.disk c.args.host.now) closed (g.H.Host.disk c.find.new.host) (g.H.Host.disk c.make_change.new.host) error (λ fault. sound (is ∙ ap Err fault)) (λ starved. ap (λ host. (g.H.Host.disk host).wrote) (c.in_err-make_change.ensures.unchanged (ap Err starved))) (c.find.ensures.wrote tells)

pub returns-clause-wrote_between : goal.returns-clause-wrote_between
returns-clause-wrote_between g c tells closed sound =
    let b : Board = c.in_ok-board.board.now.board in
    changed_bound (g.H.Host.disk c.args.host.now) closed (g.H.Host.disk c.find.new.host) (g.H.Host.disk c.make_change.new.host) (c.find.ensures.wrote tells) (kept_board c.find.new.kept) (c.in_ok-find.ensures.state tells) b c.in_ok-board.ensures.board c.in_ok-change.change (c.in_ok-find.ensures.finds tells) (c.in_ok-make_change.ensures.changes tells)
    (posting_keeps c.in_ok-change.change b (g.H.Host.disk c.find.new.host).wrote (g.H.Host.disk c.make_change.new.host).wrote c.in_ok-change.ensures.2 c.in_ok-board.ensures.valid c.in_ok-change.ensures.0 (c.make_change.ensures.wrote tells b c.in_ok-board.ensures.board))
