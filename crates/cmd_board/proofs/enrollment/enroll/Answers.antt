use Rattle.std.proofs.Common.{rules, ◌≡◌, Some, None, Err, sym, ◌∙◌, ap, subst}
use Rattle.std.specs.Prelude.{Result}
use Rattle.door_outside.specs.Disk.{Unchanged}
use Rattle.entry_runs.specs.Entry.{Works}
use Rattle.entry_runs.specs.Promise.{FaultCounts, HasCauses, counts, ended}
use Rattle.entry_runs.specs.declared.status.Status.TheVariants as status
use Rattle.mail_board.specs.Changes.{Fits}
use Rattle.cmd_board.specs.Enroll.{Enrolls, enrolled_line, enrolls}
use Rattle.cmd_board.specs.Halts.{told, halt_of_read, of_journal}
use Rattle.cmd_board.specs.Kept.{kept_board}
use Rattle.cmd_board.specs.State.{Stores}
use Rattle.cmd_board.specs.declared.enrollment.Enrolled.{Enrolled}
use Rattle.cmd_board.specs.declared.halt.BoardHalt.{BoardHalt}
use Rattle.cmd_board.proofs.CauseLaws.{no_fault}
use Rattle.cmd_board.proofs.EnrollExits.{enrolled, unenrolled, unprepared}
use Rattle.cmd_board.proofs.Exits.{unfound}
use Rattle.cmd_board.proofs.FindLaws.{same_host}
use Rattle.cmd_board.proofs.LikeLaws.{own_like}
use Rattle.cmd_board.proofs.enrollment.enroll.Goals as goal

pub returns-in_err-find-clause-works : goal.returns-in_err-find-clause-works
returns-in_err-find-clause-works g c tells world shelf at =
    let is : c.from_residual.result ≡ Err (halt_of_read c.in_err-find.field-0.0) = search rules in
    subst (λ (r : Result Enrolled BoardHalt). Works Stores (enrolls c.args.name.now c.args.flags.now c.args.conferences.now) world (g.H.Host.disk c.args.host.now) (g.H.Host.disk c.find.new.host) shelf (told enrolled_line r)) (sym is)
    (unfound (λ files. Enrolls c.args.name.now c.args.flags.now c.args.conferences.now) at enrolled_line c.find.new.kept c.in_err-find.field-0.0
    (c.in_err-find.ensures.finds tells world.state at.board.stores) (c.in_err-find.ensures.state tells world.state at.board.stores))

pub returns-in_err-enrolling-clause-works : goal.returns-in_err-enrolling-clause-works
returns-in_err-enrolling-clause-works g c tells world shelf at =
    let is : c.from_residual-in_err-enrolling.result ≡ Err c.in_err-enrolling.field-0.0 = search rules in
    let found = c.in_ok-find.ensures.state tells world.state at.board.stores in
    subst (λ (r : Result Enrolled BoardHalt). Works Stores (enrolls c.args.name.now c.args.flags.now c.args.conferences.now) world (g.H.Host.disk c.args.host.now) (g.H.Host.disk c.find.new.host) shelf (told enrolled_line r)) (sym is)
    (unprepared c.args.name.now c.args.flags.now c.args.conferences.now at found.0 (c.in_ok-find.ensures.finds tells world.state at.board.stores) found.1
    c.in_err-enrolling.field-0.0 (c.in_err-enrolling.ensures found.0 found.2))

pub returns-in_err-enrolling-clause-causes : goal.returns-in_err-enrolling-clause-causes
returns-in_err-enrolling-clause-causes g c shelf =
    let e : BoardHalt = c.in_err-enrolling.field-0.0 in
    let is : c.from_residual-in_err-enrolling.result ≡ Err e = search rules in
    let old : FaultCounts = counts (g.H.Host.disk_faults c.args.host.now) (g.H.Host.voice_faults c.args.host.now) shelf in
    let new : FaultCounts = counts (g.H.Host.disk_faults c.find.new.host) (g.H.Host.voice_faults c.find.new.host) shelf in
    let done : HasCauses old new status.Done = search rules in
    let starved : HasCauses old new status.OutOfMemory = search rules in
    let may = c.in_err-enrolling.ensures (kept_board c.find.new.kept) (own_like c.find.new.kept c.find.ensures.sure) in
    subst (λ (r : Result Enrolled BoardHalt). HasCauses old new (ended (told enrolled_line r))) (sym is)
    (no_fault enrolled_line _ e may done starved)

pub make_change-requires-clause-board : goal.make_change-requires-clause-board
make_change-requires-clause-board g c none =
    let may = c.in_ok-enrolling.ensures (kept_board c.find.new.kept) (own_like c.find.new.kept c.find.ensures.sure) in
    let never : None ≡ Some may.0 = sym none ∙ may.1 in
    absurd (cc never)

pub make_change-requires-clause-fits : goal.make_change-requires-clause-fits
make_change-requires-clause-fits g c b is =
    let may = c.in_ok-enrolling.ensures (kept_board c.find.new.kept) (own_like c.find.new.kept c.find.ensures.sure) in
    let here : Some may.0 ≡ Some b = sym may.1 ∙ is in
    let same : may.0 ≡ b = cc in
    subst (Fits c.in_ok-enrolling.enrolling.change) same may.2

pub returns-in_err-make_change-clause-works : goal.returns-in_err-make_change-clause-works
returns-in_err-make_change-clause-works g c tells world shelf at =
    let error = c.in_err-make_change.field-0.0 in
    let is : c.from_residual-in_err-make_change.result ≡ Err (of_journal error) = search rules in
    let found = c.in_ok-find.ensures.state tells world.state at.board.stores in
    subst (λ (r : Result Enrolled BoardHalt). Works Stores (enrolls c.args.name.now c.args.flags.now c.args.conferences.now) world (g.H.Host.disk c.args.host.now) (g.H.Host.disk c.make_change.new.host) shelf (told enrolled_line r)) (sym is)
    (unenrolled c.args.name.now c.args.flags.now c.args.conferences.now at found.0 (c.in_ok-find.ensures.finds tells world.state at.board.stores) found.1
    c.in_ok-enrolling.enrolling (c.in_ok-enrolling.ensures found.0 found.2) error (c.in_err-make_change.ensures.changes tells)
    (λ starved. subst (λ host. Unchanged (g.H.Host.disk c.find.new.host) (g.H.Host.disk host)) (sym (c.in_err-make_change.ensures.unchanged (ap Err starved))) (same_host (g.H.Host.disk c.find.new.host))))

pub returns-clause-works : goal.returns-clause-works
returns-clause-works g c tells world shelf at =
    let found = c.in_ok-find.ensures.state tells world.state at.board.stores in
    enrolled c.args.name.now c.args.flags.now c.args.conferences.now at found.0 (c.in_ok-find.ensures.finds tells world.state at.board.stores) found.1
    c.in_ok-enrolling.enrolling (c.in_ok-enrolling.ensures found.0 found.2) (c.in_ok-make_change.ensures.changes tells)
