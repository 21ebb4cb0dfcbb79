use Rattle.std.proofs.Common.{rules, ◌≡◌, ℕ, true≢false, Option, None, Err, refl, sym, ◌∙◌, ap, subst}
use Rattle.std.specs.Prelude.{Result}
use Rattle.std.proofs.lemmas.Result.{on_ok_weaker}
use Rattle.cmd_board.proofs.ChangeLaws.{stores_holds}
use Rattle.cmd_board.proofs.LikeLaws.{none_outlined, real_stored, some_outlined}
use Rattle.cmd_board.proofs.FindLaws.{same_host}
use Rattle.cmd_board.specs.Halts.{told, halt_of_read}
use Rattle.cmd_board.specs.Kept.{AreSure, IsKept, kept_board}
use Rattle.cmd_board.specs.State.{Stores, migrated}
use Rattle.cmd_board.specs.declared.halt.BoardHalt.{BoardHalt}
use Rattle.board_layout.specs.Board.{Board}
use Rattle.door_outside.specs.Disk.{Unchanged}
use Rattle.entry_runs.specs.Entry.{Works}
use Rattle.entry_runs.specs.Promise.{HasCauses, counts, ended}
use Rattle.cmd_board.specs.mail_board.Causes.{HasFault}
use Rattle.cmd_board.specs.mail_board.Held.{RestsOn}
use Rattle.cmd_board.specs.mail_board.declared.loading.Loaded.{Loaded}
use Rattle.shelf_files.specs.declared.refusal.Refusal.TheVariants.{NotMade}
use Rattle.cmd_board.proofs.Exits.{answered, unfound}
use Rattle.cmd_board.specs.Turns.{refuses}
use Rattle.door_export.proofs.ExportAlike.{ack_alike}
use Rattle.door_export.specs.Ack.{ack_of, after_ack}
use Rattle.door_export.specs.declared.acknowledging.AckError.TheVariants.{DiskFault}
use Rattle.cmd_exchange.proofs.AckExits.{works}
use Rattle.cmd_exchange.proofs.Causes.{ack_causes}
use Rattle.cmd_board.proofs.KeptLaws.{once_told}
use Rattle.cmd_exchange.proofs.KeptExports.{ack_kept, ack_sure}
use Rattle.cmd_exchange.specs.Ack.{ack_turn, acknowledged_line, acknowledges}
use Rattle.cmd_exchange.proofs.acknowledging.ack.Goals as goal

pub returns-in_err-find-clause-works : goal.returns-in_err-find-clause-works
returns-in_err-find-clause-works g c tells world shelf at =
    let is : c.from_residual.result ≡ Err (halt_of_read c.in_err-find.field-0.0) = search rules in
    subst (λ (r : Result (Unit {0}) BoardHalt). Works Stores (acknowledges c.args.user.now c.args.packet c.args.now) world (g.H.Host.disk c.args.host.now) (g.H.Host.disk c.find.new.host) shelf (told (λ done. acknowledged_line c.args.packet) r)) (sym is)
    (unfound (λ files board turn. turn ≡ ack_turn c.args.user.now c.args.packet c.args.now board) at (λ (done : Unit {0}). acknowledged_line c.args.packet) c.find.new.kept c.in_err-find.field-0.0
    (c.in_err-find.ensures.finds tells world.state at.board.stores) (c.in_err-find.ensures.state tells world.state at.board.stores))

pub returns-in_err-board-clause-works : goal.returns-in_err-board-clause-works
returns-in_err-board-clause-works g c tells world shelf at =
    let e : BoardHalt = c.in_err-board.field-0.0 in
    let is : c.from_residual-in_err-board.result ≡ Err e = search rules in
    let none = none_outlined (migrated world.state) (kept_board c.find.new.kept) c.in_err-board.ensures.none.1 (c.in_ok-find.ensures.state tells world.state at.board.stores) in
    subst (λ (r : Result (Unit {0}) BoardHalt). Works Stores (acknowledges c.args.user.now c.args.packet c.args.now) world (g.H.Host.disk c.args.host.now) (g.H.Host.disk c.find.new.host) shelf (told (λ done. acknowledged_line c.args.packet) r)) (sym is)
    (subst (λ (halt : BoardHalt). Works Stores (acknowledges c.args.user.now c.args.packet c.args.now) world (g.H.Host.disk c.args.host.now) (g.H.Host.disk c.find.new.host) shelf (told (λ (done : Unit {0}). acknowledged_line c.args.packet) (Err halt))) (sym c.in_err-board.ensures.none.0)
    (answered (λ files board turn. turn ≡ ack_turn c.args.user.now c.args.packet c.args.now board) at {board = None} (c.in_ok-find.ensures.finds tells world.state at.board.stores) none (refuses NotMade None) refl refl))

pub returns-clause-works : goal.returns-clause-works
returns-clause-works g c tells world shelf at =
    let held = c.in_ok-board.board in
    let here : c.find.new.kept ≡ _ = c.in_ok-board.ensures.board in
    let certain = subst AreSure here c.in_ok-find.ensures.sure in
    let disk = g.H.Host.disk c.find.new.host in
    let rests : RestsOn held.board disk = subst (λ (kept : Option Loaded). IsKept kept disk) here (c.in_ok-find.ensures.kept tells) in
    let finds = c.in_ok-find.ensures.finds tells world.state at.board.stores in
    let real = some_outlined (migrated world.state) (kept_board c.find.new.kept) held.board (ap kept_board here) (c.in_ok-find.ensures.state tells world.state at.board.stores) in
    let b : Board = real.board in
    let holds = stores_holds b disk rests.calm (real_stored finds b real.is) in
    let gives = c.acknowledge-acknowledged.ensures in
    subst (λ (r : Result (Unit {0}) BoardHalt). Works Stores (acknowledges c.args.user.now c.args.packet c.args.now) world (g.H.Host.disk c.args.host.now) (g.H.Host.disk c.acknowledge-acknowledged.new.host) shelf (told (λ done. acknowledged_line c.args.packet) r))
    (sym c.answered.ensures)
    (works c.args.user.now c.args.packet c.args.now c.ranges.now.fits b real.valid at finds real.is
    (ack_of c.args.user.now c.args.packet c.args.now b) refl c.acknowledge-acknowledged.result (record {
      moments = gives.moments tells certain.1 b holds;
      now_is = gives.now tells certain.1 b holds;
      settled = gives.settled tells certain.1;
      refused_is = gives.refused ∙ sym (ack_alike b held.board real.alike c.args.user.now c.args.packet c.args.now);
      certain = λ doubt. true≢false (sym (gives.doubt.0 doubt).1 ∙ certain.1);
      same = λ early. subst (λ host. Unchanged (g.H.Host.disk c.find.new.host) (g.H.Host.disk host)) (sym (gives.unchanged early).1) (same_host (g.H.Host.disk c.find.new.host));
      rests = once_told _ c.acknowledge-acknowledged.result (on_ok_weaker c.acknowledge-acknowledged.result (λ next told. next told b holds) gives.next) tells;
    }))

pub returns-clause-kept : goal.returns-clause-kept
returns-clause-kept g c tells =
    let held = c.in_ok-board.board in
    let here : c.find.new.kept ≡ _ = c.in_ok-board.ensures.board in
    let certain = subst AreSure here c.in_ok-find.ensures.sure in
    let rests = subst (λ (kept : Option Loaded). IsKept kept (g.H.Host.disk c.find.new.host)) here (c.in_ok-find.ensures.kept tells) in
    let gives = c.acknowledge-acknowledged.ensures in
    subst (λ (kept : Option Loaded). IsKept kept (g.H.Host.disk c.acknowledge-acknowledged.new.host)) (sym c.keep_board.ensures)
    (ack_kept held c.acknowledge-acknowledged.new.board (after_ack held.board (ack_of c.args.user.now c.args.packet c.args.now held.board)) certain.1 c.acknowledge-acknowledged.result
    (g.H.Host.disk c.acknowledge-acknowledged.new.host) gives.board (once_told _ c.acknowledge-acknowledged.result gives.rests tells) (λ early. (gives.unchanged early).0)
    (λ early. subst (λ host. RestsOn held.board (g.H.Host.disk host)) (sym (gives.unchanged early).1) rests) gives.fault (gives.settled tells certain.1))

pub returns-clause-sure : goal.returns-clause-sure
returns-clause-sure g c =
    let held = c.in_ok-board.board in
    let here : c.find.new.kept ≡ _ = c.in_ok-board.ensures.board in
    let certain = subst AreSure here c.in_ok-find.ensures.sure in
    let gives = c.acknowledge-acknowledged.ensures in
    subst AreSure (sym c.keep_board.ensures)
    (ack_sure held c.acknowledge-acknowledged.new.board (after_ack held.board (ack_of c.args.user.now c.args.packet c.args.now held.board)) certain.1 c.acknowledge-acknowledged.result certain.0
    gives.board (λ early. (gives.unchanged early).0) gives.fault)

pub returns-clause-causes : goal.returns-clause-causes
returns-clause-causes g c shelf =
    let here : c.find.new.kept ≡ _ = c.in_ok-board.ensures.board in
    let certain = subst AreSure here c.in_ok-find.ensures.sure in
    let gives = c.acknowledge-acknowledged.ensures in
    let disk : g.H.Host.disk_faults c.find.new.host ≡ g.H.Host.disk_faults c.args.host.now = search rules in
    let voice : g.H.Host.voice_faults c.find.new.host ≡ g.H.Host.voice_faults c.args.host.now = c.in_ok-find.ensures.voice in
    subst (λ (r : Result (Unit {0}) BoardHalt). HasCauses (counts (g.H.Host.disk_faults c.args.host.now) (g.H.Host.voice_faults c.args.host.now) shelf) (counts (g.H.Host.disk_faults c.acknowledge-acknowledged.new.host) (g.H.Host.voice_faults c.acknowledge-acknowledged.new.host) shelf) (ended (told (λ done. acknowledged_line c.args.packet) r)))
    (sym c.answered.ensures)
    (ack_causes (gives.voice ∙ voice) (λ done. acknowledged_line c.args.packet) c.acknowledge-acknowledged.result
    (subst (λ (before : ℕ). HasFault DiskFault before (g.H.Host.disk_faults c.acknowledge-acknowledged.new.host) c.acknowledge-acknowledged.result) disk gives.disk_cause) refl
    (λ doubt. true≢false (sym (gives.doubt.0 doubt).1 ∙ certain.1)))
