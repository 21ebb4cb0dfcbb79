use Rattle.std.proofs.Common.{rules, ◌≡◌, ℕ, inl, inr, true≢false, Option, Some, None, Err, refl, sym, ◌∙◌, ap, subst}
use Rattle.std.specs.Prelude.{Result}
use Rattle.cmd_board.proofs.ChangeLaws.{stores_holds}
use Rattle.cmd_board.proofs.KeepingLaws.{keeps_as, read_sound, refused_as, unfound_keeps}
use Rattle.cmd_board.proofs.LikeLaws.{none_outlined, real_stored, some_outlined}
use Rattle.cmd_board.specs.Halts.{told, halt_of_read}
use Rattle.cmd_board.specs.Kept.{AreSure, IsKept, kept_board}
use Rattle.cmd_board.specs.State.{Stores, migrated}
use Rattle.cmd_board.specs.declared.halt.BoardHalt.{BoardHalt}
use Rattle.board_layout.specs.Board.{Board}
use Rattle.entry_runs.specs.Entry.{Works}
use Rattle.entry_runs.specs.Promise.{HasCauses, counts, ended}
use Rattle.cmd_board.specs.mail_board.Causes.{HasFault}
use Rattle.cmd_board.specs.mail_board.Held.{RestsOn}
use Rattle.cmd_board.specs.mail_board.declared.loading.Loaded.{Loaded}
use Rattle.cmd_board.specs.mail_board.declared.loading.Loaded.TheVariants.{Ready}
use Rattle.shelf_files.specs.declared.refusal.Refusal.TheVariants.{NotMade}
use Rattle.door_export.proofs.ExportAlike.{answer_alike, refused_alike}
use Rattle.door_export.specs.Export.{after_export, export_of}
use Rattle.door_export.specs.Folder.{folder_names}
use Rattle.door_export.specs.declared.exporting.ExportError.TheVariants.{DiskFault}
use Rattle.door_export.specs.declared.exporting.Exported.{Exported}
use Rattle.cmd_exchange.proofs.Causes.{export_causes}
use Rattle.cmd_exchange.proofs.ExportExits.{works}
use Rattle.cmd_exchange.proofs.HandingExits.{answered, unfound}
use Rattle.cmd_exchange.proofs.KeptExports.{answered_alike, export_keeps, export_kept, export_sure}
use Rattle.cmd_exchange.specs.Export.{export_handing, exports, packet_line}
use Rattle.cmd_exchange.specs.Handing.{refused_handing}
use Rattle.cmd_exchange.proofs.exporting.export.Goals as goal

pub returns-in_err-find-clause-works : goal.returns-in_err-find-clause-works
returns-in_err-find-clause-works g c tells shelf_tells world at =
    let is : c.from_residual.result ≡ Err (halt_of_read c.in_err-find.field-0.0) = search rules in
    subst (λ (r : Result Exported BoardHalt). Works Stores (exports c.args.user.now c.args.limit c.args.folder.now c.args.now) world (g.H.Host.disk c.args.host.now) (g.H.Host.disk c.find.new.host) (g.S.Shelf.files c.args.shelf.now) (told packet_line r)) (sym is)
    (unfound (folder_names c.args.folder.now) (λ files board h. h ≡ export_handing c.args.user.now c.args.limit c.args.folder.now c.args.now files board) at packet_line c.find.new.kept c.in_err-find.field-0.0
    (c.in_err-find.ensures.finds tells world.state at.board.stores) (c.in_err-find.ensures.state tells world.state at.board.stores))

pub returns-in_err-board-clause-works : goal.returns-in_err-board-clause-works
returns-in_err-board-clause-works g c tells shelf_tells world at =
    let e : BoardHalt = c.in_err-board.field-0.0 in
    let is : c.from_residual-in_err-board.result ≡ Err e = search rules in
    let none = none_outlined (migrated world.state) (kept_board c.find.new.kept) c.in_err-board.ensures.none.1 (c.in_ok-find.ensures.state tells world.state at.board.stores) in
    subst (λ (r : Result Exported BoardHalt). Works Stores (exports c.args.user.now c.args.limit c.args.folder.now c.args.now) world (g.H.Host.disk c.args.host.now) (g.H.Host.disk c.find.new.host) (g.S.Shelf.files c.args.shelf.now) (told packet_line r)) (sym is)
    (subst (λ (halt : BoardHalt). Works Stores (exports c.args.user.now c.args.limit c.args.folder.now c.args.now) world (g.H.Host.disk c.args.host.now) (g.H.Host.disk c.find.new.host) (g.S.Shelf.files c.args.shelf.now) (told packet_line (Err halt))) (sym c.in_err-board.ensures.none.0)
    (answered (folder_names c.args.folder.now) (λ files board h. h ≡ export_handing c.args.user.now c.args.limit c.args.folder.now c.args.now files board) at {board = None} (c.in_ok-find.ensures.finds tells world.state at.board.stores) none (refused_handing NotMade world.shelf None) refl refl refl))

pub returns-clause-works : goal.returns-clause-works
returns-clause-works g c tells shelf_tells world at =
    let held = c.in_ok-board.board in
    let here : c.find.new.kept ≡ _ = c.in_ok-board.ensures.board in
    let certain = subst AreSure here c.in_ok-find.ensures.sure in
    let disk = g.H.Host.disk c.find.new.host in
    let rests : RestsOn held.board disk = subst (λ (kept : Option Loaded). IsKept kept disk) here (c.in_ok-find.ensures.kept tells) in
    let finds = c.in_ok-find.ensures.finds tells world.state at.board.stores in
    let real = some_outlined (migrated world.state) (kept_board c.find.new.kept) held.board (ap kept_board here) (c.in_ok-find.ensures.state tells world.state at.board.stores) in
    let b : Board = real.board in
    let holds = stores_holds b disk rests.calm (real_stored finds b real.is) in
    let gives = c.export-exported.ensures in
    subst (λ (r : Result Exported BoardHalt). Works Stores (exports c.args.user.now c.args.limit c.args.folder.now c.args.now) world (g.H.Host.disk c.args.host.now) (g.H.Host.disk c.export-exported.new.host) (g.S.Shelf.files c.export-exported.new.shelf) (told packet_line r))
    (sym c.answered.ensures)
    (works c.args.user.now c.args.limit c.args.folder.now c.args.now b real.valid at finds real.is
    (export_of c.args.user.now c.args.limit c.args.now b) refl c.export-exported.result (record {
      moments = gives.moments tells certain.1 b holds;
      now_is = gives.now tells certain.1 b holds;
      settled = gives.settled tells certain.1;
      refused_is = gives.refused ∙ sym (refused_alike b held.board real.alike c.args.limit c.args.now c.args.user.now);
      certain = λ doubt. true≢false (sym (gives.doubt.0 doubt).1 ∙ certain.1);
      undamaged = gives.undamaged tells;
      same = λ early. let left = gives.unchanged early in (left.0.disk tells, ap (λ shelf. g.S.Shelf.files shelf) left.1);
      answer = answered_alike _ _ Some c.export-exported.result (answer_alike b held.board real.alike c.args.limit c.args.now c.args.user.now) gives.answer;
      files = gives.files shelf_tells tells b holds;
      others = gives.others shelf_tells;
      fault = λ is. ap (λ shelf. g.S.Shelf.files shelf) (gives.fault is).1;
      rests = λ kept. gives.next kept tells b holds;
    }))

pub returns-clause-kept : goal.returns-clause-kept
returns-clause-kept g c tells =
    let here : c.find.new.kept ≡ _ = c.in_ok-board.ensures.board in
    let certain = subst AreSure here c.in_ok-find.ensures.sure in
    let gives = c.export-exported.ensures in
    subst (λ (kept : Option Loaded). IsKept kept (g.H.Host.disk c.export-exported.new.host)) (sym c.keep_board.ensures)
    (export_kept c.export-exported.new.board (g.H.Host.disk c.export-exported.new.host) (gives.rests tells certain.1) (gives.settled tells certain.1))

pub returns-clause-sure : goal.returns-clause-sure
returns-clause-sure g c =
    let held = c.in_ok-board.board in
    let here : c.find.new.kept ≡ _ = c.in_ok-board.ensures.board in
    let certain = subst AreSure here c.in_ok-find.ensures.sure in
    let gives = c.export-exported.ensures in
    subst AreSure (sym c.keep_board.ensures)
    (export_sure held c.export-exported.new.board (after_export held.board (export_of c.args.user.now c.args.limit c.args.now held.board)) certain.1 c.export-exported.result certain.0
    gives.board (λ early. (gives.unchanged early).0.board) (λ is. elim (gives.fault is).0 [ inl left ↦ inl left.board | inr doubted ↦ inr doubted ]))

pub returns-clause-causes : goal.returns-clause-causes
returns-clause-causes g c =
    let here : c.find.new.kept ≡ _ = c.in_ok-board.ensures.board in
    let certain = subst AreSure here c.in_ok-find.ensures.sure in
    let gives = c.export-exported.ensures in
    let disk : g.H.Host.disk_faults c.find.new.host ≡ g.H.Host.disk_faults c.args.host.now = search rules in
    let voice : g.H.Host.voice_faults c.find.new.host ≡ g.H.Host.voice_faults c.args.host.now = c.in_ok-find.ensures.voice in
    subst (λ (r : Result Exported BoardHalt). HasCauses (counts (g.H.Host.disk_faults c.args.host.now) (g.H.Host.voice_faults c.args.host.now) (g.S.Shelf.faults c.args.shelf.now)) (counts (g.H.Host.disk_faults c.export-exported.new.host) (g.H.Host.voice_faults c.export-exported.new.host) (g.S.Shelf.faults c.export-exported.new.shelf)) (ended (told packet_line r)))
    (sym c.answered.ensures)
    (export_causes (gives.voice ∙ voice) packet_line c.export-exported.result
    (subst (λ (before : ℕ). HasFault DiskFault before (g.H.Host.disk_faults c.export-exported.new.host) c.export-exported.result) disk gives.disk_cause) gives.shelf_cause
    (λ doubt. true≢false (sym (gives.doubt.0 doubt).1 ∙ certain.1)))

pub returns-in_err-find-clause-keeps : goal.returns-in_err-find-clause-keeps
returns-in_err-find-clause-keeps g c tells =
    let is : c.from_residual.result ≡ Err (halt_of_read c.in_err-find.field-0.0) = search rules in
    keeps_as is (unfound_keeps c.find.new.kept c.in_err-find.field-0.0 (c.in_err-find.ensures.finds tells) (c.in_err-find.ensures.state tells))

pub returns-in_err-board-clause-keeps : goal.returns-in_err-board-clause-keeps
returns-in_err-board-clause-keeps g c tells =
    let is : c.from_residual-in_err-board.result ≡ Err c.in_err-board.field-0.0 = search rules in
    keeps_as is (refused_as c.in_err-board.field-0.0 NotMade c.in_err-board.ensures.none.0 (read_sound c.find.new.kept (g.H.Host.disk c.find.new.host) c.in_ok-find.ensures.read (c.in_ok-find.ensures.kept tells)))

pub returns-clause-keeps : goal.returns-clause-keeps
returns-clause-keeps g c tells =
    let held = c.in_ok-board.board in
    let here : c.find.new.kept ≡ _ = c.in_ok-board.ensures.board in
    let certain = subst AreSure here c.in_ok-find.ensures.sure in
    let after = c.export-exported.new.board in
    let gives = c.export-exported.ensures in
    keeps_as c.answered.ensures
    (export_keeps held after (after_export held.board (export_of c.args.user.now c.args.limit c.args.now held.board)) certain.1 c.export-exported.result gives.board (λ early. (gives.unchanged early).0.board) (gives.undamaged tells)
    (λ sure. read_sound (Some (Ready after)) (g.H.Host.disk c.export-exported.new.host) tt (gives.rests tells certain.1 sure)))
