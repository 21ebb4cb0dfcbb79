use Rattle.std.proofs.Common.{◌≡◌, Option, Some, Ok, Err, sym, ◌∙◌, ap, subst}
use Rattle.board_layout.specs.Board.{Board}
use Rattle.intent_journal.specs.declared.recovery.JournalError.TheVariants.{DiskFault, OutOfMemory}
use Rattle.mail_board.proofs.OneHost.{alike_held}
use Rattle.mail_board.specs.Held.{RestsOn}
use Rattle.mail_board.specs.Written.{WritesFew}
use Rattle.mail_board.specs.declared.loading.Loaded.{Loaded}
use Rattle.mail_board.specs.declared.loading.Loaded.TheVariants.{Ready}
use Rattle.cmd_board.specs.Kept.{AreSure, IsKept, kept_board}
use Rattle.cmd_board.proofs.ChangeLaws.{change_changes, kept_same, stores_holds}
use Rattle.cmd_board.proofs.making.make_change.Goals as goal

pub returns-in-Ok-clause-changes : goal.returns-in-Ok-clause-changes
returns-in-Ok-clause-changes g c tells b stores =
    let disk = g.H.Host.disk c.args.host.now in
    let here : Some (Ready c.in-Some-Ready.board) ≡ c.args.kept.now = ap Some (sym c.in-Some-Ready.field-0-is) ∙ c.in-Some-Ready.ensures.value in
    let sure = subst AreSure (sym here) c.requires.sure in
    let board = c.in-Some-Ready.board.board in
    let rests : RestsOn board disk = subst (λ (kept : Option Loaded). IsKept kept disk) (sym here) (c.requires.kept tells) in
    let holds = stores_holds b disk rests.calm stores in
    change_changes c.args.change.now board b (alike_held board disk rests b holds) stores.0 sure.0 (c.requires.fits board (ap kept_board (sym here))) (Ok (tt {0}))
    (c.change.ensures.moments tells sure.1 b holds) (c.change.ensures.now tells sure.1 b holds) (c.change.ensures.settled tells sure.1) (c.in-Ok.ensures.next tells b holds)

pub returns-in-Err-DiskFault-clause-changes : goal.returns-in-Err-DiskFault-clause-changes
returns-in-Err-DiskFault-clause-changes g c tells b stores =
    let disk = g.H.Host.disk c.args.host.now in
    let here : Some (Ready c.in-Some-Ready.board) ≡ c.args.kept.now = ap Some (sym c.in-Some-Ready.field-0-is) ∙ c.in-Some-Ready.ensures.value in
    let sure = subst AreSure (sym here) c.requires.sure in
    let board = c.in-Some-Ready.board.board in
    let rests : RestsOn board disk = subst (λ (kept : Option Loaded). IsKept kept disk) (sym here) (c.requires.kept tells) in
    let holds = stores_holds b disk rests.calm stores in
    change_changes c.args.change.now board b (alike_held board disk rests b holds) stores.0 sure.0 (c.requires.fits board (ap kept_board (sym here))) (Err DiskFault)
    (c.change.ensures.moments tells sure.1 b holds) (c.change.ensures.now tells sure.1 b holds) (c.change.ensures.settled tells sure.1) tt

pub returns-in-Err-OutOfMemory-clause-changes : goal.returns-in-Err-OutOfMemory-clause-changes
returns-in-Err-OutOfMemory-clause-changes g c tells b stores =
    let disk = g.H.Host.disk c.args.host.now in
    let here : Some (Ready c.in-Some-Ready.board) ≡ c.args.kept.now = ap Some (sym c.in-Some-Ready.field-0-is) ∙ c.in-Some-Ready.ensures.value in
    let sure = subst AreSure (sym here) c.requires.sure in
    let board = c.in-Some-Ready.board.board in
    let rests : RestsOn board disk = subst (λ (kept : Option Loaded). IsKept kept disk) (sym here) (c.requires.kept tells) in
    let holds = stores_holds b disk rests.calm stores in
    change_changes c.args.change.now board b (alike_held board disk rests b holds) stores.0 sure.0 (c.requires.fits board (ap kept_board (sym here))) (Err OutOfMemory)
    (c.change.ensures.moments tells sure.1 b holds) (c.change.ensures.now tells sure.1 b holds) (c.change.ensures.settled tells sure.1) tt

pub returns-in-Ok-clause-sure : goal.returns-in-Ok-clause-sure
returns-in-Ok-clause-sure g c = (c.in-Ok.ensures.board.valid, c.in-Ok.ensures.board.sure)

pub returns-in-Ok-clause-wrote : goal.returns-in-Ok-clause-wrote
returns-in-Ok-clause-wrote g c tells b is =
    let here : Some (Ready c.in-Some-Ready.board) ≡ c.args.kept.now = ap Some (sym c.in-Some-Ready.field-0-is) ∙ c.in-Some-Ready.ensures.value in
    subst (λ (stored : Board). WritesFew c.args.change.now stored (g.H.Host.disk c.args.host.now).wrote (g.H.Host.disk c.change.new.host).wrote)
    (kept_same c.args.kept.now c.in-Some-Ready.board b here is) (c.change.ensures.wrote tells)

pub returns-in-Err-DiskFault-clause-wrote : goal.returns-in-Err-DiskFault-clause-wrote
returns-in-Err-DiskFault-clause-wrote g c tells b is =
    let here : Some (Ready c.in-Some-Ready.board) ≡ c.args.kept.now = ap Some (sym c.in-Some-Ready.field-0-is) ∙ c.in-Some-Ready.ensures.value in
    subst (λ (stored : Board). WritesFew c.args.change.now stored (g.H.Host.disk c.args.host.now).wrote (g.H.Host.disk c.change.new.host).wrote)
    (kept_same c.args.kept.now c.in-Some-Ready.board b here is) (c.change.ensures.wrote tells)

pub returns-in-Err-OutOfMemory-clause-wrote : goal.returns-in-Err-OutOfMemory-clause-wrote
returns-in-Err-OutOfMemory-clause-wrote g c tells b is =
    let here : Some (Ready c.in-Some-Ready.board) ≡ c.args.kept.now = ap Some (sym c.in-Some-Ready.field-0-is) ∙ c.in-Some-Ready.ensures.value in
    subst (λ (stored : Board). WritesFew c.args.change.now stored (g.H.Host.disk c.args.host.now).wrote (g.H.Host.disk c.change.new.host).wrote)
    (kept_same c.args.kept.now c.in-Some-Ready.board b here is) (c.change.ensures.wrote tells)
