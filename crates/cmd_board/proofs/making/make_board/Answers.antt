use Rattle.std.proofs.Common.{Ok, Err, sym, subst}
use Rattle.mail_board.specs.board_changes.Changed.{made}
use Rattle.board_layout.specs.Layout.{AreEmpty}
use Rattle.intent_journal.specs.declared.recovery.JournalError.TheVariants.{DiskFault, OutOfMemory}
use Rattle.mail_board.specs.Held.{HeldBoard, RestsOn}
use Rattle.cmd_board.specs.State.{NotMade}
use Rattle.cmd_board.proofs.ChangeLaws.{changes_to, own_rests}
use Rattle.cmd_board.proofs.making.make_board.Goals as goal

pub returns-in-Ok-clause-changes : goal.returns-in-Ok-clause-changes
returns-in-Ok-clause-changes g c tells =
    changes_to NotMade AreEmpty (λ files empty. empty) (made c.args.setup c.args.now) c.make.ensures.valid (Ok (tt {0})) (c.make.ensures.moments tells) (c.make.ensures.now tells) (c.make.ensures.settled tells)
    (c.in-Ok.ensures.rests tells)

pub returns-in-Err-OutOfMemory-clause-changes : goal.returns-in-Err-OutOfMemory-clause-changes
returns-in-Err-OutOfMemory-clause-changes g c tells =
    changes_to NotMade AreEmpty (λ files empty. empty) (made c.args.setup c.args.now) c.make.ensures.valid (Err OutOfMemory) (c.make.ensures.moments tells) (c.make.ensures.now tells) (c.make.ensures.settled tells) tt

pub returns-in-Err-DiskFault-clause-changes : goal.returns-in-Err-DiskFault-clause-changes
returns-in-Err-DiskFault-clause-changes g c tells =
    changes_to NotMade AreEmpty (λ files empty. empty) (made c.args.setup c.args.now) c.make.ensures.valid (Err DiskFault) (c.make.ensures.moments tells) (c.make.ensures.now tells) (c.make.ensures.settled tells) tt

pub returns-in-Ok-clause-kept : goal.returns-in-Ok-clause-kept
returns-in-Ok-clause-kept g c tells =
    let b = made c.args.setup c.args.now in
    let disk = g.H.Host.disk c.make.new.host in
    subst (λ (held : HeldBoard). RestsOn held.board disk) (sym c.in-Ok.ensures.board) (own_rests b disk c.make.ensures.valid (c.in-Ok.ensures.rests tells))
