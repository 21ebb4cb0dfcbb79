use Rattle.std.proofs.Common.{refl}
use Rattle.cmd_messages.proofs.KillLaws.{misfit_has}
use Rattle.cmd_messages.proofs.killing.prepared.Goals as goal

pub returns-then-not-fits-clause-change : goal.returns-then-not-fits-clause-change
returns-then-not-fits-clause-change c = (refl, misfit_has c.args.board.now.board c.args.place c.args.number c.fits.result c.requires c.fits.ensures c.if-not-fits.true)
