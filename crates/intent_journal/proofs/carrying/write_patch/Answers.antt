use Rattle.std.proofs.Common.{sym, subst}
use Rattle.std.specs.Prelude.{Bool}
use Rattle.door_outside.specs.Disk.{Passes, InFile}
use Rattle.intent_journal.specs.Journal.{patch_by}
use Rattle.intent_journal.specs.Steps.{Partly}
use Rattle.intent_journal.proofs.carrying.write_patch.Goals as goal

pub returns-else-head-clause-crash : goal.returns-else-head-clause-crash
returns-else-head-clause-crash g c = λ tells.
    subst
    (λ (w : Bool). Passes (InFile c.args.head.file (Partly (patch_by w c.args.head.file c.args.head.at c.args.bytes.now))) (InFile c.args.head.file (Partly (patch_by w c.args.head.file c.args.head.at c.args.bytes.now))) (g.H.Host.disk c.args.host.now) (g.H.Host.disk c.write_at.new.self))
    (sym c.if-head.false) (c.write_at.ensures.crash tells)
