use Rattle.std.proofs.Common.{◌∙◌, ap, sym}
use Rattle.door_outside.specs.Disk.{Image}
use Rattle.intent_journal.proofs.Syncing.{none_synced}
use Rattle.intent_journal.proofs.carrying.sync_once.Goals as goal

pub returns-then-is_durable-clause-only : goal.returns-then-is_durable-clause-only
returns-then-is_durable-clause-only g c = λ tells. none_synced (g.H.Host.disk c.args.host.now)

pub returns-in_err-sync-clause-only : goal.returns-in_err-sync-clause-only
returns-in_err-sync-clause-only g c = λ tells. record { call = c.sync.ensures.crash tells; same = c.sync.ensures.same tells; wrote = c.sync.ensures.wrote tells }

pub returns-clause-only : goal.returns-clause-only
returns-clause-only g c = λ tells. record { call = c.sync.ensures.crash tells; same = c.sync.ensures.same tells; wrote = c.sync.ensures.wrote tells }

pub returns-clause-durable : goal.returns-clause-durable
returns-clause-durable g c = λ tells flag image left.
    c.in_ok-sync.ensures.durable tells image left ∙ sym (ap (λ (i : Image). i.files c.args.file) (c.sync.ensures.same tells))
