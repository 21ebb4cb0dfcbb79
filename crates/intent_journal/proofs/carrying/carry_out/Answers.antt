use Rattle.door_outside.proofs.Moments.{by_sync, joined, now_same}
use Rattle.intent_journal.specs.Journal.{spelled}
use Rattle.intent_journal.proofs.Syncing.{all_durable}
use Rattle.intent_journal.proofs.carrying.carry_out.Goals as goal

pub returns-in_err-sync_files-clause-moments : goal.returns-in_err-sync_files-clause-moments
returns-in_err-sync_files-clause-moments g c = λ tells. joined (c.write_patches.ensures.moments tells) (by_sync (c.sync_files.ensures.only tells).call)

pub returns-in_err-sync_files-clause-now : goal.returns-in_err-sync_files-clause-now
returns-in_err-sync_files-clause-now g c = λ tells. now_same (c.sync_files.ensures.only tells).call (c.write_patches.ensures.now tells)

pub returns-clause-moments : goal.returns-clause-moments
returns-clause-moments g c = λ tells. joined (c.write_patches.ensures.moments tells) (by_sync (c.sync_files.ensures.only tells).call)

pub returns-clause-now : goal.returns-clause-now
returns-clause-now g c = λ tells. now_same (c.sync_files.ensures.only tells).call (c.write_patches.ensures.now tells)

pub returns-clause-ok : goal.returns-clause-ok
returns-clause-ok g c = λ tells.
    all_durable (spelled c.args.count c.args.text.now) (g.H.Host.disk c.args.host.now) (g.H.Host.disk c.write_patches.new.host) (g.H.Host.disk c.sync_files.new.host) (c.write_patches.ensures.now tells) (c.in_ok-write_patches.ensures.done tells) (c.sync_files.ensures.only tells) (c.in_ok-sync_files.ensures.durable tells)
