use Rattle.intent_journal.proofs.Staging.{body_moments, body_now, staged}
use Rattle.intent_journal.proofs.committing.stage.Goals as goal

pub returns-in_err-write_body-clause-moments : goal.returns-in_err-write_body-clause-moments
returns-in_err-write_body-clause-moments g c = λ tells.
    body_moments (g.H.Host.disk c.args.host.now) (g.H.Host.disk c.shut.new.host) (g.H.Host.disk c.write_body.new.host) (c.shut.ensures.moments tells) (c.shut.ensures.now tells) (c.in_ok-shut.ensures.ok tells) (c.write_body.ensures.crash tells)

pub returns-in_err-write_body-clause-now : goal.returns-in_err-write_body-clause-now
returns-in_err-write_body-clause-now g c = λ tells.
    body_now (g.H.Host.disk c.args.host.now) (g.H.Host.disk c.shut.new.host) (g.H.Host.disk c.write_body.new.host) (c.shut.ensures.moments tells) (c.shut.ensures.now tells) (c.in_ok-shut.ensures.ok tells) (c.write_body.ensures.crash tells)

pub returns-clause-moments : goal.returns-clause-moments
returns-clause-moments g c = λ tells.
    body_moments (g.H.Host.disk c.args.host.now) (g.H.Host.disk c.shut.new.host) (g.H.Host.disk c.write_body.new.host) (c.shut.ensures.moments tells) (c.shut.ensures.now tells) (c.in_ok-shut.ensures.ok tells) (c.write_body.ensures.crash tells)

pub returns-clause-now : goal.returns-clause-now
returns-clause-now g c = λ tells.
    body_now (g.H.Host.disk c.args.host.now) (g.H.Host.disk c.shut.new.host) (g.H.Host.disk c.write_body.new.host) (c.shut.ensures.moments tells) (c.shut.ensures.now tells) (c.in_ok-shut.ensures.ok tells) (c.write_body.ensures.crash tells)

pub returns-clause-ok : goal.returns-clause-ok
returns-clause-ok g c = λ tells.
    staged (g.H.Host.disk c.args.host.now) (g.H.Host.disk c.shut.new.host) (g.H.Host.disk c.write_body.new.host) (c.shut.ensures.moments tells) (c.shut.ensures.now tells) (c.in_ok-shut.ensures.ok tells) (c.write_body.ensures.crash tells) c.args.count c.args.text.now
    (c.in_ok-write_body.ensures.done tells) (c.in_ok-write_body.ensures.kept tells)
