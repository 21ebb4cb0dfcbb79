use Rattle.std.proofs.Common.{ap, ◌∙◌}
use Rattle.mail_board.proofs.MigrationLaws.{ledger_patches, migrates_moments, migrates_now, migrates_rests}
use Rattle.mail_board.proofs.migrating.write_ledger.Goals as goal

pub returns-in_err-commit-clause-moments : goal.returns-in_err-commit-clause-moments
returns-in_err-commit-clause-moments g c = λ tells.
    migrates_moments c.args.board.now (g.H.Host.disk c.args.host.now) (c.requires.calm tells) (c.requires.stands tells)
    c.in_ok-intent.intent (c.in_ok-intent.ensures ∙ ap ledger_patches c.ledger.ensures.ledger) (g.H.Host.disk c.commit.new.host) (c.commit.ensures.moments tells)

pub returns-in_err-commit-clause-now : goal.returns-in_err-commit-clause-now
returns-in_err-commit-clause-now g c = λ tells.
    migrates_now c.args.board.now (g.H.Host.disk c.args.host.now) (c.requires.calm tells) (c.requires.stands tells)
    c.in_ok-intent.intent (c.in_ok-intent.ensures ∙ ap ledger_patches c.ledger.ensures.ledger) (g.H.Host.disk c.commit.new.host) (c.commit.ensures.now tells)

pub returns-clause-moments : goal.returns-clause-moments
returns-clause-moments g c = λ tells.
    migrates_moments c.args.board.now (g.H.Host.disk c.args.host.now) (c.requires.calm tells) (c.requires.stands tells)
    c.in_ok-intent.intent (c.in_ok-intent.ensures ∙ ap ledger_patches c.ledger.ensures.ledger) (g.H.Host.disk c.commit.new.host) (c.commit.ensures.moments tells)

pub returns-clause-now : goal.returns-clause-now
returns-clause-now g c = λ tells.
    migrates_now c.args.board.now (g.H.Host.disk c.args.host.now) (c.requires.calm tells) (c.requires.stands tells)
    c.in_ok-intent.intent (c.in_ok-intent.ensures ∙ ap ledger_patches c.ledger.ensures.ledger) (g.H.Host.disk c.commit.new.host) (c.commit.ensures.now tells)

pub returns-clause-rests : goal.returns-clause-rests
returns-clause-rests g c = λ tells.
    migrates_rests c.args.board.now (g.H.Host.disk c.args.host.now) (c.requires.calm tells) (c.requires.stands tells)
    c.in_ok-intent.intent (c.in_ok-intent.ensures ∙ ap ledger_patches c.ledger.ensures.ledger) (g.H.Host.disk c.commit.new.host) (c.in_ok-commit.ensures.calm tells) (c.in_ok-commit.ensures.done tells)
