use Rattle.post_changes.specs.board_changes.Changed.{made}
use Rattle.board_layout.specs.Layout.{AreEmpty}
use Rattle.mail_board.proofs.CommitLaws.{calm_now, commit_moments, commit_now, commit_rests}
use Rattle.mail_board.proofs.DataLaws.{empty_moves}
use Rattle.mail_board.proofs.board.Board.make.Goals as goal

pub returns-in_err-new-clause-now : goal.returns-in_err-new-clause-now
returns-in_err-new-clause-now g c = λ told. calm_now AreEmpty empty_moves (made c.args.setup c.args.created) (g.H.Host.disk c.args.host.now) (c.requires.calm told) (c.requires.empty told)

pub returns-in_err-commit-clause-moments : goal.returns-in_err-commit-clause-moments
returns-in_err-commit-clause-moments g c = λ told.
    commit_moments AreEmpty empty_moves (made c.args.setup c.args.created) c.in_ok-new.new.intent c.in_ok-new.ensures.leads (g.H.Host.disk c.args.host.now) (c.requires.empty told) (g.H.Host.disk c.commit.new.host) (c.commit.ensures.moments told)

pub returns-in_err-commit-clause-now : goal.returns-in_err-commit-clause-now
returns-in_err-commit-clause-now g c = λ told.
    commit_now AreEmpty empty_moves (made c.args.setup c.args.created) c.in_ok-new.new.intent c.in_ok-new.ensures.leads (g.H.Host.disk c.args.host.now) (c.requires.empty told) (g.H.Host.disk c.commit.new.host) (c.commit.ensures.now told)

pub returns-clause-moments : goal.returns-clause-moments
returns-clause-moments g c = λ told.
    commit_moments AreEmpty empty_moves (made c.args.setup c.args.created) c.in_ok-new.new.intent c.in_ok-new.ensures.leads (g.H.Host.disk c.args.host.now) (c.requires.empty told) (g.H.Host.disk c.commit.new.host) (c.commit.ensures.moments told)

pub returns-clause-now : goal.returns-clause-now
returns-clause-now g c = λ told.
    commit_now AreEmpty empty_moves (made c.args.setup c.args.created) c.in_ok-new.new.intent c.in_ok-new.ensures.leads (g.H.Host.disk c.args.host.now) (c.requires.empty told) (g.H.Host.disk c.commit.new.host) (c.commit.ensures.now told)

pub returns-clause-rests : goal.returns-clause-rests
returns-clause-rests g c = λ told.
    commit_rests AreEmpty empty_moves (made c.args.setup c.args.created) c.in_ok-new.new.intent c.in_ok-new.ensures.leads (g.H.Host.disk c.args.host.now) (c.requires.empty told) (g.H.Host.disk c.commit.new.host) (c.in_ok-commit.ensures.calm told) (c.in_ok-commit.ensures.done told)
