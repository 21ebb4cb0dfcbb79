use Rattle.std.proofs.Common.{rules, ◌≡◌, Err}
use Rattle.entry_runs.proofs.Voice.{gathers_front, gathers_on}
use Rattle.cmd_exchange.specs.Upload.{tally}
use Rattle.cmd_exchange.proofs.saying.add_uploaded.Goals as goal

pub returns-in_err-add_outcomes-in-Judged-clause-gathers : goal.returns-in_err-add_outcomes-in-Judged-clause-gathers
returns-in_err-add_outcomes-in-Judged-clause-gathers g c tells =
    let is : c.from_residual.result ≡ Err c.in_err-add_outcomes-in-Judged.field-0.0 = search rules in
    rw (c.in-Judged.is, is) (gathers_front (tally c.in-Judged.outcomes) (c.in_err-add_outcomes-in-Judged.ensures.gathers tells))

pub returns-in_ok-add_outcomes-in-Judged-clause-gathers : goal.returns-in_ok-add_outcomes-in-Judged-clause-gathers
returns-in_ok-add_outcomes-in-Judged-clause-gathers g c tells =
    rw c.in-Judged.is (gathers_on (c.in_ok-add_outcomes-in-Judged.ensures.gathers tells) (c.add_tally.ensures.gathers tells))
