use Rattle.std.proofs.Common.{rules, ◌≡◌, Err}
use Rattle.entry_runs.proofs.Voice.{voiced_cut, voiced_rest}
use Rattle.cmd_exchange.proofs.saying.say_uploaded.Goals as goal

pub returns-in_err-add_uploaded-clause-voiced : goal.returns-in_err-add_uploaded-clause-voiced
returns-in_err-add_uploaded-clause-voiced g c tells =
    let is : c.from_residual.result ≡ Err c.in_err-add_uploaded.field-0.0 = search rules in
    rw is (voiced_cut c.new-gathered.ensures (c.in_err-add_uploaded.ensures.gathers tells))

pub returns-clause-voiced : goal.returns-clause-voiced
returns-clause-voiced g c tells = voiced_rest c.new-gathered.ensures (c.in_ok-add_uploaded.ensures.gathers tells) (c.say.ensures.voiced tells)
