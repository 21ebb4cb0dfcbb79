use Rattle.std.proofs.Common.{rules, ◌≡◌, Err}
use Rattle.entry_runs.proofs.Voice.{voiced_cut, voiced_rest}
use Rattle.entry_runs.proofs.saying.say_all.Goals as goal

pub returns-in_err-add-clause-voiced : goal.returns-in_err-add-clause-voiced
returns-in_err-add-clause-voiced g c tells =
    let is : c.from_residual.result ≡ Err c.in_err-add.field-0.0 = search rules in
    rw is (voiced_cut c.new-gathered.ensures (c.in_err-add.ensures.gathers tells))

pub returns-clause-voiced : goal.returns-clause-voiced
returns-clause-voiced g c tells = voiced_rest c.new-gathered.ensures (c.in_ok-add.ensures.gathers tells) (c.say.ensures.voiced tells)
