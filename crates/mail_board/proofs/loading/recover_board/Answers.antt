use Rattle.std.proofs.Common.{rules, arith, sym, subst}
use Rattle.board_layout.specs.Damage.{board_in}
use Rattle.board_layout.specs.Rules.{AreFoundOf, GivesSo}
use Rattle.intent_journal.specs.Patches.{HostFiles}
use Rattle.intent_journal.specs.Recovered.{recovered}
use Rattle.mail_board.proofs.DataReading.{recovered_reading}
use Rattle.mail_board.proofs.loading.recover_board.Goals as goal

pub returns-clause-gives : goal.returns-clause-gives
returns-clause-gives g c = λ tells.
    let old : HostFiles = (g.H.Host.disk c.args.host.now).files in
    let mid : HostFiles = (g.H.Host.disk c.recover.new.host).files in
    subst (λ (files : HostFiles). GivesSo (AreFoundOf files) c.read_board.result (board_in (recovered old))) (sym (c.read_board.ensures.unchanged tells).files)
    (subst (GivesSo (AreFoundOf mid) c.read_board.result) (sym (recovered_reading old mid (search rules))) (c.read_board.ensures.gives tells))

pub returns-clause-wrote : goal.returns-clause-wrote
returns-clause-wrote g c = λ tells. omega (arith, c.recover.ensures.wrote tells, (c.read_board.ensures.unchanged tells).wrote)
