use Rattle.std.proofs.Common.{◌∙◌, sym, ap}
use Rattle.board_ledger.proofs.damage_rules.KeptRules.{ok_is}
use Rattle.board_layout.proofs.ReadingClauses.{ledger_read}
use Rattle.board_layout.proofs.read.read_ledger.Goals as goal

pub returns-clause-gives : goal.returns-clause-gives
returns-clause-gives g c = λ tells.
    let read = c.in_ok-read.ensures.ok in
    let files = (g.H.Host.disk c.args.host.now).files in
    let from = ap files (sym c.ledger.ensures) ∙ (ok_is _ _ (c.in_ok-bytes.ensures.gives tells) ∙ sym c.as_slice.ensures.same) in
    ledger_read _ _ _ from read.0 read.1
