use Rattle.std.proofs.lemmas.Result.{err_from_is_err_and}
use Rattle.fts_packet.proofs.Messages.{parts_or_rule}
use Rattle.fts_packet.proofs.parts.parts_of.Goals as goal

pub returns-in_err-front : goal.returns-in_err-front
returns-in_err-front c =
    let p = err_from_is_err_and c.from_residual.result c.from_residual.ensures.1 in
    rw (p.1, p.2) c.in_err-front.ensures

pub returns : goal.returns
returns c = parts_or_rule c.args.bytes.now c.in_ok-front.front.now c.in_ok-front.behind.now c.fields_of.result c.in_ok-front.ensures c.fields_of.ensures
