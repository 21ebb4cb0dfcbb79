use Rattle.std.proofs.Common.{rules}
use Rattle.std.proofs.lemmas.Result.{err_from_is_err_and}
use Rattle.cmd_packets.proofs.folder.folder_in.Goals as goal

pub returns-in_err-messages-clause-causes : goal.returns-in_err-messages-clause-causes
returns-in_err-messages-clause-causes g c =
    let p = err_from_is_err_and c.from_residual-in_err-messages.result c.from_residual-in_err-messages.ensures.1 in
    rw (p.1, p.2) (search rules)
