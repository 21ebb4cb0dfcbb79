use Rattle.std.proofs.Common.{sym, subst}
use Rattle.rep_packet.specs.Rep.{HasBoardId}
use Rattle.rep_packet.proofs.Answers.{board_fits}
use Rattle.rep_packet.proofs.Once.{not_cut}
use Rattle.rep_packet.proofs.read.rep_of.Goals as goal

pub returns-in_default-clause-reads : goal.returns-in_default-clause-reads
returns-in_default-clause-reads c = (not_cut c.args.bytes.now c.if-bytes-lt-BLOCK.false, c.in_default.ensures)

pub returns-clause-writable : goal.returns-clause-writable
returns-clause-writable c = λ small.
    let has = subst (HasBoardId c.args.bytes.now) (sym c.in_ok-bbsid.ensures) c.in-Some.ensures in
    record { bbsid = board_fits c.args.bytes.now c.in_ok-bbsid.bbsid has; some = has.some; messages = c.in_ok-messages.ensures.writable small }
