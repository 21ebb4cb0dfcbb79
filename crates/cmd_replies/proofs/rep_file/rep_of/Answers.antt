use Rattle.std.proofs.Common.{Err, sym, ap, subst}
use Rattle.rep_packet.specs.declared.rep.Rep.{Rep}
use Rattle.shelf_files.specs.Halts.{Comes}
use Rattle.shelf_files.specs.declared.halt.Halt.{Halt}
use Rattle.cmd_replies.specs.RepFile.{RepIn}
use Rattle.cmd_replies.proofs.Steps.{no_rep}
use Rattle.cmd_replies.proofs.rep_file.rep_of.Goals as goal

pub returns-in-Err-clause-rep : goal.returns-in-Err-clause-rep
returns-in-Err-clause-rep c =
    subst (λ (halt : Halt). Comes {Value = Rep} (Err halt) (RepIn c.args.bbsid.now c.args.bytes.now)) (sym c.halt_of.ensures)
    (no_rep c.args.bbsid.now c.args.bytes.now c.in-Err.error (λ fault is. c.in-Err.ensures.fault fault (ap Err is)) (λ is. c.in-Err.ensures.no_board (ap Err is)))
