use Rattle.std.proofs.Common.{sym, subst, arith}
use Rattle.rep_packet.specs.Written.{IsRep}
use Rattle.offline_writer.proofs.Writing.{rep_with_drafts}
use Rattle.cmd_replies.proofs.enlarging.enlarge.Goals as goal

pub returns-clause-may_be_written : goal.returns-clause-may_be_written
returns-clause-may_be_written g c = record {
  rep = subst IsRep (sym c.in_ok-add_drafts.ensures.ok) (rep_with_drafts c.in_ok-rep.rep c.args.drafts c.in_ok-rep.ensures.writable c.requires.writable);
  short = omega (arith, c.size.ensures, c.from.ensures);
}
