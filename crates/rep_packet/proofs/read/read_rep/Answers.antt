use Rattle.rep_packet.specs.declared.fault.RepError.TheVariants.{Fault, NoBoardId}
use Rattle.rep_packet.proofs.Answers.{only_ok, only_fault}
use Rattle.rep_packet.proofs.read.read_rep.Goals as goal

pub returns-clause-only_ok : goal.returns-clause-only_ok
returns-clause-only_ok c = only_ok c.args.bytes.now c.rep_of.result c.rep_of.ensures.reads

pub returns-clause-only_fault : goal.returns-clause-only_fault
returns-clause-only_fault c = λ fault. only_fault c.args.bytes.now c.rep_of.result c.rep_of.ensures.reads (Fault fault)

pub returns-clause-only_no_board : goal.returns-clause-only_no_board
returns-clause-only_no_board c = only_fault c.args.bytes.now c.rep_of.result c.rep_of.ensures.reads NoBoardId
