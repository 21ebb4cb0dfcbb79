use Rattle.fts_packet.proofs.Once.{fault_once, no_fault}
use Rattle.fts_packet.proofs.laws.one_fault.Goals as goal

pub returns : goal.returns
returns c = record {
  rule = λ bytes p q m n x y. (fault_once bytes p q m n x y).0;
  place = λ bytes p q m n x y. (fault_once bytes p q m n x y).1;
  none = no_fault;
}
