use Rattle.std.proofs.Common.{ℕ, List}
use Rattle.std.specs.Str.Lines.{lines}
use Rattle.qwk_control.proofs.Single.{fault_unique, no_fault}
use Rattle.qwk_control.proofs.laws.one_fault.Goals as goal

pub returns : goal.returns
returns c = record {
  one = λ (bytes : List ℕ). fault_unique (lines bytes);
  none = λ (bytes : List ℕ). no_fault (lines bytes);
}
