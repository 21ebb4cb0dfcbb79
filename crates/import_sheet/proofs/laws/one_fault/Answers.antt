use Rattle.std.proofs.Common.{ℕ, List}
use Rattle.std.specs.Str.Lines.{lines}
use Rattle.import_sheet.proofs.Single.{line_once, rule_once, no_fault}
use Rattle.import_sheet.proofs.laws.one_fault.Goals as goal

pub returns : goal.returns
returns c = record {
  line = λ (bytes : List ℕ). line_once (lines bytes);
  rule = λ (bytes : List ℕ). rule_once (lines bytes);
  none = λ (bytes : List ℕ). no_fault (lines bytes);
}
