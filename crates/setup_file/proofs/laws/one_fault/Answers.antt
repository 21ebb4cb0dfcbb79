use Rattle.std.specs.Str.Lines.{lines}
use Rattle.setup_file.proofs.Single.{line_once, rule_once, no_fault}
use Rattle.setup_file.proofs.laws.one_fault.Goals as goal

pub returns-clause-line : goal.returns-clause-line
returns-clause-line c = λ bytes. line_once (lines bytes)

pub returns-clause-rule : goal.returns-clause-rule
returns-clause-rule c = λ bytes. rule_once (lines bytes)

pub returns-clause-none : goal.returns-clause-none
returns-clause-none c = λ bytes. no_fault (lines bytes)
