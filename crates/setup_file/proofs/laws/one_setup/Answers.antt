use Rattle.std.specs.Str.Lines.{lines}
use Rattle.setup_file.proofs.Readings.{one_reading}
use Rattle.setup_file.proofs.laws.one_setup.Goals as goal

pub returns-clause-one : goal.returns-clause-one
returns-clause-one c = λ bytes. one_reading (lines bytes)
