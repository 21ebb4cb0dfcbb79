use Rattle.std.specs.Str.Lines.{lines}
use Rattle.setup_file.proofs.Single.{reads_or_fault}
use Rattle.setup_file.proofs.laws.setup_or_fault.Goals as goal

pub returns : goal.returns
returns c = λ bytes. reads_or_fault (lines bytes)
