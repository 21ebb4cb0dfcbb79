use Rattle.std.specs.Str.Lines.{lines}
use Rattle.qwk_control.proofs.Single.{control_unique}
use Rattle.qwk_control.proofs.laws.one_control.Goals as goal

pub returns : goal.returns
returns c = λ bytes. control_unique (lines bytes)
