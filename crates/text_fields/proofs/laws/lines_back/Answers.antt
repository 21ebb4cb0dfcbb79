use Rattle.text_fields.proofs.LineLists.{lines_back}
use Rattle.text_fields.proofs.laws.lines_back.Goals as goal

pub returns : goal.returns
returns c = lines_back
