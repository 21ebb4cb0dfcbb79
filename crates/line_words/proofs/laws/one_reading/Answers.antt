use Rattle.line_words.proofs.LineLaws as LineLaws
use Rattle.line_words.proofs.laws.one_reading.Goals as goal

pub returns : goal.returns
returns c = LineLaws.one_reading
