use Rattle.text_fields.specs.Blank.{IsBlank}
use Rattle.text_fields.proofs.Trimming.{trimmed_end_unique, trimmed_unique}
use Rattle.text_fields.proofs.laws.one_trim.Goals as goal

pub returns : goal.returns
returns c = record { end = λ blank. trimmed_end_unique (IsBlank blank); both = λ blank. trimmed_unique (IsBlank blank) }
