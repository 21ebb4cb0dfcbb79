use Rattle.text_fields.specs.Blank.{IsBlank}
use Rattle.text_fields.proofs.Numbers.{digits_unique, number_unique}
use Rattle.text_fields.proofs.laws.one_number.Goals as goal

pub returns : goal.returns
returns c = record { digits = digits_unique; field = λ blank most. number_unique (IsBlank blank) most most }
