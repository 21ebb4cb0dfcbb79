use Rattle.std.proofs.Common.{take}
use Rattle.std.specs.List.{All}
use Rattle.import_sheet.specs.Header.{BeginsWithWord}
use Rattle.import_sheet.proofs.field.field_of.Given as goal

-- the line begins with none of the words so far
abbrev pub invariant-loop-field : goal.invariant-loop-field
invariant-loop-field l = All (λ field. ¬ BeginsWithWord field l.line) (take l.field-index l.field-items)
