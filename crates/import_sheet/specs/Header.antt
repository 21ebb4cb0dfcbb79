-- What single header lines of a sheet give.
use Rattle.std.specs.Prelude.{◌≡◌, ◌⊎◌, ℕ, ◌≤◌, List, ◌++◌, length, All, codes}
use Rattle.text_fields.specs.Blank.{IsBlank}
use Rattle.text_fields.specs.Number.{Digits}
use Rattle.text_fields.specs.Trim.{Trimmed}
use Rattle.text_fields.specs.declared.blank.Blank.TheVariants.{Spaces}
use Rattle.import_sheet.specs.declared.fault.SheetRule.{SheetRule}
use Rattle.import_sheet.specs.declared.fault.SheetRule.TheVariants as rule
use Rattle.import_sheet.specs.declared.field.Field.{Field}
use Rattle.import_sheet.specs.declared.field.Field.TheVariants.{From, To, Subject, Date, Msgid, Reply, Private}

abbrev pub word_of : Field → List ℕ
word_of From = codes "From:"
word_of To = codes "To:"
word_of Subject = codes "Subject:"
word_of Date = codes "Date:"
word_of Msgid = codes "Msgid:"
word_of Reply = codes "Reply:"
word_of Private = codes "Private:"

-- the rule that a bad value breaks
abbrev pub rule_of_field : Field → SheetRule
rule_of_field From = rule.From
rule_of_field To = rule.To
rule_of_field Subject = rule.Subject
rule_of_field Date = rule.Date
rule_of_field Msgid = rule.Msgid
rule_of_field Reply = rule.Reply
rule_of_field Private = rule.Private

-- the line is the field's word, and what follows
abbrev pub BeginsWithWord : Field → List ℕ → Type 0
BeginsWithWord field line = (rest : List ℕ) × (line ≡ word_of field ++ rest)

-- the line is the field's word, and what follows is, without the spaces at its ends, the value
pub record HeaderLineReads (line : List ℕ) (field : Field) (value : List ℕ) : Type 0 where
  pub rest : List ℕ
  pub whole : line ≡ word_of field ++ rest
  pub trimmed : Trimmed (IsBlank Spaces) rest value

-- so many bytes at least and at most, none below 20h
pub record IsPlainText (least most : ℕ) (value : List ℕ) : Type 0 where
  pub some : least ≤ length value
  pub short : length value ≤ most
  pub plain : All (λ b. 0x20 ≤ b) value

-- 1 to 10 digits of a number that fits 32 bits
pub record DateIs (value : List ℕ) (n : ℕ) : Type 0 where
  pub short : length value ≤ 10
  pub digits : Digits value n
  pub fits : n ≤ 4294967295

abbrev pub ValueFits : Field → List ℕ → Type 0
ValueFits From value = IsPlainText 1 36 value
ValueFits To value = IsPlainText 1 36 value
ValueFits Subject value = IsPlainText 0 72 value
ValueFits Date value = (n : ℕ) × DateIs value n
ValueFits Msgid value = IsPlainText 1 80 value
ValueFits Reply value = IsPlainText 1 80 value
ValueFits Private value = (value ≡ codes "yes") ⊎ (value ≡ codes "no")
