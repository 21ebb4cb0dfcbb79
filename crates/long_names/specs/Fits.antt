-- What can be written once its long values go as lines.
use Rattle.std.specs.Prelude.{◌≡◌, ◌⊎◌, ℕ, ◌+◌, ◌^◌, ◌<◌, ◌≤◌, List, length, IsTrue, All, IfSome}
use Rattle.qwk_blocks.specs.Text.{joined_lines, IsLine}
use Rattle.qwk_blocks.specs.Written.{blocks_of, TextFits}
use Rattle.qwk_blocks.specs.declared.message.Header.{Header}
use Rattle.qwk_blocks.specs.declared.message.QwkMessage.{QwkMessage}
use Rattle.long_names.specs.Value.{is_long, most_of}
use Rattle.long_names.specs.declared.line_field.LineField.{LineField}
use Rattle.long_names.specs.declared.line_field.LineField.TheVariants.{To, From, Subject}

-- the value goes as a line, or has room in its field
abbrev pub FitsOrLong : LineField → List ℕ → Type 0
FitsOrLong field value = IsTrue (is_long (most_of field) value) ⊎ TextFits 25 value

-- the three values do, and the other fields have room for theirs
pub record HeaderFitsWithLong (h : Header) : Type 0 where
  pub number : IfSome h.number (λ n. n ≤ 9999999)
  pub date : length h.date ≡ 8
  pub time : length h.time ≡ 5
  pub to : FitsOrLong To h.to
  pub from : FitsOrLong From h.from
  pub subject : FitsOrLong Subject h.subject
  pub password : TextFits 12 h.password
  pub reference : IfSome h.reference (λ n. n ≤ 99999999)
  pub conference : h.conference < 2 ^ 16
  pub logical : h.logical < 2 ^ 16

-- Three lines of long values and an empty one have at most 167 bytes, with their ends.
pub record FitsWithLong (m : QwkMessage) : Type 0 where
  pub header : HeaderFitsWithLong m.header
  pub lines : All IsLine m.lines
  pub blocks : 1 + blocks_of (167 + length (joined_lines m.lines)) ≤ 999999
