-- Which drafts can be put into QWK.
use Rattle.std.specs.Prelude.{◌≡◌, ◌⊎◌, ℕ, ◌+◌, ◌≤◌, List, ◌∷◌, ◌++◌, length, All, IsTrue}
use Rattle.text_fields.specs.Split.{Lacks}
use Rattle.text_fields.specs.Trim.{EndsWithNone}
use Rattle.qwk_blocks.specs.Header.{IsPad}
use Rattle.qwk_blocks.specs.Text.{joined_lines, IsLine}
use Rattle.qwk_blocks.specs.declared.message.QwkMessage.{QwkMessage}
use Rattle.long_names.specs.Value.{is_long, most_of}
use Rattle.long_names.specs.declared.line_field.LineField.{LineField}
use Rattle.long_names.specs.declared.line_field.LineField.TheVariants.{To, Subject}
use Rattle.offline_writer.specs.declared.drafting.Envelope.{Envelope}

-- the value has room in its field, or goes as a line
abbrev pub FitsField : LineField → List ℕ → Type 0
FitsField field value = (length value ≤ 25) ⊎ IsTrue (is_long (most_of field) value)

-- The draft can be put into QWK: no line has E3h or 0Dh, and its text is measured with one byte behind each line.
pub record FitsQwk (draft : QwkMessage) : Type 0 where
  pub to : FitsField To draft.header.to
  pub subject : FitsField Subject draft.header.subject
  pub no_end : All IsLine draft.lines
  pub no_return : All (Lacks 0x0D) draft.lines
  pub short : length (joined_lines draft.lines) ≤ 16384

-- the draft of this number, from 1, is the first that can't be put into QWK
pub record IsFirstUnfit (drafts : List QwkMessage) (number : ℕ) : Type 0 where
  pub before : List QwkMessage
  pub draft : QwkMessage
  pub behind : List QwkMessage
  pub whole : drafts ≡ before ++ draft ∷ behind
  pub fit : All FitsQwk before
  pub unfit : ¬ FitsQwk draft
  pub at : number ≡ length before + 1

-- The texts end with no space and no NUL, and the reference has at most the 8 digits of its field. So it is where
-- the message that is answered was read of a packet, or the entry was read of a sheet.
pub record IsClean (envelope : Envelope) : Type 0 where
  pub to : EndsWithNone IsPad envelope.to
  pub subject : EndsWithNone IsPad envelope.subject
  pub reference : envelope.reference ≤ 99999999
