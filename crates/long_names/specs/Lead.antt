-- The lines before a text that give its long values: To, From and Subject, each at most once and in this order.
use Rattle.std.specs.Prelude.{ℕ, List, [], ◌∷◌, length, Bool, false, not, ◌&&◌, ◌==◌, if◌then◌else◌}
use Rattle.qwk_blocks.specs.declared.message.Header.{Header}
use Rattle.long_names.specs.Value.{gives, value_on}
use Rattle.long_names.specs.declared.line_field.LineField.{LineField}
use Rattle.long_names.specs.declared.line_field.LineField.TheVariants.{To, From, Subject}

-- a field, or the long value that the first of the lines gives it, and the lines behind
abbrev pub given : LineField → List ℕ → List (List ℕ) → List ℕ × List (List ℕ)
given field short [] = (short, [])
given field short (line ∷ lines) = if gives field short line then (value_on field line, lines) else (short, line ∷ lines)

-- the three values, and the lines behind those that give them
pub record LeadValues : Type 0 where
  pub to : List ℕ
  pub from : List ℕ
  pub subject : List ℕ
  pub rest : List (List ℕ)

-- what the first of the lines give the fields of a header
abbrev pub lead : Header → List (List ℕ) → LeadValues
lead h lines =
    let to = given To h.to lines in
    let from = given From h.from to.1 in
    let subject = given Subject h.subject from.1 in
    record { to = to.0; from = from.0; subject = subject.0; rest = subject.1 }

-- the first line is there, and empty
abbrev pub begins_empty : List (List ℕ) → Bool
begins_empty [] = false
begins_empty (line ∷ lines) = length line == 0

-- Some line gives a value, and an empty line follows those that do.
unfoldable pub takes : Header → List (List ℕ) → Bool
takes h lines = not (length (lead h lines).rest == length lines) && begins_empty (lead h lines).rest
