-- Names and subjects that don't fit their fields of 25 bytes. That they go as lines before the text is the project's own rule.
use Rattle.std.specs.Prelude.{ℕ, ◌-◌, List, length, take, drop, slice_index, Bool, not, ◌&&◌, ◌==◌, nat_le, nat_lt, codes}
use Rattle.std.specs.List.{list_all, suffix_len}
use Rattle.std.specs.Str.{bytes_eq, str_eq_ignore_ascii_case}
pub use Rattle.text_fields.specs.Blank.{is_space}
use Rattle.long_names.specs.declared.line_field.LineField.{LineField}
use Rattle.long_names.specs.declared.line_field.LineField.TheVariants.{To, From, Subject}

-- without the spaces at the end
abbrev pub without_spaces : List ℕ → List ℕ
without_spaces text = take (length text - suffix_len is_space text) text

-- the first 25 bytes of a value, without the spaces at their end
abbrev pub short_form : List ℕ → List ℕ
short_form value = without_spaces (take 25 value)

-- neither below 20h nor E3h
abbrev pub is_plain_byte : ℕ → Bool
is_plain_byte b = nat_le 0x20 b && not (b == 0xE3)

-- A value that goes as a line: it has 26 bytes or more and at most so many, no space at either end, no E3h and no byte below 20h.
unfoldable pub is_long : ℕ → List ℕ → Bool
is_long most value =
    (nat_lt 25 (length value) && nat_le (length value) most)
    && ((not (is_space (slice_index value 0)) && not (is_space (slice_index value (length value - 1)))) && list_all is_plain_byte value)

-- the name that a field's line begins with
abbrev pub name_of : LineField → List ℕ
name_of To = codes "To: "
name_of From = codes "From: "
name_of Subject = codes "Subject: "

-- the most bytes of a value that goes as the field's line
abbrev pub most_of : LineField → ℕ
most_of To = 36
most_of From = 36
most_of Subject = 72

-- what stands on a line behind the field's name
abbrev pub value_on : LineField → List ℕ → List ℕ
value_on field line = drop (length (name_of field)) line

-- the line gives this field, which stands short in the header, a long value: its short form is what stands there, ignoring ASCII case
unfoldable pub gives : LineField → List ℕ → List ℕ → Bool
gives field short line =
    bytes_eq (take (length (name_of field)) line) (name_of field)
    && (is_long (most_of field) (value_on field line) && str_eq_ignore_ascii_case (short_form (value_on field line)) short)
