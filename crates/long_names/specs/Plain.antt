-- A message as it is read, with its long values in their fields, and as it goes, with them as lines before its text.
use Rattle.std.specs.Prelude.{ℕ, List, [], ◌∷◌, ◌++◌, length, drop, Bool, not, ◌&&◌, ◌||◌, ◌==◌, if◌then◌else◌}
use Rattle.std.specs.List.{prefix_len}
use Rattle.std.specs.Str.{str_to_ascii_uppercase}
use Rattle.qwk_blocks.specs.declared.message.Header.{Header}
use Rattle.qwk_blocks.specs.declared.message.QwkMessage.{QwkMessage}
use Rattle.long_names.specs.Value.{short_form, is_long, name_of, most_of}
use Rattle.long_names.specs.Lead.{LeadValues, lead, begins_empty, takes}
use Rattle.long_names.specs.declared.line_field.LineField.{LineField}
use Rattle.long_names.specs.declared.line_field.LineField.TheVariants.{To, From, Subject}

abbrev pub is_empty : List ℕ → Bool
is_empty line = length line == 0

-- without the empty lines at the front
abbrev pub past_empty : List (List ℕ) → List (List ℕ)
past_empty lines = drop (prefix_len is_empty lines) lines

-- a header with other names and another subject
abbrev pub with_names : List ℕ → List ℕ → List ℕ → Header → Header
with_names to from subject h = record h { to = to; from = from; subject = subject }

-- a header with the values that lines before its text give
abbrev pub with_lead : LeadValues → Header → Header
with_lead found h = with_names found.to found.from found.subject h

-- An empty line marks the others as text: behind it, and more empty ones, stand lines that would be taken.
abbrev pub is_marked : Header → List (List ℕ) → Bool
is_marked h lines = begins_empty lines && takes h (past_empty lines)

-- lines without the empty one that marks them as text
abbrev pub unmarked : Header → List (List ℕ) → List (List ℕ)
unmarked h lines = if is_marked h lines then drop 1 lines else lines

-- its reader sees the message as it is
abbrev pub reads_as_is : QwkMessage → Bool
reads_as_is m = not (takes m.header m.lines) && not (is_marked m.header m.lines)

-- the message that its reader sees
unfoldable pub plain : QwkMessage → QwkMessage
plain m =
    if takes m.header m.lines
    then record { header = with_lead (lead m.header m.lines) m.header; lines = drop 1 (lead m.header m.lines).rest }
    else record { header = m.header; lines = unmarked m.header m.lines }

-- a value as it stands in its field: short where it is long
abbrev pub in_field : LineField → List ℕ → List ℕ
in_field field value = if is_long (most_of field) value then short_form value else value

-- the line of a value where it is long, and else none
abbrev pub as_line : LineField → List ℕ → List (List ℕ)
as_line field value = if is_long (most_of field) value then (name_of field ++ value) ∷ [] else []

-- the lines of a header's long values
abbrev pub long_lines : Header → List (List ℕ)
long_lines h = as_line To h.to ++ (as_line From h.from ++ as_line Subject h.subject)

-- an empty line goes before the text: behind the lines of long values, or where its own lines would be taken for such
abbrev pub is_parted : QwkMessage → Bool
is_parted m = not (length (long_lines m.header) == 0) || takes m.header (past_empty m.lines)

-- a header with its long values short
abbrev pub short_header : Header → Header
short_header h = with_names (in_field To h.to) (in_field From h.from) (in_field Subject h.subject) h

-- the message as it goes
unfoldable pub with_long : QwkMessage → QwkMessage
with_long m = record {
  header = short_header m.header;
  lines = long_lines m.header ++ (if is_parted m then [] ∷ m.lines else m.lines);
}

-- the message with its names in ASCII capitals in the header, as the door writes them; lines keep their case
abbrev pub in_capitals : QwkMessage → QwkMessage
in_capitals m = record m { header = record m.header { to = str_to_ascii_uppercase m.header.to; from = str_to_ascii_uppercase m.header.from } }

-- a name as it is read then: as it was where it is long, and else in capitals
abbrev pub read_name : LineField → List ℕ → List ℕ
read_name field name = if is_long (most_of field) name then name else str_to_ascii_uppercase name

-- the message as it is read then
abbrev pub with_read_names : QwkMessage → QwkMessage
with_read_names m = record m { header = record m.header { to = read_name To m.header.to; from = read_name From m.header.from } }
