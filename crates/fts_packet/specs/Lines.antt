-- What the lines of a packed message say: the echo tag (FTS-0004, "Area line"), the kludge lines, which begin with 01h
-- (FTS-0001, "Message text"; FTS-0009, "MSGID" and "REPLY"), and the body.
use Rattle.std.specs.Prelude.{ℕ, List, [], ◌∷◌, ◌++◌, length, drop, codes, Option, Some, None, is_some, Bool, false, ◌&&◌, ◌==◌, nat_le, if◌then◌else◌}
use Rattle.std.specs.List.{flat_map}
use Rattle.std.specs.Option.{option_or}
use Rattle.netmail_rules.specs.AddressLine.{is_plain}
use Rattle.setup_file.specs.Words.{begins_with, value_behind}

-- what stands behind the key, without the spaces at its ends, in a line that begins with it
abbrev pub keyed_value : List ℕ → List ℕ → Option (List ℕ)
keyed_value key line = if begins_with key line then Some (value_behind key line) else None

-- ---- the tag
-- the tag, where the first line has one
abbrev pub tag_of : List (List ℕ) → Option (List ℕ)
tag_of [] = None
tag_of (line ∷ more) = keyed_value (codes "AREA:") line

abbrev pub has_tag : List (List ℕ) → Bool
has_tag all = is_some (tag_of all)

-- ---- ids
-- the value behind a key, in the first line that begins with it
abbrev pub first_value : List ℕ → List (List ℕ) → Option (List ℕ)
first_value key [] = None
first_value key (line ∷ more) = option_or (keyed_value key line) (first_value key more)

-- 1 to 80 bytes, none below 20h
abbrev pub is_id : List ℕ → Bool
is_id value = (nat_le 1 (length value) && nat_le (length value) 80) && is_plain value

-- the value where it is an id, and nothing where it is none or isn't there
abbrev pub id_or_none : Option (List ℕ) → List ℕ
id_or_none None = []
id_or_none (Some value) = if is_id value then value else []

abbrev pub msgid_of : List (List ℕ) → List ℕ
msgid_of all = id_or_none (first_value (1 ∷ codes "MSGID: ") all)

abbrev pub replyid_of : List (List ℕ) → List ℕ
replyid_of all = id_or_none (first_value (1 ∷ codes "REPLY: ") all)

-- ---- the body
-- the lines behind the tag, where there is one
abbrev pub behind_tag : List (List ℕ) → List (List ℕ)
behind_tag all = if has_tag all then drop 1 all else all

abbrev pub is_kludge : List ℕ → Bool
is_kludge [] = false
is_kludge (b ∷ rest) = b == 1

-- a line of the body ends with 0Dh, and a kludge line is none
abbrev pub body_line : List ℕ → List ℕ
body_line line = if is_kludge line then [] else line ++ 0x0D ∷ []

-- the bodies of lines, one after the other
abbrev pub body_of_lines : List (List ℕ) → List ℕ
body_of_lines all = flat_map body_line all

abbrev pub body_of : List (List ℕ) → List ℕ
body_of all = body_of_lines (behind_tag all)
