-- What is kept of the value of a subfield.
use Rattle.std.specs.Prelude.{ℕ, List, [], length, map, take, ◌==◌, nat_lt, if◌then◌else◌}
use Rattle.setup_file.specs.Words.{before_spaces}
use Rattle.jam_layout.specs.Address.{is_address}
use Rattle.jam_layout.specs.Fields.{is_text}

-- a byte below 20h as `?`
abbrev pub printable : ℕ → ℕ
printable b = if nat_lt b 0x20 then 0x3F else b

-- the first so many bytes, without the spaces at their end, each below 20h as `?`
abbrev pub kept_text : ℕ → List ℕ → List ℕ
kept_text most value = map printable (before_spaces (take most value))

-- a name of at most 36 bytes, or this where nothing is left of it
abbrev pub kept_name : List ℕ → List ℕ → List ℕ
kept_name missing value = if length (kept_text 36 value) == 0 then missing else kept_text 36 value

-- an id of 1 to 80 bytes, none below 20h, else nothing
abbrev pub kept_id : List ℕ → List ℕ
kept_id value = if is_text 80 value then value else []

-- an address as it is stored, else nothing
abbrev pub kept_address : List ℕ → List ℕ
kept_address value = if is_address value then value else []
