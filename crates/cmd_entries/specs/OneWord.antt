-- What one word of a command is: a test, and what is read where the word passes it.
use Rattle.std.specs.Prelude.{ℕ, ◌^◌, List, ◌++◌, codes, length, slice_index, Bool, not, ◌==◌, ◌&&◌, ◌||◌, nat_le, nat_lt, if◌then◌else◌, Option, Some, None}
use Rattle.std.specs.Char.{is_digit}
use Rattle.std.specs.List.{list_all, slice_split}
use Rattle.std.specs.Str.{bytes_eq}
use Rattle.std.specs.Str.Parse.{digits_value}
use Rattle.door_outside.specs.Name.{parts}

-- ---- tests
abbrev pub is_between : ℕ → ℕ → ℕ → Bool
is_between least most n = nat_le least n && nat_le n most

-- 1 to 10 digits of a value below 2^32
unfoldable pub is_number_word : List ℕ → Bool
is_number_word word = is_between 1 10 (length word) && (list_all (λ b. is_digit b 10) word && nat_lt (digits_value 10 word) (2 ^ 32))

-- digits, letters, and `.`, `_` and `-`
abbrev pub is_shelf_byte : ℕ → Bool
is_shelf_byte b = is_between 48 57 b || (is_between 65 90 b || (is_between 97 122 b || ((b == 46) || ((b == 95) || (b == 45)))))

-- 1 to 32 such bytes, of which the first is no `.`
abbrev pub is_name_part : List ℕ → Bool
is_name_part part = is_between 1 32 (length part) && (list_all is_shelf_byte part && not (slice_index part 0 == 46))

-- so many parts at most, joined by `/`
unfoldable pub has_parts : ℕ → List ℕ → Bool
has_parts most word = nat_le (length (parts word)) most && list_all is_name_part (parts word)

-- the names of another tool's base begin with it
abbrev pub is_base : List ℕ → Bool
is_base word = has_parts 4 (word ++ codes ".JHR")

-- `-`, or `n`: the user may send net mail
abbrev pub is_flags : List ℕ → Bool
is_flags word = bytes_eq word (codes "-") || bytes_eq word (codes "n")

-- `all`, or number words joined by commas
unfoldable pub is_conferences : List ℕ → Bool
is_conferences word = bytes_eq word (codes "all") || list_all is_number_word (slice_split (λ b. b == 0x2C) word)

-- ---- what is read
abbrev pub number : List ℕ → Option ℕ
number word = if is_number_word word then Some (digits_value 10 word) else None

-- the word itself, where it passes a test
abbrev pub passing : (List ℕ → Bool) → List ℕ → Option (List ℕ)
passing test word = if test word then Some word else None

-- any word
abbrev pub text : List ℕ → Option (List ℕ)
text word = Some word

abbrev pub file : List ℕ → Option (List ℕ)
file word = passing (has_parts 4) word

abbrev pub folder : List ℕ → Option (List ℕ)
folder word = passing (has_parts 3) word

abbrev pub base : List ℕ → Option (List ℕ)
base word = passing is_base word

abbrev pub flags : List ℕ → Option (List ℕ)
flags word = passing is_flags word

abbrev pub conferences : List ℕ → Option (List ℕ)
conferences word = passing is_conferences word
