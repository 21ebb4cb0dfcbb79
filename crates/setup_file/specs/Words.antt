-- What stands in a line of a setup file: a key, and words between spaces.
use Rattle.std.specs.Prelude.{ℕ, ◌-◌, List, length, take, drop, filter, map, Option, Some, None, Bool, true, false, not, ◌&&◌, ◌==◌, nat_le, take_while, if◌then◌else◌, codes}
use Rattle.std.specs.Char.{is_digit}
use Rattle.std.specs.List.{list_all, prefix_len, suffix_len, slice_split}
use Rattle.std.specs.Str.{bytes_eq}
use Rattle.std.specs.Str.Parse.{digits_value}
pub use Rattle.text_fields.specs.Blank.{is_space}
use Rattle.jam_records.specs.declared.message.Kind.{Kind}
use Rattle.jam_records.specs.declared.message.Kind.TheVariants.{Local, Echo, Net}

-- without the spaces at the front
abbrev pub past_spaces : List ℕ → List ℕ
past_spaces text = drop (prefix_len is_space text) text

-- without the spaces at the end
abbrev pub before_spaces : List ℕ → List ℕ
before_spaces text = take (length text - suffix_len is_space text) text

-- without the spaces at both ends
unfoldable pub trim : List ℕ → List ℕ
trim text = before_spaces (past_spaces text)

-- the bytes up to the first space
unfoldable pub first_word : List ℕ → List ℕ
first_word text = take_while (λ b. not (is_space b)) text

-- what follows them, without the spaces at its ends
unfoldable pub behind_word : List ℕ → List ℕ
behind_word text = trim (drop (length (first_word text)) text)

-- what stands between spaces and isn't empty
unfoldable pub words : List ℕ → List (List ℕ)
words text = filter (λ word. not (length word == 0)) (slice_split is_space text)

-- 1 to 5 digits
unfoldable pub is_number : List ℕ → Bool
is_number word = (nat_le 1 (length word) && nat_le (length word) 5) && list_all (λ b. is_digit b 10) word

-- the number that digits spell
unfoldable pub number_of : List ℕ → ℕ
number_of digits = digits_value 10 digits

unfoldable pub kind_of : List ℕ → Option Kind
kind_of word =
    if bytes_eq word (codes "local") then Some Local else
    (if bytes_eq word (codes "echo") then Some Echo else
    (if bytes_eq word (codes "net") then Some Net else None))

-- whether a conference is read-only, and whether it allows private messages
unfoldable pub rights_of : List ℕ → Option (Bool × Bool)
rights_of word =
    if bytes_eq word (codes "-") then Some (false, false) else
    (if bytes_eq word (codes "r") then Some (true, false) else
    (if bytes_eq word (codes "p") then Some (false, true) else
    (if bytes_eq word (codes "rp") then Some (true, true) else None)))

unfoldable pub begins_with : List ℕ → List ℕ → Bool
begins_with key line = bytes_eq (take (length key) line) key

-- what follows the key, without the spaces at its ends
unfoldable pub value_behind : List ℕ → List ℕ → List ℕ
value_behind key line = trim (drop (length key) line)

-- the numbers that the words of a value spell
unfoldable pub numbers_of_words : List ℕ → List ℕ
numbers_of_words value = map number_of (words value)
