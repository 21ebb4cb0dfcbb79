-- The test of an address: the text is what the numbers in it are stored as.
use Rattle.std.specs.Prelude.{ℕ, suc, List, ◌∷◌, ◌++◌, length, drop, take_while, decimal, Bool, not, ◌&&◌, ◌==◌, nat_le}
use Rattle.std.specs.Str.{bytes_eq}
use Rattle.std.specs.Str.Parse.{digits_value}
use Rattle.jam_records.specs.Addresses.{point_text}

-- the number that digits spell
abbrev pub address_number : List ℕ → ℕ
address_number digits = digits_value 10 digits

-- what stands before the first such mark, and behind it
abbrev pub before : ℕ → List ℕ → List ℕ
before mark text = take_while (λ c. not (c == mark)) text

abbrev pub past : ℕ → List ℕ → List ℕ
past mark text = drop (suc (length (before mark text))) text

abbrev pub is_part : ℕ → Bool
is_part n = nat_le n 32767

-- the text is this address
abbrev pub is_address_of : ℕ → ℕ → ℕ → ℕ → List ℕ → Bool
is_address_of zone net node point text =
    ((is_part zone && is_part net) && (is_part node && is_part point))
    && bytes_eq text (decimal zone ++ (58 ∷ (decimal net ++ (47 ∷ (decimal node ++ point_text point)))))

-- the part behind the slash is a node, and maybe a point
abbrev pub is_address_with : ℕ → ℕ → List ℕ → List ℕ → Bool
is_address_with zone net node text = is_address_of zone net (address_number (before 46 node)) (address_number (past 46 node)) text

-- the text is an address
unfoldable pub is_address : List ℕ → Bool
is_address text =
    is_address_with (address_number (before 58 text)) (address_number (before 47 (past 58 text))) (past 47 (past 58 text)) text
