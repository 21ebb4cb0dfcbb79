-- How parts of a packet are printed.
use Rattle.std.specs.Prelude.{ℕ, ◌==◌, ◌||◌, nat_lt, if◌then◌else◌, List, [], ◌∷◌, ◌++◌, Option, Some, None, codes, decimal, map}

-- a control byte is printed as `?`
abbrev pub printed_byte : ℕ → ℕ
printed_byte b = if nat_lt b 32 || b == 127 then 63 else b

abbrev pub printed : List ℕ → List ℕ
printed text = map printed_byte text

-- a number, or `-` where its field doesn't read
abbrev pub printed_number : Option ℕ → List ℕ
printed_number None = codes "-"
printed_number (Some n) = decimal n

-- a name, a printed value and the end of the line
abbrev pub printed_line : List ℕ → List ℕ → List ℕ
printed_line name value = name ++ (value ++ 10 ∷ [])
