-- The date of a packed message (FTS-0001, "DateTime"): `dd Mmm yy  hh:mm:ss` and NUL, in 20 bytes. Places count from 0.
use Rattle.std.specs.Prelude.{ℕ, ◌+◌, List, [], ◌∷◌, take, drop, slice_index, codes, Option, Some, None, option_and_then, Bool, ◌&&◌, ◌==◌, nat_lt, if◌then◌else◌}
use Rattle.std.specs.Str.{bytes_eq}
use Rattle.qwk_moments.specs.Moments.{moment_of, two_digit_number}

infixl 10 ◌>>=◌
abbrev ◌>>=◌ : {A B : Type 0} → Option A → (A → Option B) → Option B
o >>= f = option_and_then f o

abbrev pub byte_at : ℕ → List ℕ → ℕ
byte_at place date = slice_index date place

-- one space behind the day and the month each, and two behind the year
abbrev pub has_spaces : List ℕ → Bool
has_spaces date = ((byte_at 2 date == 32 && byte_at 6 date == 32) && byte_at 9 date == 32) && byte_at 10 date == 32

-- two colons in the time, and NUL at the end
abbrev pub has_colons : List ℕ → Bool
has_colons date = (byte_at 13 date == 58 && byte_at 16 date == 58) && byte_at 19 date == 0

-- the number of a month, in two digits
unfoldable pub month_digits : List ℕ → Option (List ℕ)
month_digits name =
    if bytes_eq name (codes "Jan") then Some (codes "01") else
    (if bytes_eq name (codes "Feb") then Some (codes "02") else
    (if bytes_eq name (codes "Mar") then Some (codes "03") else
    (if bytes_eq name (codes "Apr") then Some (codes "04") else
    (if bytes_eq name (codes "May") then Some (codes "05") else
    (if bytes_eq name (codes "Jun") then Some (codes "06") else
    (if bytes_eq name (codes "Jul") then Some (codes "07") else
    (if bytes_eq name (codes "Aug") then Some (codes "08") else
    (if bytes_eq name (codes "Sep") then Some (codes "09") else
    (if bytes_eq name (codes "Oct") then Some (codes "10") else
    (if bytes_eq name (codes "Nov") then Some (codes "11") else
    (if bytes_eq name (codes "Dec") then Some (codes "12") else None)))))))))))

-- a space at the front stands for a zero
abbrev pub digit_or_space : ℕ → ℕ
digit_or_space b = if b == 32 then 48 else b

-- the day, month and year as a date field of QWK has them, and the hour and minute as a time field has them
abbrev pub date_field : List ℕ → List ℕ → List ℕ
date_field month date =
    byte_at 0 month ∷ byte_at 1 month ∷ 45 ∷ digit_or_space (byte_at 0 date) ∷ byte_at 1 date ∷ 45 ∷ byte_at 7 date ∷ byte_at 8 date ∷ []

abbrev pub time_field : List ℕ → List ℕ
time_field date = byte_at 11 date ∷ byte_at 12 date ∷ 58 ∷ byte_at 14 date ∷ byte_at 15 date ∷ []

-- the second of a minute
abbrev pub second_of : List ℕ → Option ℕ
second_of date = do
  second ← two_digit_number (byte_at 17 date) (byte_at 18 date)
  if nat_lt second 60 then Some second else None

-- the moment that a date reads as, where it does
abbrev pub moment_in : List ℕ → Option ℕ
moment_in date = do
  month ← month_digits (take 3 (drop 3 date))
  minute ← moment_of (date_field month date) (time_field date)
  second ← second_of date
  Some (minute + second)

unfoldable pub moment_of_date : List ℕ → Option ℕ
moment_of_date date = if has_spaces date && has_colons date then moment_in date else None
