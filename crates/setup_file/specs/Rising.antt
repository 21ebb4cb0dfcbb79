-- Numbers that rise.
use Rattle.std.specs.Prelude.{ℕ, List, [], ◌∷◌, Bool, true, ◌&&◌, nat_lt}

-- each number is above the one before, and the first above this one
abbrev pub rise_above : ℕ → List ℕ → Bool
rise_above low [] = true
rise_above low (n ∷ numbers) = nat_lt low n && rise_above n numbers

-- each number is above the one before
abbrev pub are_rising : List ℕ → Bool
are_rising [] = true
are_rising (n ∷ numbers) = rise_above n numbers
