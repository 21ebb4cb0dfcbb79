-- What is said of messages that come into a board: a line for each, and one with the counts.
use Rattle.std.specs.Prelude.{ℕ, ◌-◌, List, ◌++◌, length, codes, decimal}
use Rattle.jam_records.specs.declared.message.Message.{Message}

-- the one in a place, from 1, is posted in the conference of a number, under a message number
abbrev pub posted_line : ℕ → ℕ → ℕ → List ℕ
posted_line place conference number = decimal place ++ (codes " posted " ++ (decimal conference ++ (codes " " ++ (decimal number ++ codes "\n"))))

-- it is refused by the rule of this word
abbrev pub refused_line : ℕ → List ℕ → List ℕ
refused_line place word = decimal place ++ (codes " refused " ++ (word ++ codes "\n"))

-- so many were posted, and so many refused
abbrev pub counts_line : ℕ → ℕ → List ℕ
counts_line posted refused = codes "posted " ++ (decimal posted ++ (codes " refused " ++ (decimal refused ++ codes "\n")))

-- the lines of so many that came in, of which these are posted, and the counts behind them
abbrev pub intake_text : ℕ → List ℕ × List (ℕ × Message) → List ℕ
intake_text count all = all.0 ++ counts_line (length all.1) (count - length all.1)
