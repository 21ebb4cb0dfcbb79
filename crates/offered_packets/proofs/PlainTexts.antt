-- Texts whose bytes aren't below 20h.
use Rattle.std.proofs.Common.{ℕ, ◌≤◌, List, arith}
use Rattle.std.specs.Char.{to_ascii_uppercase}
use Rattle.std.specs.List.{All}
use Rattle.std.proofs.lemmas.Bool.Decides.{nat_tests}

abbrev pub IsPlain : List ℕ → Type 0
IsPlain text = All (λ b. 0x20 ≤ b) text

-- so are those of capitals
pub upper_plain : (b : ℕ) → 0x20 ≤ b → 0x20 ≤ to_ascii_uppercase b
upper_plain b le = grind (arith, nat_tests)
