-- The two versions of a ledger's file, and their numbers.
use Rattle.std.specs.Prelude.{ℕ, Bool, not, ◌||◌, ◌==◌, if◌then◌else◌}
use Rattle.open_offers.specs.declared.version.Version.{Version}
use Rattle.open_offers.specs.declared.version.Version.TheVariants.{First, Second}

abbrev pub version_number : Version → ℕ
version_number First = 1
version_number Second = 2

-- the version of a number: 1 the first, and else the second
abbrev pub version_of : ℕ → Version
version_of n = if n == 1 then First else Second

-- no version has the number
abbrev pub wrong_version : ℕ → Bool
wrong_version n = not (n == 1 || n == 2)
