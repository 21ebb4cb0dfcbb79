-- What a byte is.
use Rattle.std.specs.Prelude.{ℕ, ◌<◌}

abbrev pub IsByte : ℕ → Type 0
IsByte b = b < 256
