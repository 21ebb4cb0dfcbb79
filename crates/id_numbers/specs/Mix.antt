-- A number that differs for most ids.
use Rattle.std.specs.Prelude.{ℕ, ◌*◌, ◌%◌, ◌^◌, List, fold, bit_xor}

abbrev pub mix_step : ℕ → ℕ → ℕ
mix_step mix byte = bit_xor ((mix * 0x0000_0100_0000_01b3) % 2 ^ 64) byte

unfoldable pub mix_of : List ℕ → ℕ
mix_of id = fold mix_step 0 id
