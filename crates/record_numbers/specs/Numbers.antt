-- Numbers in records: unsigned, the low byte first. Places in bytes count from 0.
use Rattle.std.specs.Prelude.{ℕ, ◌<◌, ◌^◌, List, drop}
use Rattle.std.specs.List.{flat_map}
use Rattle.byteorder.specs.Endian.{little_number, little_bytes}

-- the number in the two or four bytes at a place
unfoldable pub u16_at : ℕ → List ℕ → ℕ
u16_at place bytes = little_number 2 (drop place bytes)

unfoldable pub u32_at : ℕ → List ℕ → ℕ
u32_at place bytes = little_number 4 (drop place bytes)

-- the two or four bytes of a number
abbrev pub u16_text : ℕ → List ℕ
u16_text n = little_bytes 2 n

abbrev pub u32_text : ℕ → List ℕ
u32_text n = little_bytes 4 n

-- the bytes of numbers of four bytes, one after the other
abbrev pub u32s_text : List ℕ → List ℕ
u32s_text numbers = flat_map (little_bytes 4) numbers

-- two bytes hold the number
abbrev pub IsU16 : ℕ → Type 0
IsU16 n = n < 2 ^ 16

-- four bytes hold the number
abbrev pub IsU32 : ℕ → Type 0
IsU32 n = n < 2 ^ 32
