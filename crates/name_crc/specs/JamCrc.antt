-- The CRC of the JAM message base proposal, revision 1: CRC-32/JAMCRC over the lowered text,
-- by division bit by bit, the low bit first.
use Rattle.std.specs.Prelude.{ℕ, ◌/◌, ◌%◌, ◌==◌, List, fold, bit_xor, if◌then◌else◌}
use Rattle.std.specs.Char.{to_ascii_lowercase}

-- the polynomial, its bits reflected
abbrev pub polynomial : ℕ
polynomial = 0xEDB88320

-- the number halved and, where the dropped bit was 1, the exclusive or with the polynomial
abbrev pub halved : ℕ → ℕ
halved n = if n % 2 == 1 then bit_xor (n / 2) polynomial else n / 2

-- eight times
unfoldable pub eight_times : ℕ → ℕ
eight_times n = halved (halved (halved (halved (halved (halved (halved (halved n)))))))

-- the checksum after one more byte of the text
abbrev pub after_byte : ℕ → ℕ → ℕ
after_byte crc byte = eight_times (bit_xor crc (to_ascii_lowercase byte))

-- the checksum of a text
abbrev pub jam_crc : List ℕ → ℕ
jam_crc text = fold after_byte 0xFFFFFFFF text
