-- Texts and numbers in the ledger. A text is a u16 length and that many bytes.
use Rattle.std.specs.Prelude.{ℕ, zero, suc, ◌+◌, List, [], ◌∷◌, ◌++◌, length, take, drop}
use Rattle.byteorder.specs.Endian.{little_number, little_bytes}
use Rattle.record_numbers.specs.Numbers.{u16_at, u32_at, u16_text}

-- the bytes of a text
abbrev pub sized_text : List ℕ → List ℕ
sized_text text = u16_text (length text) ++ text

-- the text at a place in bytes, and where it ends as its length says
unfoldable pub text_at : ℕ → List ℕ → List ℕ
text_at place bytes = take (u16_at place bytes) (drop (place + 2) bytes)

unfoldable pub text_end : ℕ → List ℕ → ℕ
text_end place bytes = place + 2 + u16_at place bytes

-- so many numbers of two bytes, or of four, from a place on
abbrev pub u16s_at : ℕ → ℕ → List ℕ → List ℕ
u16s_at place zero bytes = []
u16s_at place (suc n) bytes = u16_at place bytes ∷ u16s_at (place + 2) n bytes

abbrev pub u32s_at : ℕ → ℕ → List ℕ → List ℕ
u32s_at place zero bytes = []
u32s_at place (suc n) bytes = u32_at place bytes ∷ u32s_at (place + 4) n bytes

-- the number in the eight bytes at a place
unfoldable pub u64_at : ℕ → List ℕ → ℕ
u64_at place bytes = little_number 8 (drop place bytes)

abbrev pub u64_text : ℕ → List ℕ
u64_text n = little_bytes 8 n
