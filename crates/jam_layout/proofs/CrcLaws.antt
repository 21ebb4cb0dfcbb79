-- The checksum of bytes has 32 bits.
use Rattle.std.proofs.Common.{ℕ, suc, ◌+◌, ◌/◌, ◌%◌, ◌^◌, ◌<◌, Bool, true, false, cond, eqb, ltb, List, [], ◌∷◌, arith}
use Rattle.std.specs.Prelude.{All, fold, bit_xor}
use Rattle.std.specs.Char.{to_ascii_lowercase}
use Rattle.std.proofs.lemmas.Nat.{xor_lt}
use Rattle.jam_records.specs.byte_lists.Byte.{IsByte}
use Rattle.name_crc.specs.JamCrc.{polynomial, halved, eight_times, after_byte, jam_crc}

either : (b : Bool) (x y k : ℕ) → x < k → y < k → cond b x y < k
either true x y k p q = p
either false x y k p q = q

halved_small : (n : ℕ) → n < 2 ^ 32 → halved n < 2 ^ 32
halved_small n small = either (eqb (n % 2) 1) (bit_xor (n / 2) polynomial) (n / 2) (2 ^ 32) (xor_lt 32 (n / 2) polynomial (omega arith) (omega arith)) (omega arith)

eight_small : (n : ℕ) → n < 2 ^ 32 → eight_times n < 2 ^ 32
unfolding eight_times
eight_small n small =
    halved_small _ (halved_small _ (halved_small _ (halved_small _ (halved_small _ (halved_small _ (halved_small _ (halved_small n small)))))))

lower_small : (b : ℕ) → b < 256 → to_ascii_lowercase b < 2 ^ 32
lower_small b small = either (ltb b 65) b (cond (ltb b 91) (b + 32) b) (2 ^ 32) (omega arith) (either (ltb b 91) (b + 32) b (2 ^ 32) (omega arith) (omega arith))

after_small : (crc b : ℕ) → crc < 2 ^ 32 → b < 256 → after_byte crc b < 2 ^ 32
after_small crc b small byte = eight_small (bit_xor crc (to_ascii_lowercase b)) (xor_lt 32 crc (to_ascii_lowercase b) small (lower_small b byte))

fold_small : (text : List ℕ) (crc : ℕ) → crc < 2 ^ 32 → All IsByte text → fold after_byte crc text < 2 ^ 32
fold_small [] crc small all = small
fold_small (b ∷ text) crc small all = fold_small text (after_byte crc b) (after_small crc b small (all 0 0 (omega arith))) (λ k d within. all (suc k) d (omega arith))

pub crc_small : (text : List ℕ) → All IsByte text → jam_crc text < 2 ^ 32
crc_small text all = fold_small text 0xFFFFFFFF (omega arith) all
