-- Numbers as bytes, the low byte first.
use Rattle.std.proofs.Common.{◌≡◌, ℕ, zero, suc, ◌+◌, ◌*◌, ◌/◌, ◌%◌, ◌^◌, ◌<◌, ◌≤◌, List, [], ◌∷◌, ◌++◌, length, take, get_or, refl, sym, ap, subst, ◌∙◌, arith}
use Rattle.std.proofs.Math.Nat.{div-div-eq-div-mul, pow-suc, mul_comm}
use Rattle.std.proofs.lemmas.Nat.{mod_low, shr_high}
use Rattle.std.proofs.lemmas.List.{get_or_default}
use Rattle.std.proofs.lemmas.List.Elements.{All-cons, All-nil}
use Rattle.std.specs.Prelude.{All}
use Rattle.std.specs.Int.{byte_at, bytes_low_first}
use Rattle.byteorder.specs.Endian.{little_from, little_number, little_bytes}
use Rattle.byteorder.specs.Numbers.{little_from-cons, little_number-reads_back}
use Rattle.byte_lists.specs.Byte.{IsByte}

byte_at-half : (i n : ℕ) → byte_at (suc i) n ≡ byte_at i (n / 256)
byte_at-half zero n = refl
byte_at-half (suc i) n = ap (λ m. m % 256) (ap (λ p. n / p) (pow-suc 256 (suc i) ∙ mul_comm (256 ^ suc i) 256) ∙ sym (div-div-eq-div-mul n 256 (256 ^ suc i)))

cong-∷ : {x y : ℕ} {xs ys : List ℕ} → x ≡ y → xs ≡ ys → x ∷ xs ≡ y ∷ ys
cong-∷ e f = cc

low_first-half : (i k n : ℕ) → bytes_low_first (suc i) k n ≡ bytes_low_first i k (n / 256)
low_first-half i zero n = refl
low_first-half i (suc k) n = cong-∷ (byte_at-half i n) (low_first-half (suc i) k n)

-- the bytes that read as a number are that number's bytes
pub bytes_of_number : (n : ℕ) (bytes : List ℕ) → All IsByte bytes → n ≤ length bytes → little_bytes n (little_number n bytes) ≡ take n bytes
bytes_of_number zero bytes all long = refl
bytes_of_number (suc n) [] all long = absurd (omega arith)
bytes_of_number (suc n) (b ∷ bytes) all long =
    let small : b < 256 = all 0 0 (omega arith) in
    let behind = little_number n bytes in
    let value : b + 256 * little_from 1 n (b ∷ bytes) ≡ behind * 256 + b = ap (λ r. b + 256 * r) (little_from-cons 0 n b bytes) ∙ omega arith in
    let low : (b + 256 * little_from 1 n (b ∷ bytes)) % 256 ≡ b = ap (λ v. v % 256) value ∙ mod_low behind 8 b small in
    let high : (b + 256 * little_from 1 n (b ∷ bytes)) / 256 ≡ behind = ap (λ v. v / 256) value ∙ shr_high behind 8 b small in
    cong-∷ low (low_first-half 0 n _ ∙ ap (little_bytes n) high ∙ bytes_of_number n bytes (λ k d within. all (suc k) d (omega arith)) (omega arith))

-- the bytes of a number read as that number, whatever is behind them
pub number_of_bytes : (width n : ℕ) (rest : List ℕ) → n < 256 ^ width → little_number width (little_bytes width n ++ rest) ≡ n
number_of_bytes width n rest small = little_number-reads_back width n rest small

-- each item is a byte, as a slice of bytes says it of the places
pub all_bytes : (bytes : List ℕ) → ((i : ℕ) → get_or bytes i 0 < 256) → All IsByte bytes
all_bytes bytes small = λ k d within. subst (λ (n : ℕ). n < 256) (get_or_default bytes k 0 d within) (small k)

-- the bytes of a number are bytes
byte_small : (i n : ℕ) → byte_at i n < 256
byte_small zero n = omega arith
byte_small (suc i) n = omega arith

pub number_bytes : (i width n : ℕ) → All IsByte (bytes_low_first i width n)
number_bytes i zero n = All-nil IsByte
number_bytes i (suc width) n = All-cons IsByte (byte_at i n) (bytes_low_first (suc i) width n) (byte_small i n) (number_bytes (suc i) width n)
