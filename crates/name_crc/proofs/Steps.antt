-- Eight steps of a number, from those of its low byte.
use Rattle.std.proofs.Common.{◌≡◌, ℕ, ◌*◌, ◌/◌, ◌%◌, ◌^◌, ◌<◌, ◌==◌, bit_xor, if◌then◌else◌, refl, sym, ap, ◌∙◌, arith, ◌⊎◌, inl, inr, lit<, bit_and}
use Rattle.std.proofs.lemmas.Nat.{xor_shr, xor_mod, xor_comm, mod_below, and_mask}
use Rattle.std.proofs.lemmas.Bool.{cases_eq}
use lib.Bits.{xor_assoc, xor_zero_r, xor_shifted}
use Rattle.name_crc.specs.JamCrc.{polynomial, halved, eight_times}

-- what is added where the dropped bit is this one
added : ℕ → ℕ
added bit = if bit == 1 then polynomial else 0

two : (n : ℕ) → (n % 2 ≡ 0) ⊎ (n % 2 ≡ 1)
two n = elim (cases_eq (n % 2) 0) [ inl e ↦ inl e | inr e ↦ inr (omega (arith, mod_below n 2)) ]

halved-is : (n : ℕ) → halved n ≡ bit_xor (n / 2) (added (n % 2))
unfolding added
halved-is n = elim (two n) [ inl e ↦ rw e (sym (xor_zero_r (n / 2))) | inr e ↦ rw e refl ]

-- the exclusive or of four, two of which change places
swapped : (a b c d : ℕ) → bit_xor (bit_xor a b) (bit_xor c d) ≡ bit_xor (bit_xor a c) (bit_xor b d)
swapped a b c d =
    xor_assoc a b (bit_xor c d)
    ∙ ap (bit_xor a) (sym (xor_assoc b c d) ∙ ap (λ x. bit_xor x d) (xor_comm b c) ∙ xor_assoc c b d)
    ∙ sym (xor_assoc a c (bit_xor b d))

added-xor : (a b : ℕ) → added (bit_xor (a % 2) (b % 2)) ≡ bit_xor (added (a % 2)) (added (b % 2))
unfolding added
added-xor a b =
    elim (two a) [
      | inl p ↦ elim (two b) [ inl q ↦ rw (p, q) refl | inr q ↦ rw (p, q) refl ]
      | inr p ↦ elim (two b) [ inl q ↦ rw (p, q) refl | inr q ↦ rw (p, q) refl ]
    ]

-- halving goes through an exclusive or
pub halved-xor : (a b : ℕ) → halved (bit_xor a b) ≡ bit_xor (halved a) (halved b)
halved-xor a b =
    let half : bit_xor a b / 2 ≡ bit_xor (a / 2) (b / 2) = xor_shr a b 1 in
    let low : bit_xor a b % 2 ≡ bit_xor (a % 2) (b % 2) = xor_mod a b 1 in
    halved-is (bit_xor a b)
    ∙ ap (λ x. bit_xor x (added (bit_xor a b % 2))) half
    ∙ ap (λ x. bit_xor (bit_xor (a / 2) (b / 2)) (added x)) low
    ∙ ap (bit_xor (bit_xor (a / 2) (b / 2))) (added-xor a b)
    ∙ swapped (a / 2) (b / 2) (added (a % 2)) (added (b % 2))
    ∙ ap (λ x. bit_xor x (bit_xor (b / 2) (added (b % 2)))) (sym (halved-is a))
    ∙ ap (bit_xor (halved a)) (sym (halved-is b))

halved-double : (n : ℕ) → halved (n * 2) ≡ n
halved-double n = let e : n * 2 % 2 ≡ 0 = omega arith in rw e (omega arith)

eight-xor : (a b : ℕ) → eight_times (bit_xor a b) ≡ bit_xor (eight_times a) (eight_times b)
unfolding eight_times
eight-xor a b = simp halved-xor refl

-- eight zeros below a number go
eight-high : (n : ℕ) → eight_times (n * 2 * 2 * 2 * 2 * 2 * 2 * 2 * 2) ≡ n
unfolding eight_times
eight-high n = simp halved-double refl

-- eight steps take the low byte away and add its own eight steps to what stood above it
pub eight-split : (n : ℕ) → eight_times n ≡ bit_xor (n / 256) (eight_times (n % 256))
eight-split n =
    let high = n / 256 in
    let low = n % 256 in
    let parts : n ≡ bit_xor (high * 2 ^ 8) low = omega (arith, xor_shifted high 8 low (mod_below n 256 (lit< tt))) in
    let zeros : high * 2 ^ 8 ≡ high * 2 * 2 * 2 * 2 * 2 * 2 * 2 * 2 = omega arith in
    ap eight_times (parts ∙ ap (λ x. bit_xor x low) zeros)
    ∙ eight-xor (high * 2 * 2 * 2 * 2 * 2 * 2 * 2 * 2) low
    ∙ ap (λ x. bit_xor x (eight_times low)) (eight-high high)

-- the checksum after a byte that was added to it
pub added_byte : (crc byte : ℕ) → byte < 256 → bit_xor (bit_xor crc byte / 256) (eight_times (bit_and (bit_xor crc byte) 255)) ≡ eight_times (bit_xor crc byte)
added_byte crc byte small =
    ap (λ x. bit_xor (bit_xor crc byte / 256) (eight_times x)) (and_mask (bit_xor crc byte) 8) ∙ sym (eight-split (bit_xor crc byte))
