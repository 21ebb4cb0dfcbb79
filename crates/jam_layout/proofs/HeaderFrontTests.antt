-- The tests of a header's length, signature and revision in the code find the first broken rule of these.
use Rattle.std.proofs.Common.{◌≡◌, ℕ, ◌≤◌, ◌<◌, Bool, true, false, cond, not, ◌||◌, eqb, ltb, List, length, take, Option, Some, None, refl, ap, ◌∙◌, arith}
use Rattle.std.specs.Str.{bytes_eq}
use Rattle.std.proofs.lemmas.Bool.{le-ltb}
use Rattle.std.proofs.lemmas.Bool.Decides.{nat_tests}
use Rattle.std.proofs.lemmas.Slice.Eq.{bytes_eq-Decides}
use Rattle.jam_records.specs.record_numbers.Numbers.{u16_at}
use Rattle.jam_records.specs.Signature.{signature}
use Rattle.jam_records.specs.declared.damage.DamageRule.{DamageRule}
use Rattle.jam_records.specs.declared.damage.DamageRule.TheVariants.{Short, Signature, Revision}
use Rattle.damage_rules.specs.Rules.{first_broken}
use Rattle.jam_layout.specs.Headers.{front_rules}

named : Bool → Bool → Bool → Option DamageRule
named a b c = cond a (Some Short) (cond b (Some Signature) (cond c (Some Revision) None))

named_is : (bytes : List ℕ) → first_broken (front_rules bytes) ≡ named (ltb (length bytes) 76) (not (bytes_eq (take 4 bytes) signature)) (not (eqb (u16_at 4 bytes) 1) || not (eqb (u16_at 6 bytes) 0))
unfolding front_rules named
named_is bytes = refl

unsigned : (bytes : List ℕ) → (take 4 bytes ≡ signature → ⊥) → (b : Bool) → bytes_eq (take 4 bytes) signature ≡ b → b ≡ false
unsigned bytes other true e = absurd (other ((bytes_eq-Decides (take 4 bytes) signature).0 e))
unsigned bytes other false e = refl

pub front_short : (bytes : List ℕ) → length bytes < 76 → first_broken (front_rules bytes) ≡ Some Short
unfolding named
front_short bytes short =
    let t : ltb (length bytes) 76 ≡ true = grind (arith, nat_tests) in
    named_is bytes ∙ ap (λ b. named b (not (bytes_eq (take 4 bytes) signature)) (not (eqb (u16_at 4 bytes) 1) || not (eqb (u16_at 6 bytes) 0))) t

pub front_unsigned : (bytes : List ℕ) → 76 ≤ length bytes → (take 4 bytes ≡ signature → ⊥) → first_broken (front_rules bytes) ≡ Some Signature
unfolding named
front_unsigned bytes long other =
    let r : Bool = not (eqb (u16_at 4 bytes) 1) || not (eqb (u16_at 6 bytes) 0) in
    named_is bytes ∙ (ap (λ b. named b (not (bytes_eq (take 4 bytes) signature)) r) (le-ltb _ _ long) ∙ ap (λ b. named false (not b) r) (unsigned bytes other (bytes_eq (take 4 bytes) signature) refl))

signed_front : (bytes : List ℕ) (r : Bool) → 76 ≤ length bytes → take 4 bytes ≡ signature → (not (eqb (u16_at 4 bytes) 1) || not (eqb (u16_at 6 bytes) 0)) ≡ r → first_broken (front_rules bytes) ≡ named false false r
signed_front bytes r long signed is =
    named_is bytes ∙ (ap (λ b. named b (not (bytes_eq (take 4 bytes) signature)) (not (eqb (u16_at 4 bytes) 1) || not (eqb (u16_at 6 bytes) 0))) (le-ltb _ _ long)
    ∙ (ap (λ b. named false (not b) (not (eqb (u16_at 4 bytes) 1) || not (eqb (u16_at 6 bytes) 0))) ((bytes_eq-Decides (take 4 bytes) signature).1 signed) ∙ ap (λ b. named false false b) is))

pub front_revised : (bytes : List ℕ) → 76 ≤ length bytes → take 4 bytes ≡ signature → (u16_at 4 bytes ≡ 1 → ⊥) → first_broken (front_rules bytes) ≡ Some Revision
unfolding named
front_revised bytes long signed other = signed_front bytes true long signed (grind (arith, nat_tests))

pub front_reserved : (bytes : List ℕ) → 76 ≤ length bytes → take 4 bytes ≡ signature → (u16_at 6 bytes ≡ 0 → ⊥) → first_broken (front_rules bytes) ≡ Some Revision
unfolding named
front_reserved bytes long signed other = signed_front bytes true long signed (grind (arith, nat_tests))

pub front_passes : (bytes : List ℕ) → 76 ≤ length bytes → take 4 bytes ≡ signature → u16_at 4 bytes ≡ 1 → u16_at 6 bytes ≡ 0 → first_broken (front_rules bytes) ≡ None
unfolding named
front_passes bytes long signed revision reserved = signed_front bytes false long signed (grind (arith, nat_tests))
