-- Places between which whole subfields stand, and leaps over them.
use Rattle.std.proofs.Common.{◌≡◌, ℕ, zero, suc, ◌+◌, ◌-◌, ◌*◌, ◌%◌, ◌^◌, ◌<◌, ◌≤◌, min, List, [], ◌∷◌, ◌++◌, length, drop, refl, sym, ap, ◌∙◌, subst, arith, inl, inr, length-append, append_assoc}
use Rattle.std.specs.Prelude.{bit_and, bit_or, slice_index_or}
use Rattle.std.specs.Int.{bit_at}
use Rattle.std.proofs.lemmas.Bool.{cases_lt}
use Rattle.std.proofs.lemmas.List.{get_or_append_left, get_or_push}
use Rattle.std.proofs.lemmas.List.Elements.{All-nil, All-append}
use Rattle.std.proofs.lemmas.Grind.{flat_map-append}
use Rattle.std.proofs.lemmas.Nat.Bits.{bit_at_and, bit_at_or, bit_at-zero, same_from_bits}
use Rattle.record_numbers.specs.Numbers.{u16_at}
use Rattle.jam_records.specs.Subfields.{subfield_text, subfields_text, IsSubfield}
use Rattle.jam_adopt.specs.Leaps.{bit_of_id, PassesFields, IsLeap, AreLeaps}
use Rattle.jam_adopt.specs.declared.leaps.Leap.{Leap}

-- ---- bits
no_bits : (a b i : ℕ) → bit_and a b ≡ 0 → min (bit_at a i) (bit_at b i) ≡ 0
no_bits a b i is = sym (bit_at_and a b i) ∙ (ap (λ n. bit_at n i) is ∙ bit_at-zero i)

-- where none of both has a bit of these, neither has
pub first_has_none : (a b bits : ℕ) → bit_and (bit_or a b) bits ≡ 0 → bit_and a bits ≡ 0
first_has_none a b bits is =
    same_from_bits (bit_and a bits) 0 (λ i. bit_at_and a bits i ∙ (omega (arith, no_bits (bit_or a b) bits i is, bit_at_or a b i) ∙ sym (bit_at-zero i)))

pub second_has_none : (a b bits : ℕ) → bit_and (bit_or a b) bits ≡ 0 → bit_and b bits ≡ 0
second_has_none a b bits is =
    same_from_bits (bit_and b bits) 0 (λ i. bit_at_and b bits i ∙ (omega (arith, no_bits (bit_or a b) bits i is, bit_at_or a b i) ∙ sym (bit_at-zero i)))

-- ---- what is passed over
pub passes_none : (jhr : List ℕ) (bits at : ℕ) → at ≤ length jhr → PassesFields jhr bits at at
passes_none jhr bits at within = record {
  fields = [];
  ids = All-nil IsSubfield;
  others = All-nil (λ s. bit_and (bit_of_id s.lo) bits ≡ 0);
  rising = omega arith;
  within = within;
  whole = refl;
}

-- two passages, one after the other
pub passes_both : (jhr : List ℕ) (bits at mid to : ℕ) → PassesFields jhr bits at mid → PassesFields jhr bits mid to → PassesFields jhr bits at to
passes_both jhr bits at mid to first second = record {
  fields = first.fields ++ second.fields;
  ids = All-append IsSubfield first.fields second.fields first.ids second.ids;
  others = All-append (λ s. bit_and (bit_of_id s.lo) bits ≡ 0) first.fields second.fields first.others second.others;
  rising = let below = first.rising in let above = second.rising in omega arith;
  within = second.within;
  whole =
      first.whole
      ∙ (ap (λ xs. subfields_text first.fields ++ xs) second.whole
      ∙ (sym (append_assoc (subfields_text first.fields) (subfields_text second.fields) (drop to jhr))
      ∙ ap (λ xs. xs ++ drop to jhr) (sym (flat_map-append subfield_text first.fields second.fields))));
}

-- ---- leaps
pub leap_nowhere : (jhr : List ℕ) (at : ℕ) (leap : Leap) → leap.to ≡ at → at ≤ length jhr → IsLeap jhr at leap
leap_nowhere jhr at leap is within = record {
  rising = omega arith;
  within = omega arith;
  passes = λ bits others. subst (PassesFields jhr bits at) (sym is) (passes_none jhr bits at within);
}

-- over one subfield
pub leap_one : (jhr : List ℕ) (at : ℕ) (leap : Leap) → at ≤ leap.to → leap.to ≤ length jhr → ((bits : ℕ) → bit_and (bit_of_id (u16_at at jhr)) bits ≡ 0 → PassesFields jhr bits at leap.to) → leap.ids ≡ bit_of_id (u16_at at jhr) → IsLeap jhr at leap
leap_one jhr at leap rising within one ids = record {
  rising = rising;
  within = within;
  passes = λ bits others. one bits (sym (ap (λ n. bit_and n bits) ids) ∙ others);
}

-- over one, and two leaps behind it
pub leap_three : (jhr : List ℕ) (at end own : ℕ) (leap first second : Leap) → ((bits : ℕ) → bit_and own bits ≡ 0 → PassesFields jhr bits at end) → at ≤ end → IsLeap jhr end first → IsLeap jhr first.to second
    → leap.to ≡ second.to → leap.ids ≡ bit_or (bit_or own first.ids) second.ids → IsLeap jhr at leap
leap_three jhr at end own leap first second one below a b to ids = record {
  rising = let x = a.rising in let y = b.rising in omega arith;
  within = let x = b.within in omega arith;
  passes = λ bits others.
      let all : bit_and (bit_or (bit_or own first.ids) second.ids) bits ≡ 0 = sym (ap (λ n. bit_and n bits) ids) ∙ others in
      let both = first_has_none (bit_or own first.ids) second.ids bits all in
      let third = second_has_none (bit_or own first.ids) second.ids bits all in
      let passage = passes_both jhr bits at end second.to (one bits (first_has_none own first.ids bits both)) (passes_both jhr bits end first.to second.to (a.passes bits (second_has_none own first.ids bits both)) (b.passes bits third)) in
      subst (PassesFields jhr bits at) (sym to) passage;
}

-- ---- the bit of an id as it is made
pub bit_shift : (id : ℕ) → id < 7 → 1 * 2 ^ id % 2 ^ 8 ≡ 2 ^ id
bit_shift zero few = refl
bit_shift (suc zero) few = refl
bit_shift (suc (suc zero)) few = refl
bit_shift (suc (suc (suc zero))) few = refl
bit_shift (suc (suc (suc (suc zero)))) few = refl
bit_shift (suc (suc (suc (suc (suc zero))))) few = refl
bit_shift (suc (suc (suc (suc (suc (suc zero)))))) few = refl
bit_shift (suc (suc (suc (suc (suc (suc (suc id))))))) few = absurd (omega arith)

-- ---- leaps from the last places on
pub leap_from : (jhr : List ℕ) (leaps : List Leap) (at : ℕ) (other : Leap) → AreLeaps jhr leaps → at ≤ length jhr → length jhr - at < length leaps → IsLeap jhr at (slice_index_or leaps (length jhr - at) other)
leap_from jhr leaps at other each within known =
    let back : length jhr - (length jhr - at) ≡ at = omega arith in
    subst (λ (n : ℕ). IsLeap jhr n (slice_index_or leaps (length jhr - at) other)) back (each (length jhr - at) other known)

pub leap_added : (jhr : List ℕ) (leaps new : List Leap) (leap : Leap) → AreLeaps jhr leaps → IsLeap jhr (length jhr - length leaps) leap → new ≡ leaps ++ leap ∷ [] → AreLeaps jhr new
leap_added jhr leaps new leap each is added k other within = elim (cases_lt k (length leaps)) [
  | inl before ↦
      let same : slice_index_or leaps k other ≡ slice_index_or new k other = sym (ap (λ xs. slice_index_or xs k other) added ∙ get_or_append_left leaps (leap ∷ []) other k before) in
      subst (IsLeap jhr (length jhr - k)) same (each k other before)
  | inr behind ↦
      let last : length leaps ≡ k = omega (arith, within, ap length added, length-append leaps (leap ∷ [])) in
      let same : leap ≡ slice_index_or new k other = sym (ap (λ xs. slice_index_or xs k other) added ∙ get_or_push leaps leap other k last) in
      subst (λ (n : ℕ). IsLeap jhr (length jhr - n) (slice_index_or new k other)) last (subst (IsLeap jhr (length jhr - length leaps)) same is)
]
