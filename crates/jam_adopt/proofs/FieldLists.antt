-- The subfields that fill bytes: one more at the front, and where one passes the end.
use Rattle.std.proofs.Common.{◌≡◌, ℕ, zero, suc, ◌+◌, ◌-◌, ◌^◌, ◌<◌, ◌≤◌, List, [], ◌∷◌, ◌++◌, length, take, drop, Option, Some, None, refl, sym, ap, ◌∙◌, arith, inl, inr, length-append, append_assoc}
use Rattle.std.specs.Prelude.{All, option_map}
use Rattle.std.proofs.lemmas.Bool.{lt-ltb, le-ltb, cond-true, cond-false, cases_lt}
use Rattle.std.proofs.lemmas.List.{take_at, drop_at}
use Rattle.std.proofs.lemmas.List.Elements.{All-head, All-tail}
use Rattle.record_numbers.specs.Numbers.{u32_at}
use Rattle.jam_records.specs.Subfields.{subfield_text, subfields_text, IsSubfield}
use Rattle.jam_records.specs.declared.subfield.Subfield.{Subfield}
use Rattle.jam_records.proofs.SubfieldLemmas.{lo_is, hi_is, size_is, behind_head, text_length}
use Rattle.jam_adopt.specs.Fields.{first_field, fields_from, fields_of}

abbrev none : Option (List Subfield)
none = None

-- no bytes are filled by no subfields
pub no_fields : fields_of [] ≡ Some []
unfolding fields_from
no_fields = refl

-- these subfields in front of others, where there are others
abbrev pub before_others : List Subfield → Option (List Subfield) → Option (List Subfield)
before_others front others = option_map (λ fields. front ++ fields) others

-- bytes that belong to the subfield before are passed over
passed : (left : ℕ) (bytes : List ℕ) → left ≤ length bytes → fields_from left bytes ≡ fields_of (drop left bytes)
unfolding fields_from
passed zero bytes within = refl
passed (suc left) [] within = absurd (omega arith)
passed (suc left) (b ∷ bytes) within = passed left bytes (omega arith)

-- and where they aren't all there, the bytes aren't filled
missed : (left : ℕ) (bytes : List ℕ) → length bytes < left → fields_from left bytes ≡ none
unfolding fields_from
missed zero bytes past = absurd (omega arith)
missed (suc left) [] past = refl
missed (suc left) (b ∷ bytes) past = missed left bytes (omega arith)

drop_one : (n b : ℕ) (bytes : List ℕ) → 0 < n → drop (n - 1) bytes ≡ drop n (b ∷ bytes)
drop_one zero b bytes lt = absurd (omega arith)
drop_one (suc n) b bytes lt = ap (λ k. drop k bytes) (omega arith)

-- one whole subfield, and those behind it
pub front_step : (bytes : List ℕ) → 8 ≤ length bytes → 8 + u32_at 4 bytes ≤ length bytes → fields_of bytes ≡ before_others (first_field bytes ∷ []) (fields_of (drop (8 + u32_at 4 bytes) bytes))
unfolding fields_from
front_step [] whole within = absurd (omega arith)
front_step (b ∷ bytes) whole within =
    let more = λ (others : Option (List Subfield)). option_map (λ fields. first_field (b ∷ bytes) ∷ fields) others in
    cond-false _ none (more (fields_from (7 + u32_at 4 (b ∷ bytes)) bytes)) (le-ltb (length bytes) 7 (omega arith))
    ∙ ap more (passed (7 + u32_at 4 (b ∷ bytes)) bytes (omega arith) ∙ ap fields_of (ap (λ n. drop n bytes) (omega arith) ∙ drop_one (8 + u32_at 4 (b ∷ bytes)) b bytes (omega arith)))

-- bytes that begin with no whole subfield aren't filled
pub cut_none : (bytes : List ℕ) → 0 < length bytes → (8 ≤ length bytes → length bytes < 8 + u32_at 4 bytes) → fields_of bytes ≡ none
unfolding fields_from
cut_none [] some cut = absurd (omega arith)
cut_none (b ∷ bytes) some cut = elim (cases_lt (length bytes) 7) [
  | inl short ↦ cond-true _ none _ (lt-ltb (length bytes) 7 short)
  | inr long ↦
      let past : length bytes < 7 + u32_at 4 (b ∷ bytes) = let less = cut (omega arith) in omega arith in
      cond-false _ none _ (le-ltb (length bytes) 7 long)
      ∙ ap (λ (others : Option (List Subfield)). option_map (λ fields. first_field (b ∷ bytes) ∷ fields) others) (missed (7 + u32_at 4 (b ∷ bytes)) bytes past)
]

-- the subfield whose text is at the front
pub first_is : (s : Subfield) (rest : List ℕ) → IsSubfield s → length (subfield_text s ++ rest) < 2 ^ 32 → first_field (subfield_text s ++ rest) ≡ s
first_is s rest ids small =
    let long : length (subfield_text s ++ rest) ≡ 8 + length s.value + length rest = length-append (subfield_text s) rest ∙ ap (λ n. n + length rest) (text_length s) in
    let size : u32_at 4 (subfield_text s ++ rest) ≡ length s.value = size_is s rest (omega arith) in
    let value : take (u32_at 4 (subfield_text s ++ rest)) (drop 8 (subfield_text s ++ rest)) ≡ s.value
    = ap (λ xs. take (u32_at 4 (subfield_text s ++ rest)) xs) (behind_head s rest) ∙ take_at s.value rest (u32_at 4 (subfield_text s ++ rest)) (sym size) in
    λ i. record { lo = lo_is s rest ids.0 i; hi = hi_is s rest ids.1 i; value = value i }

regroup : (s : Subfield) (front : List Subfield) (others : Option (List Subfield)) → before_others (s ∷ []) (before_others front others) ≡ before_others (s ∷ front) others
regroup s front None = refl
regroup s front (Some fields) = refl

same_others : (others : Option (List Subfield)) → others ≡ before_others [] others
same_others None = refl
same_others (Some fields) = refl

-- whole subfields, and what is behind them
pub front_passes : (front : List Subfield) (rest : List ℕ) → All IsSubfield front → length (subfields_text front ++ rest) < 2 ^ 32 → fields_of (subfields_text front ++ rest) ≡ before_others front (fields_of rest)
front_passes [] rest all small = same_others (fields_of rest)
front_passes (s ∷ front) rest all small =
    let bytes : List ℕ = subfield_text s ++ (subfields_text front ++ rest) in
    let whole : subfields_text (s ∷ front) ++ rest ≡ bytes = append_assoc (subfield_text s) (subfields_text front) rest in
    let fits : length bytes < 2 ^ 32 = omega (arith, ap length whole) in
    let long : length bytes ≡ 8 + length s.value + length (subfields_text front ++ rest) = length-append (subfield_text s) (subfields_text front ++ rest) ∙ ap (λ n. n + length (subfields_text front ++ rest)) (text_length s) in
    let size : u32_at 4 bytes ≡ length s.value = size_is s (subfields_text front ++ rest) (omega arith) in
    let end : 8 + u32_at 4 bytes ≡ length (subfield_text s) = omega (arith, size, text_length s) in
    let behind : drop (8 + u32_at 4 bytes) bytes ≡ subfields_text front ++ rest = drop_at (subfield_text s) (subfields_text front ++ rest) (8 + u32_at 4 bytes) (sym end) in
    ap fields_of whole
    ∙ (front_step bytes (omega arith) (omega arith)
    ∙ (ap (λ first. before_others (first ∷ []) (fields_of (drop (8 + u32_at 4 bytes) bytes))) (first_is s (subfields_text front ++ rest) (All-head IsSubfield s front all) fits)
    ∙ (ap (λ xs. before_others (s ∷ []) (fields_of xs)) behind
    ∙ (ap (before_others (s ∷ [])) (front_passes front rest (All-tail IsSubfield s front all) (omega (arith, long)))
    ∙ regroup s front (fields_of rest)))))
