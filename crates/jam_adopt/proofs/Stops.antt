-- Where a walk over subfields stops, and what that says of the bytes up to its end.
use Rattle.std.proofs.Common.{◌≡◌, ◌≢◌, ℕ, zero, suc, ◌+◌, ◌-◌, ◌*◌, ◌^◌, ◌<◌, ◌≤◌, Bool, eqb, List, [], ◌∷◌, ◌++◌, length, take, drop, Option, Some, None, refl, sym, ap, ◌∙◌, subst, arith, inl, inr, length-append, append_assoc, append-nil}
use Rattle.std.specs.Prelude.{All, is_some, slice_range, bit_and}
use Rattle.std.specs.Int.{bit_at}
use Rattle.std.proofs.lemmas.Bool.{eq-eqb, ne_eqb, cases_lt, cases_eq, cond-true, cond-false, lt-ltb, le-ltb}
use Rattle.std.proofs.lemmas.List.{append_cancel_right, length-drop, take_at, drop-drop, drop-take}
use Rattle.std.proofs.lemmas.List.Elements.{All-head, All-tail}
use Rattle.std.proofs.lemmas.List.Folds.{drop_split}
use Rattle.std.proofs.lemmas.Nat.Bits.{bit_at_and, bit_at-zero, bit_at-pow_same, bit_at-pow_other, same_from_bits, and_pow}
use Rattle.record_numbers.specs.Numbers.{u16_at, u32_at}
use Rattle.record_numbers.proofs.NumberFronts.{u32_at-take}
use Rattle.jam_records.specs.Subfields.{subfields_text}
use Rattle.jam_records.specs.declared.subfield.Subfield.{Subfield}
use Rattle.jam_adopt.specs.Fields.{fields_of, first_field, value_of_id}
use Rattle.jam_adopt.specs.Leaps.{bit_of_id, PassesFields, IsCutAt, StopsAt}
use Rattle.jam_adopt.proofs.FieldLists.{before_others, front_passes, front_step, cut_none, no_fields}
use Rattle.jam_adopt.proofs.OneField.{u32_at-drop, u16_at-drop, u16_at-take}

nil_of : (xs : List ℕ) → length xs ≡ 0 → xs ≡ []
nil_of [] e = refl
nil_of (x ∷ xs) e = absurd (omega arith)

take_both : (n m : ℕ) (xs : List ℕ) → n ≤ m → take n (take m xs) ≡ take n xs
take_both zero m xs le = refl
take_both (suc n) zero xs le = absurd (omega arith)
take_both (suc n) (suc m) [] le = refl
take_both (suc n) (suc m) (x ∷ xs) le = ap (λ ys. x ∷ ys) (take_both n m xs (omega arith))

-- ---- the bytes between two places
pub between_length : (jhr : List ℕ) (at to : ℕ) → at ≤ to → to ≤ length jhr → length (slice_range jhr at to) ≡ to - at
between_length jhr at to below within =
    omega (arith, ap length (drop_split jhr at to below), length-append (slice_range jhr at to) (drop to jhr), length-drop at jhr, length-drop to jhr)

pub between_front : (jhr : List ℕ) (at to : ℕ) → at ≤ to → to ≤ length jhr → slice_range jhr at to ≡ take (to - at) (drop at jhr)
between_front jhr at to below within =
    sym (ap (take (to - at)) (drop_split jhr at to below) ∙ take_at (slice_range jhr at to) (drop to jhr) (to - at) (between_length jhr at to below within))

pub between_split : (jhr : List ℕ) (bits from at to : ℕ) (p : PassesFields jhr bits from at) → at ≤ to → to ≤ length jhr → slice_range jhr from to ≡ subfields_text p.fields ++ slice_range jhr at to
between_split jhr bits from at to p below within =
    let over : from ≤ to = let rising = p.rising in omega arith in
    append_cancel_right (slice_range jhr from to) (subfields_text p.fields ++ slice_range jhr at to) (drop to jhr)
    (sym (drop_split jhr from to over)
    ∙ (p.whole
    ∙ (ap (λ xs. subfields_text p.fields ++ xs) (drop_split jhr at to below)
    ∙ sym (append_assoc (subfields_text p.fields) (slice_range jhr at to) (drop to jhr)))))

-- what they are filled by, of which a front was passed over
pub fields_split : (jhr : List ℕ) (bits from at to : ℕ) (p : PassesFields jhr bits from at) → length jhr < 2 ^ 31 → at ≤ to → to ≤ length jhr → fields_of (slice_range jhr from to) ≡ before_others p.fields (fields_of (slice_range jhr at to))
fields_split jhr bits from at to p small below within =
    let split = between_split jhr bits from at to p below within in
    let len = between_length jhr from to (let rising = p.rising in omega arith) within in
    ap fields_of split ∙ front_passes p.fields (slice_range jhr at to) p.ids (omega (arith, ap length split, len, small))

-- where all was passed over
pub filled_there : (jhr : List ℕ) (bits from to : ℕ) (p : PassesFields jhr bits from to) → length jhr < 2 ^ 31 → fields_of (slice_range jhr from to) ≡ Some p.fields
filled_there jhr bits from to p small =
    let rest : slice_range jhr to to ≡ [] = nil_of (slice_range jhr to to) (omega (arith, between_length jhr to to (omega arith) p.within)) in
    fields_split jhr bits from to to p small (omega arith) p.within
    ∙ (ap (λ xs. before_others p.fields (fields_of xs)) rest ∙ (ap (before_others p.fields) no_fields ∙ ap (λ xs. Some xs) (append-nil p.fields)))

-- where a subfield is cut
pub cut_there : (jhr : List ℕ) (at to : ℕ) → at < to → to ≤ length jhr → IsCutAt jhr at to → fields_of (slice_range jhr at to) ≡ None
cut_there jhr at to some within cut =
    let rest : List ℕ = slice_range jhr at to in
    let len : length rest ≡ to - at = between_length jhr at to (omega arith) within in
    cut_none rest (omega arith)
    (λ long.
    let size : u32_at 4 rest ≡ u32_at (at + 4) jhr
    = ap (u32_at 4) (between_front jhr at to (omega arith) within) ∙ (u32_at-take 4 (to - at) (drop at jhr) (omega arith) ∙ u32_at-drop 4 at jhr) in
    let past = cut (omega arith) in
    omega (arith, size, past, len))

pub not_filled : (jhr : List ℕ) (bits from at to : ℕ) (p : PassesFields jhr bits from at) → length jhr < 2 ^ 31 → at < to → to ≤ length jhr → IsCutAt jhr at to → fields_of (slice_range jhr from to) ≡ None
not_filled jhr bits from at to p small some within cut =
    fields_split jhr bits from at to p small (omega arith) within ∙ ap (before_others p.fields) (cut_there jhr at to some within cut)

-- ---- whether the bytes are filled
bits_of_none : (a : ℕ) → bit_and a 0 ≡ 0
bits_of_none a = same_from_bits (bit_and a 0) 0 (λ i. bit_at_and a 0 i ∙ (omega (arith, bit_at-zero i) ∙ sym (bit_at-zero i)))

no_bit_stops : (jhr : List ℕ) (at to : ℕ) → StopsAt jhr 0 at to → IsCutAt jhr at to
no_bit_stops jhr at to (inl cut) = cut
no_bit_stops jhr at to (inr bit) = absurd (bit (bits_of_none (bit_of_id (u16_at at jhr))))

pub filled_test : (jhr : List ℕ) (from stop to : ℕ) (b : Bool) → length jhr < 2 ^ 31 → PassesFields jhr 0 from stop → stop ≤ to → to ≤ length jhr → (stop < to → StopsAt jhr 0 stop to) → b ≡ eqb stop to → b ≡ is_some (fields_of (slice_range jhr from to))
filled_test jhr from stop to b small p below within stops is = elim (cases_lt stop to) [
  | inl before ↦
      let other : stop ≢ to = λ same. omega arith in
      is ∙ (ne_eqb stop to other ∙ sym (ap is_some (not_filled jhr 0 from stop to p small before within (no_bit_stops jhr stop to (stops before)))))
  | inr behind ↦
      let same : stop ≡ to = omega arith in
      is ∙ (eq-eqb stop to same ∙ sym (ap is_some (filled_there jhr 0 from to (subst (PassesFields jhr 0 from) same p) small)))
]

-- ---- the first of an id
-- an id has the bit of itself
own_bit : (id : ℕ) → bit_and (2 ^ id) (2 ^ id) ≡ 0 → ⊥
own_bit id is =
    let one : bit_at (bit_and (2 ^ id) (2 ^ id)) id ≡ 1 = bit_at_and (2 ^ id) (2 ^ id) id ∙ omega (arith, bit_at-pow_same id) in
    omega (arith, one, ap (λ n. bit_at n id) is, bit_at-zero id)

-- and no other of the ids that are looked for
other_bit : (lo id : ℕ) → id ≢ lo → bit_and (bit_of_id lo) (2 ^ id) ≡ 0
other_bit lo id unlike = elim (cases_lt lo 7) [
  | inl few ↦
      ap (λ n. bit_and n (2 ^ id)) (cond-true _ (2 ^ lo) 0 (lt-ltb lo 7 few)) ∙ (and_pow (2 ^ lo) id ∙ omega (arith, ap (λ n. n * 2 ^ id) (bit_at-pow_other lo id unlike)))
  | inr many ↦
      ap (λ n. bit_and n (2 ^ id)) (cond-false _ (2 ^ lo) 0 (le-ltb lo 7 many)) ∙ (and_pow 0 id ∙ omega (arith, ap (λ n. n * 2 ^ id) (bit_at-zero id)))
]

not_of_id : (lo id : ℕ) → id < 7 → bit_and (bit_of_id lo) (2 ^ id) ≡ 0 → lo ≡ id → ⊥
not_of_id lo id few has same =
    let bit : bit_of_id lo ≡ 2 ^ id = ap bit_of_id same ∙ cond-true _ (2 ^ id) 0 (lt-ltb id 7 few) in
    own_bit id (sym (ap (λ n. bit_and n (2 ^ id)) bit) ∙ has)

-- subfields of other ids don't count
pub others_pass : (id : ℕ) (front rest : List Subfield) → id < 7 → All (λ s. bit_and (bit_of_id s.lo) (2 ^ id) ≡ 0) front → value_of_id id (front ++ rest) ≡ value_of_id id rest
others_pass id [] rest few all = refl
others_pass id (s ∷ front) rest few all =
    let P = λ (f : Subfield). bit_and (bit_of_id f.lo) (2 ^ id) ≡ 0 in
    cond-false _ s.value (value_of_id id (front ++ rest)) (ne_eqb s.lo id (not_of_id s.lo id few (All-head P s front all)))
    ∙ others_pass id front rest few (All-tail P s front all)

-- what stands behind a front, where the whole is filled
pub behind_front : (front fields : List Subfield) (others : Option (List Subfield)) → before_others front others ≡ Some fields → (rest : List Subfield) × (others ≡ Some rest) × (fields ≡ front ++ rest)
behind_front front fields None e = absurd cc
behind_front front fields (Some rest) e = let same : front ++ rest ≡ fields = cc in (rest, refl, sym same)

-- the value where the walk stopped at `to`
pub none_of_id : (jhr : List ℕ) (id from to : ℕ) (fields : List Subfield) (p : PassesFields jhr (2 ^ id) from to) → length jhr < 2 ^ 31 → id < 7 → fields_of (slice_range jhr from to) ≡ Some fields → value_of_id id fields ≡ []
none_of_id jhr id from to fields p small few filled =
    let same : p.fields ≡ fields = let e = sym (filled_there jhr (2 ^ id) from to p small) ∙ filled in cc in
    ap (value_of_id id) (sym same ∙ sym (append-nil p.fields)) ∙ others_pass id p.fields [] few p.others

-- the id and the value of the subfield at a place
field_id : (jhr : List ℕ) (at to : ℕ) → at ≤ to → to ≤ length jhr → at + 8 ≤ to → (first_field (slice_range jhr at to)).lo ≡ u16_at at jhr
field_id jhr at to over within long =
    ap (u16_at 0) (between_front jhr at to over within)
    ∙ (u16_at-take 0 (to - at) (drop at jhr) (omega arith) ∙ (u16_at-drop 0 at jhr ∙ ap (λ n. u16_at n jhr) (omega arith)))

field_value : (jhr : List ℕ) (at end to : ℕ) → at + 8 ≤ end → end ≤ to → to ≤ length jhr → end ≡ at + 8 + u32_at (at + 4) jhr → (first_field (slice_range jhr at to)).value ≡ slice_range jhr (at + 8) end
field_value jhr at end to long below within is =
    let rest : List ℕ = slice_range jhr at to in
    let front : rest ≡ take (to - at) (drop at jhr) = between_front jhr at to (omega arith) within in
    let size : u32_at 4 rest ≡ end - (at + 8) = ap (u32_at 4) front ∙ (u32_at-take 4 (to - at) (drop at jhr) (omega arith) ∙ (u32_at-drop 4 at jhr ∙ omega (arith, is))) in
    let split : to - at ≡ 8 + (to - at - 8) = omega arith in
    let behind : drop 8 rest ≡ take (to - at - 8) (drop (at + 8) jhr)
    = ap (drop 8) (front ∙ ap (λ n. take n (drop at jhr)) split) ∙ (drop-take 8 (to - at - 8) (drop at jhr) ∙ ap (take (to - at - 8)) (drop-drop 8 at jhr)) in
    ap (λ n. take n (drop 8 rest)) size
    ∙ (ap (take (end - (at + 8))) behind
    ∙ (take_both (end - (at + 8)) (to - at - 8) (drop (at + 8) jhr) (omega arith)
    ∙ sym (between_front jhr (at + 8) end long (omega arith))))

-- and where it stopped at a subfield that ends at most there
pub one_of_id : (jhr : List ℕ) (id from at end to : ℕ) (fields : List Subfield) (p : PassesFields jhr (2 ^ id) from at) → length jhr < 2 ^ 31 → id < 7 → at + 8 ≤ end → end ≤ to → to ≤ length jhr → end ≡ at + 8 + u32_at (at + 4) jhr
    → bit_and (bit_of_id (u16_at at jhr)) (2 ^ id) ≢ 0 → fields_of (slice_range jhr from to) ≡ Some fields → value_of_id id fields ≡ slice_range jhr (at + 8) end
one_of_id jhr id from at end to fields p small few long below within is bit filled =
    let rest : List ℕ = slice_range jhr at to in
    let over : at ≤ to = omega arith in
    let len : length rest ≡ to - at = between_length jhr at to over within in
    let front : rest ≡ take (to - at) (drop at jhr) = between_front jhr at to over within in
    let size : u32_at 4 rest ≡ u32_at (at + 4) jhr = ap (u32_at 4) front ∙ (u32_at-take 4 (to - at) (drop at jhr) (omega arith) ∙ u32_at-drop 4 at jhr) in
    let others = behind_front p.fields fields (fields_of rest) (sym (fields_split jhr (2 ^ id) from at to p small over within) ∙ filled) in
    let step = front_step rest (omega arith) (omega (arith, size)) in
    let first = behind_front (first_field rest ∷ []) others.0 (fields_of (drop (8 + u32_at 4 rest) rest)) (sym step ∙ others.1) in
    let lo : (first_field rest).lo ≡ u16_at at jhr = field_id jhr at to over within (omega arith) in
    let same : (first_field rest).lo ≡ id = elim (cases_eq (u16_at at jhr) id) [
      | inl equal ↦ lo ∙ equal
      | inr unlike ↦ absurd (bit (other_bit (u16_at at jhr) id (λ e. unlike (sym e))))
    ] in
    ap (value_of_id id) others.2
    ∙ (others_pass id p.fields others.0 few p.others
    ∙ (ap (value_of_id id) first.2
    ∙ (cond-true _ (first_field rest).value (value_of_id id first.0) (eq-eqb (first_field rest).lo id same)
    ∙ field_value jhr at end to long below within is)))

-- ---- the value that is answered
own_is : (id : ℕ) → id < 7 → bit_of_id id ≡ 2 ^ id
own_is id few = cond-true _ (2 ^ id) 0 (lt-ltb id 7 few)

-- what a walk that looks for an id says where it stopped
pub record Stopped (jhr : List ℕ) (id from at to : ℕ) : Type 0 where
  pub short : length jhr < 2 ^ 31
  pub few : id < 7
  pub passed : PassesFields jhr (2 ^ id) from at
  pub below : at ≤ to
  pub within : to ≤ length jhr
  pub stops : at < to → StopsAt jhr (2 ^ id) at to

pub stopped : (jhr : List ℕ) (id bits from at to : ℕ) → length jhr < 2 ^ 31 → id < 7 → bits ≡ bit_of_id id → PassesFields jhr bits from at → at ≤ to → to ≤ length jhr → (at < to → StopsAt jhr bits at to) → Stopped jhr id from at to
stopped jhr id bits from at to short few is passed below within stops =
    let same : bits ≡ 2 ^ id = is ∙ own_is id few in
    record {
      short = short;
      few = few;
      passed = subst (λ (n : ℕ). PassesFields jhr n from at) same passed;
      below = below;
      within = within;
      stops = subst (λ (n : ℕ). at < to → StopsAt jhr n at to) same stops;
    }

-- a whole subfield stands there
pub value_some : (jhr : List ℕ) (id from at end to : ℕ) → Stopped jhr id from at to → at + 8 ≤ end → end ≤ to → end ≡ at + 8 + u32_at (at + 4) jhr → (fields : List Subfield) → fields_of (slice_range jhr from to) ≡ Some fields → slice_range jhr (at + 8) end ≡ value_of_id id fields
value_some jhr id from at end to s long below is fields filled = elim (s.stops (omega arith)) [
  | inl cut ↦ absurd (let past = cut (omega arith) in omega (arith, past, is, below))
  | inr bit ↦ sym (one_of_id jhr id from at end to fields s.passed s.short s.few long below s.within is bit filled)
]

-- or none
pub value_none : (jhr : List ℕ) (id from at to : ℕ) → Stopped jhr id from at to → IsCutAt jhr at to → (fields : List Subfield) → fields_of (slice_range jhr from to) ≡ Some fields → [] ≡ value_of_id id fields
value_none jhr id from at to s cut fields filled = elim (cases_lt at to) [
  | inl some ↦ absurd (let e = sym (not_filled jhr (2 ^ id) from at to s.passed s.short some s.within cut) ∙ filled in cc)
  | inr behind ↦
      let here : at ≡ to = let below = s.below in omega arith in
      sym (none_of_id jhr id from to fields (subst (λ (n : ℕ). PassesFields jhr (2 ^ id) from n) here s.passed) s.short s.few filled)
]
