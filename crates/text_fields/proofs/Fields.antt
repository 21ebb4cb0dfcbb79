-- What is left of a field without the blanks at its ends, and the number that it is, where it is one.
use Rattle.std.proofs.Common.{◌≡◌, ◌≢◌, ◌⊎◌, inl, inr, ℕ, List, [], ◌∷◌, ◌++◌, length, refl, sym, ap, ◌∙◌, subst, arith, length-append}
use Rattle.std.proofs.lemmas.Bool.{cases_eq, cases_lt}
use Rattle.std.proofs.lemmas.List.{append_assoc}
use Rattle.std.proofs.lemmas.List.Elements.{All-nil, All-cons, All-head, All-tail, All-push}
use Rattle.std.specs.List.{All}
use Rattle.std.specs.Char.{digit_value}
use Rattle.std.specs.Str.Parse.{AllDigits, digits_value}
use Rattle.text_fields.specs.Number.{Digits, Number}
use Rattle.text_fields.specs.Split.{Lacks, SplitsAt}
use Rattle.text_fields.specs.Trim.{TrimmedEnd, Trimmed}
use Rattle.text_fields.proofs.Numbers.{no_number}
use Rattle.text_fields.proofs.Trimming.{CutBoth, nothing_begins, nothing_ends}

digits_or_not : (ds : List ℕ) → AllDigits 10 ds ⊎ (AllDigits 10 ds → ⊥)
digits_or_not [] = inl tt
digits_or_not (c ∷ cs) = elim (cases_lt (digit_value c) 10) [
  | inl lt ↦ elim (digits_or_not cs) [ inl h ↦ inl (lt, h) | inr none ↦ inr (λ h. none h.1) ]
  | inr ge ↦ inr (λ h. absurd (omega (arith, h.0)))
]

pub value_or_none : (ds : List ℕ) → ((n : ℕ) × Digits ds n) ⊎ ((n : ℕ) → Digits ds n → ⊥)
value_or_none ds = elim (cases_lt 0 (length ds)) [
  | inl some ↦ elim (digits_or_not ds) [
    | inl h ↦ inl (digits_value 10 ds, record { numeral = (some, h); value = refl })
    | inr none ↦ inr (λ n x. none x.numeral.1)
  ]
  | inr none ↦ inr (λ n x. absurd (omega (arith, x.numeral.0)))
]

-- each of the items has a property, or not each has it
pub all_or_not : {X : Type 0} (P : X → Type 0) → ((x : X) → P x ⊎ (P x → ⊥)) → (xs : List X) → All P xs ⊎ (All P xs → ⊥)
all_or_not P decide [] = inl (All-nil P)
all_or_not P decide (x ∷ xs) = elim (decide x) [
  | inl one ↦ elim (all_or_not P decide xs) [ inl rest ↦ inl (All-cons P x xs one rest) | inr none ↦ inr (λ all. none (All-tail P x xs all)) ]
  | inr refuted ↦ inr (λ all. refuted (All-head P x xs all))
]

-- a text is split at its first byte of a value, or has none
pub split_or_lacks : (byte : ℕ) (text : List ℕ) → ((front : List ℕ) × (rest : List ℕ) × SplitsAt byte text front rest) ⊎ Lacks byte text
split_or_lacks byte [] = inr (All-nil (λ b. b ≢ byte))
split_or_lacks byte (x ∷ xs) = elim (cases_eq x byte) [
  | inl e ↦ inl ([], xs, record { whole = ap (λ b. b ∷ xs) e; first = All-nil (λ b. b ≢ byte) })
  | inr other ↦ elim (split_or_lacks byte xs) [
    | inl s ↦ inl (x ∷ s.0, s.1, record { whole = ap (λ ys. x ∷ ys) s.2.whole; first = All-cons (λ b. b ≢ byte) x s.0 other s.2.first })
    | inr none ↦ inr (All-cons (λ b. b ≢ byte) x xs other none)
  ]
]

module _ (P : ℕ → Type 0) (blank_or_not : (b : ℕ) → P b ⊎ (P b → ⊥)) where
  one_ends : (x : ℕ) → (P x → ⊥) → (front : List ℕ) (last : ℕ) → x ∷ [] ≡ front ++ last ∷ [] → P last → ⊥
  one_ends x other [] last e b = let h : x ≡ last = cc in other (subst P (sym h) b)
  one_ends x other (y ∷ ys) last e b = omega (arith, ap length e, length-append ys (last ∷ []))

  more_ends : (x y : ℕ) (ys : List ℕ) → ((front : List ℕ) (last : ℕ) → y ∷ ys ≡ front ++ last ∷ [] → P last → ⊥)
      → (front : List ℕ) (last : ℕ) → x ∷ y ∷ ys ≡ front ++ last ∷ [] → P last → ⊥
  more_ends x y ys ends [] last e b = omega (arith, ap length e)
  more_ends x y ys ends (z ∷ zs) last e b = let h : y ∷ ys ≡ zs ++ last ∷ [] = cc in ends zs last h b

  trimmed_more : (x : ℕ) (xs text : List ℕ) → TrimmedEnd P xs text → (longer : List ℕ) × TrimmedEnd P (x ∷ xs) longer
  trimmed_more x xs [] t = elim (blank_or_not x) [
    | inl blank ↦ ([], record { pad = x ∷ xs; whole = refl; blank = All-cons P x xs blank (subst (All P) (sym t.whole) t.blank); ends = nothing_ends P })
    | inr other ↦ (x ∷ [], record { pad = t.pad; whole = ap (λ ys. x ∷ ys) t.whole; blank = t.blank; ends = one_ends x other })
  ]
  trimmed_more x xs (y ∷ ys) t = (x ∷ y ∷ ys, record { pad = t.pad; whole = ap (λ zs. x ∷ zs) t.whole; blank = t.blank; ends = more_ends x y ys t.ends })

  -- a field without the blanks at its end
  pub some_trimmed_end : (f : List ℕ) → (text : List ℕ) × TrimmedEnd P f text
  some_trimmed_end [] = ([], record { pad = []; whole = refl; blank = All-nil P; ends = nothing_ends P })
  some_trimmed_end (x ∷ xs) = let t : (text : List ℕ) × TrimmedEnd P xs text = some_trimmed_end xs in trimmed_more x xs t.0 t.1

  cut_one : (f : List ℕ) (x : ℕ) (rest : List ℕ) → CutBoth P f (x ∷ rest) → P x → CutBoth P f rest
  cut_one f x rest c blank = record {
    before = c.before ++ x ∷ [];
    after = c.after;
    whole = c.whole ∙ ap (λ xs. xs ++ c.after) (sym (append_assoc c.before (x ∷ []) rest));
    blank_before = All-push P c.before x c.blank_before blank;
    blank_after = c.blank_after;
    ends = λ front last e b. c.ends (x ∷ front) last (ap (λ xs. x ∷ xs) e) b;
  }

  front_trimmed : (f text : List ℕ) → CutBoth P f text → (shorter : List ℕ) × Trimmed P f shorter
  front_trimmed f [] c = (
    [],
    record {
      before = c.before;
      after = c.after;
      whole = c.whole;
      blank_before = c.blank_before;
      blank_after = c.blank_after;
      begins = nothing_begins P;
      ends = c.ends;
    },
  )
  front_trimmed f (x ∷ rest) c = elim (blank_or_not x) [
    | inl blank ↦ front_trimmed f rest (cut_one f x rest c blank)
    | inr other ↦ (
      x ∷ rest,
      record {
        before = c.before;
        after = c.after;
        whole = c.whole;
        blank_before = c.blank_before;
        blank_after = c.blank_after;
        begins = λ first more e b. let h : x ≡ first = cc in other (subst P (sym h) b);
        ends = c.ends;
      },
    )
  ]

  -- without the blanks at both ends
  pub some_trimmed : (f : List ℕ) → (text : List ℕ) × Trimmed P f text
  some_trimmed f =
      let t : (text : List ℕ) × TrimmedEnd P f text = some_trimmed_end f in
      front_trimmed f t.0 record { before = []; after = t.1.pad; whole = t.1.whole; blank_before = All-nil P; blank_after = t.1.blank; ends = t.1.ends }

  -- the number that it is, or that it is none
  pub number_or_none : (most : ℕ) (f : List ℕ) → ((n : ℕ) × Number P most f n) ⊎ ((n : ℕ) → Number P most f n → ⊥)
  number_or_none most f =
      let t : (text : List ℕ) × Trimmed P f text = some_trimmed f in
      elim (cases_lt most (length t.0)) [
        | inl long ↦ inr (no_number P most f t.0 t.1 (λ n short x. absurd (omega arith)))
        | inr short ↦ elim (value_or_none t.0) [
          | inl v ↦ inl (v.0, record { text = t.0; trimmed = t.1; short = short; digits = v.1 })
          | inr none ↦ inr (no_number P most f t.0 t.1 (λ n s x. none n x))
        ]
      ]
