-- What a trim leaves. P says of a byte that it is a blank.
use Rattle.std.proofs.Common.{◌≡◌, ℕ, ◌+◌, ◌-◌, ◌<◌, ◌≤◌, List, [], ◌∷◌, ◌++◌, length, get_or, take, drop, refl, sym, ap, ◌∙◌, subst, inl, inr, arith, length-append}
use Rattle.std.proofs.lemmas.List.{take_at, drop_at, take_more, take_all, get_or_append_left, get_or-append_right, append_assoc}
use Rattle.std.proofs.lemmas.List.Elements.{All-push}
use Rattle.std.proofs.lemmas.Bool.{cases_lt}
use Rattle.std.specs.List.{All}
use Rattle.text_fields.specs.Trim.{BeginsWithNone, EndsWithNone, Trimmed, TrimmedEnd}

-- a list that isn't empty ends with its last item
pub last_split : (xs : List ℕ) → 0 < length xs → xs ≡ take (length xs - 1) xs ++ get_or xs (length xs - 1) 0 ∷ []
last_split xs h =
    let e : length xs - 1 + 1 ≡ length xs = omega arith in
    let more : take (length xs - 1 + 1) xs ≡ take (length xs - 1) xs ++ get_or xs (length xs - 1) 0 ∷ [] = take_more xs (length xs - 1) 0 (omega arith) in
    sym (take_all (length xs) xs (omega arith)) ∙ (ap (λ n. take n xs) (sym e) ∙ more)

ends_not : (P : ℕ → Type 0) (text : List ℕ) → EndsWithNone P text → 0 < length text → P (get_or text (length text - 1) 0) → ⊥
ends_not P text ends some blank = ends _ _ (last_split text some) blank

-- fronts of one length are one
pub same_front : {X : Type 0} (a b x y : List X) → length a ≡ length b → a ++ x ≡ b ++ y → a ≡ b
same_front a b x y e same = sym (take_at a x (length a) refl) ∙ (ap (take (length a)) same ∙ take_at b y (length a) (sym e))

pub same_rest : {X : Type 0} (a b x y : List X) → length a ≡ length b → a ++ x ≡ b ++ y → x ≡ y
same_rest a b x y e same = sym (drop_at a x (length a) refl) ∙ (ap (drop (length a)) same ∙ drop_at b y (length a) (sym e))

not_longer : (P : ℕ → Type 0) (f a b : List ℕ) → TrimmedEnd P f a → TrimmedEnd P f b → length a < length b → ⊥
not_longer P f a b t u lt =
    let i : ℕ = length b - 1 in
    let in_b : get_or (b ++ u.pad) i 0 ≡ get_or b i 0 = get_or_append_left b u.pad 0 i (omega arith) in
    let in_pad : get_or (a ++ t.pad) i 0 ≡ get_or t.pad (i - length a) 0 = get_or-append_right a t.pad (length a) i 0 refl (omega arith) in
    let same : a ++ t.pad ≡ b ++ u.pad = sym t.whole ∙ u.whole in
    let fits : i - length a < length t.pad = omega (arith, ap length same, length-append a t.pad, length-append b u.pad) in
    ends_not P b u.ends (omega arith) (subst P (sym in_pad ∙ (ap (λ xs. get_or xs i 0) same ∙ in_b)) (t.blank (i - length a) 0 fits))

-- a field without the blanks at its end is one text
pub trimmed_end_unique : (P : ℕ → Type 0) (f a b : List ℕ) → TrimmedEnd P f a → TrimmedEnd P f b → a ≡ b
trimmed_end_unique P f a b t u = elim (cases_lt (length a) (length b)) [
  | inl lt ↦ absurd (not_longer P f a b t u lt)
  | inr ge ↦ elim (cases_lt (length b) (length a)) [
    | inl lt ↦ absurd (not_longer P f b a u t lt)
    | inr le ↦ same_front a b t.pad u.pad (omega arith) (sym t.whole ∙ u.whole)
  ]
]

-- A text without blanks at its ends stands P at a place in the field, and blanks around it.
record Stands (P : ℕ → Type 0) (f a : List ℕ) (p n : ℕ) : Type 0 where
  fits : p + n ≤ length f
  front : (k : ℕ) → k < p → P (get_or f k 0)
  back : (k : ℕ) → p + n ≤ k → k < length f → P (get_or f k 0)
  first : 0 < n → P (get_or f p 0) → ⊥
  last : 0 < n → P (get_or f (p + n - 1) 0) → ⊥
  is : a ≡ take n (drop p f)

first_split : (xs : List ℕ) → 0 < length xs → (rest : List ℕ) × (xs ≡ get_or xs 0 0 ∷ rest)
first_split [] h = absurd (omega arith)
first_split (x ∷ xs) h = (xs, refl)

stands : (P : ℕ → Type 0) (f a : List ℕ) (t : Trimmed P f a) → Stands P f a (length t.before) (length a)
stands P f a t =
    let p : ℕ = length t.before in
    let n : ℕ = length a in
    let e : f ≡ t.before ++ (a ++ t.after) = t.whole ∙ append_assoc t.before a t.after in
    let len : length f ≡ p + (n + length t.after) = ap length e ∙ omega (arith, length-append t.before (a ++ t.after), length-append a t.after) in
    let before : (k : ℕ) → k < p → get_or f k 0 ≡ get_or t.before k 0 = λ k lt. ap (λ xs. get_or xs k 0) e ∙ get_or_append_left t.before (a ++ t.after) 0 k lt in
    let past : (k : ℕ) → p ≤ k → get_or f k 0 ≡ get_or (a ++ t.after) (k - p) 0 = λ k le. ap (λ xs. get_or xs k 0) e ∙ get_or-append_right t.before (a ++ t.after) p k 0 refl le in
    let inside : (k : ℕ) → p ≤ k → k < p + n → get_or f k 0 ≡ get_or a (k - p) 0 = λ k le lt. past k le ∙ get_or_append_left a t.after 0 (k - p) (omega arith) in
    let after : (k : ℕ) → p + n ≤ k → get_or f k 0 ≡ get_or t.after (k - p - n) 0 = λ k le. past k (omega arith) ∙ get_or-append_right a t.after n (k - p) 0 refl (omega arith) in
    record {
      fits = omega arith;
      front = λ k lt. subst P (sym (before k lt)) (t.blank_before k 0 lt);
      back = λ k le lt. subst P (sym (after k le)) (t.blank_after (k - p - n) 0 (omega arith));
      first = λ some b.
          let s : (rest : List ℕ) × (a ≡ get_or a 0 0 ∷ rest) = first_split a some in
          let z : p - p ≡ 0 = omega arith in
          t.begins _ _ s.1 (subst P (inside p (omega arith) (omega arith) ∙ ap (λ k. get_or a k 0) z) b);
      last = λ some b.
          let z : p + n - 1 - p ≡ n - 1 = omega arith in
          ends_not P a t.ends some (subst P (inside (p + n - 1) (omega arith) (omega arith) ∙ ap (λ k. get_or a k 0) z) b);
      is = sym (ap (λ xs. take n (drop p xs)) e ∙ (ap (take n) (drop_at t.before (a ++ t.after) p refl) ∙ take_at a t.after n refl));
    }

starts_before : (P : ℕ → Type 0) (f a b : List ℕ) (p m q n : ℕ) → Stands P f a p m → Stands P f b q n → 0 < m → q ≤ p
starts_before P f a b p m q n x y some = elim (cases_lt p q) [
  | inl lt ↦ absurd (x.first some (y.front p lt))
  | inr le ↦ le
]

ends_after : (P : ℕ → Type 0) (f a b : List ℕ) (p m q n : ℕ) → Stands P f a p m → Stands P f b q n → 0 < m → p + m ≤ q + n
ends_after P f a b p m q n x y some = elim (cases_lt (q + n) (p + m)) [
  | inl lt ↦ absurd (x.last some (y.back (p + m - 1) (omega arith) (omega (arith, x.fits))))
  | inr le ↦ le
]

stands_once : (P : ℕ → Type 0) (f a b : List ℕ) (p m q n : ℕ) → Stands P f a p m → Stands P f b q n → a ≡ b
stands_once P f a b p m q n x y = elim (cases_lt 0 m) [
  | inl some ↦
      let s : q ≤ p = starts_before P f a b p m q n x y some in
      let e : p + m ≤ q + n = ends_after P f a b p m q n x y some in
      let other : 0 < n = omega arith in
      let s' : p ≤ q = starts_before P f b a q n p m y x other in
      let e' : q + n ≤ p + m = ends_after P f b a q n p m y x other in
      let pq : p ≡ q = omega arith in
      let mn : m ≡ n = omega arith in
      x.is ∙ (ap (λ k. take m (drop k f)) pq ∙ (ap (λ k. take k (drop q f)) mn ∙ sym y.is))
  | inr none ↦ elim (cases_lt 0 n) [
    | inl some ↦
        let s : p ≤ q = starts_before P f b a q n p m y x some in
        let e : q + n ≤ p + m = ends_after P f b a q n p m y x some in
        absurd (omega arith)
    | inr none' ↦
        let m0 : m ≡ 0 = omega arith in
        let n0 : n ≡ 0 = omega arith in
        x.is ∙ (ap (λ k. take k (drop p f)) m0 ∙ (ap (λ k. take k (drop q f)) (sym n0) ∙ sym y.is))
  ]
]

-- a field without the blanks at both ends is one text
pub trimmed_unique : (P : ℕ → Type 0) (f a b : List ℕ) → Trimmed P f a → Trimmed P f b → a ≡ b
trimmed_unique P f a b t u = stands_once P f a b _ _ _ _ (stands P f a t) (stands P f b u)

-- the field is the text, then spaces
pub record CutEnd (P : ℕ → Type 0) (field text : List ℕ) : Type 0 where
  pub pad : List ℕ
  pub whole : field ≡ text ++ pad
  pub blank : All P pad

-- the field is spaces, the text, then spaces
pub record CutBoth (P : ℕ → Type 0) (field text : List ℕ) : Type 0 where
  pub before : List ℕ
  pub after : List ℕ
  pub whole : field ≡ before ++ text ++ after
  pub blank_before : All P before
  pub blank_after : All P after
  pub ends : EndsWithNone P text

pub cut_more : (P : ℕ → Type 0) (field text : List ℕ) → CutBoth P field text → 0 < length text → P (get_or text 0 0) → CutBoth P field (take (length text - 1) (drop 1 text))
cut_more P field [] c some blank = absurd (omega arith)
cut_more P field (x ∷ rest) c some blank = subst (CutBoth P field) (sym (take_all (length (x ∷ rest) - 1) rest (omega arith))) record {
  before = c.before ++ x ∷ [];
  after = c.after;
  whole = c.whole ∙ ap (λ xs. xs ++ c.after) (sym (append_assoc c.before (x ∷ []) rest));
  blank_before = All-push P c.before x c.blank_before blank;
  blank_after = c.blank_after;
  ends = λ front last e b. c.ends (x ∷ front) last (ap (λ xs. x ∷ xs) e) b;
}

-- the empty text begins and ends with no blank
pub nothing_begins : (P : ℕ → Type 0) → BeginsWithNone P []
nothing_begins P first rest e b = omega (arith, ap length e)

pub nothing_ends : (P : ℕ → Type 0) → EndsWithNone P []
nothing_ends P front last e b = omega (arith, ap length e, length-append front (last ∷ []))
