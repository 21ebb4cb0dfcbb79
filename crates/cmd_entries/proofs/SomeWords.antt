-- A line is words, or it is none.
use Rattle.std.proofs.Common.{◌≡◌, ◌≢◌, ◌⊎◌, inl, inr, ℕ, zero, suc, ◌<◌, ◌≤◌, List, [], ◌∷◌, ◌++◌, length, refl, sym, ◌∙◌, ap, subst, arith, length-append}
use Rattle.std.proofs.lemmas.Bool.{cases_eq}
use Rattle.std.proofs.lemmas.List.Elements.{All-nil, All-cons}
use Rattle.line_words.proofs.LineLaws.{SoFar, bare_line, bare_word, badly_ended, begun, breaks_off, ends, goes_on, open_quote, well_ended}
use Rattle.line_words.specs.Line.{Begins, BeginsBare, BeginsQuoted, EndsWord, LineReads, SkipsSpaces}
use Rattle.text_fields.specs.Split.{Lacks, SplitsAt}
use Rattle.text_fields.specs.Trim.{BeginsWithNone}

skipped : (line : List ℕ) → (rest : List ℕ) × SkipsSpaces line rest
skipped [] = ([], record { spaces = []; whole = refl; blank = All-nil (λ b. b ≡ 32); begins = λ first behind e. absurd (cc e) })
skipped (b ∷ line) = elim (cases_eq b 32) [
  | inl space ↦
      let more : (rest : List ℕ) × SkipsSpaces line rest = skipped line in
      (more.0, record { spaces = b ∷ more.1.spaces; whole = ap (λ (l : List ℕ). b ∷ l) more.1.whole; blank = All-cons (λ b. b ≡ 32) b more.1.spaces space more.1.blank; begins = more.1.begins })
  | inr other ↦ (
    b ∷ line,
    record { spaces = []; whole = refl; blank = All-nil (λ b. b ≡ 32); begins = λ first behind e space. let same : b ≡ first = cc in other (same ∙ space) },
  )
]

split_or_lacks : (byte : ℕ) (text : List ℕ) → ((front rest : List ℕ) × SplitsAt byte text front rest) ⊎ Lacks byte text
split_or_lacks byte [] = inr (All-nil (λ b. b ≢ byte))
split_or_lacks byte (x ∷ xs) = elim (cases_eq x byte) [
  | inl e ↦ inl ([], xs, record { whole = ap (λ b. b ∷ xs) e; first = All-nil (λ b. b ≢ byte) })
  | inr other ↦ elim (split_or_lacks byte xs) [
    | inl s ↦ inl (x ∷ s.0, s.1, record { whole = ap (λ (ys : List ℕ). x ∷ ys) s.2.whole; first = All-cons (λ b. b ≢ byte) x s.0 other s.2.first })
    | inr none ↦ inr (All-cons (λ b. b ≢ byte) x xs other none)
  ]
]

ends_or_not : (rest : List ℕ) → EndsWord rest ⊎ (EndsWord rest → ⊥)
ends_or_not [] = inl tt
ends_or_not (b ∷ rest) = cases_eq b 32

-- a word begins the text, or none does
abbrev BeginsSome : List ℕ → Type 0
BeginsSome text = ((word rest : List ℕ) × Begins text word rest) ⊎ ((word rest : List ℕ) → Begins text word rest → ⊥)

bare_no_quote : (text word rest behind : List ℕ) → BeginsBare text word rest → text ≡ 34 ∷ behind → ⊥
bare_no_quote text [] rest behind bare is = bare.bare.some refl
bare_no_quote text (w ∷ word) rest behind bare is =
    let e = sym bare.whole ∙ is in
    let same : w ≡ 34 = cc in
    bare.bare.unquoted word (λ i. same i ∷ word)

quoted_only : (behind : List ℕ) → ((word rest : List ℕ) → BeginsQuoted behind word rest → ⊥) → (word rest : List ℕ) → Begins (34 ∷ behind) word rest → ⊥
quoted_only behind none word rest (inl bare) = bare_no_quote (34 ∷ behind) word rest behind bare refl
quoted_only behind none word rest (inr quoted) =
    let e = quoted.1 in
    let same : quoted.0 ≡ behind = cc in
    none word rest (subst (λ (t : List ℕ). BeginsQuoted t word rest) same quoted.2)

in_quotes : (behind : List ℕ) → BeginsSome (34 ∷ behind)
in_quotes behind = elim (split_or_lacks 34 behind) [
  | inl s ↦ elim (ends_or_not s.1) [
    | inl end ↦ inl (s.0, s.1, inr (behind, refl, well_ended behind s.0 s.1 s.2 end))
    | inr never ↦ inr (quoted_only behind (λ word rest. badly_ended behind s.0 s.1 word rest s.2 never))
  ]
  | inr none ↦ inr (quoted_only behind (λ word rest. open_quote behind word rest none))
]

bare : (text : List ℕ) → text ≢ [] → BeginsWithNone (λ b. b ≡ 32) text → ((behind : List ℕ) → text ≢ 34 ∷ behind) → BeginsSome text
bare text some none unquoted = elim (split_or_lacks 32 text) [
  | inl s ↦ inl (s.0, 32 ∷ s.1, inl (bare_word text s.0 s.1 s.2 none unquoted))
  | inr lacks ↦ inl (text, [], inl (bare_line text some lacks unquoted))
]

word_or_none : (b : ℕ) (text : List ℕ) → BeginsWithNone (λ b. b ≡ 32) (b ∷ text) → BeginsSome (b ∷ text)
word_or_none b text none = elim (cases_eq b 34) [
  | inl quote ↦ subst (λ (q : ℕ). BeginsSome (q ∷ text)) (sym quote) (in_quotes text)
  | inr other ↦ bare (b ∷ text) (λ e. cc e) none (λ behind e. let same : b ≡ 34 = cc in other same)
]

abbrev pub IsLine : List ℕ → Type 0
IsLine line = ((words : List (List ℕ)) × LineReads line words) ⊎ ((words : List (List ℕ)) → LineReads line words → ⊥)

-- what follows a word is shorter
word_size : (text word rest : List ℕ) → Begins text word rest → length rest < length text
word_size text [] rest (inl bare) = absurd (bare.bare.some refl)
word_size text (w ∷ word) rest (inl bare) = omega (arith, ap length bare.whole, length-append (w ∷ word) rest)
word_size text word rest (inr quoted) = omega (arith, ap length quoted.1, ap length quoted.2.whole, length-append word (34 ∷ rest))

shorter : (fuel b : ℕ) (text word rest next : List ℕ) → length (b ∷ text) ≤ suc fuel → Begins (b ∷ text) word rest → SkipsSpaces rest next → length next ≤ fuel
shorter fuel b text word rest next few begins skips = omega (arith, few, word_size (b ∷ text) word rest begins, ap length skips.whole, length-append skips.spaces next)

walks : (fuel : ℕ) (line rest : List ℕ) (words : List (List ℕ)) → length rest ≤ fuel → SoFar line rest words → IsLine line
walks fuel line [] words few so_far = inl (words, ends line [] words so_far refl)
walks zero line (b ∷ rest) words few so_far = absurd (omega (arith, few))
walks (suc fuel) line (b ∷ rest) words few so_far = elim (word_or_none b rest so_far.begins) [
  | inl w ↦
      let next : (behind : List ℕ) × SkipsSpaces w.1 behind = skipped w.1 in
      walks fuel line next.0 (words ++ w.0 ∷ []) (shorter fuel b rest w.0 w.1 next.0 few w.2 next.1) (goes_on line (b ∷ rest) w.0 w.1 next.0 words so_far (λ e. cc e) w.2 next.1)
  | inr none ↦ inr (breaks_off line (b ∷ rest) words so_far (λ e. cc e) none)
]

pub line_or_none : (line : List ℕ) → IsLine line
line_or_none line =
    let first : (rest : List ℕ) × SkipsSpaces line rest = skipped line in
    walks (length first.0) line first.0 [] (omega arith) (begun line first.0 first.1)
