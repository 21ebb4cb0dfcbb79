-- What is shown of bodies.
use Rattle.std.proofs.Common.{◌≡◌, ◌≢◌, ℕ, suc, ◌+◌, ◌-◌, ◌<◌, ◌≤◌, Bool, false, cond, eqb, List, [], ◌∷◌, ◌++◌, length, map, get_or, take, refl, sym, ap, ◌∙◌, inl, inr, arith, length-append}
use Rattle.std.specs.List.{All, slice_split, onto_first}
use Rattle.std.proofs.lemmas.Bool.{eq-eqb, ne_eqb, cases_eq, cases_Bool, cond-true, cond-false}
use Rattle.std.proofs.lemmas.List.Elements.{All-map}
use Rattle.std.proofs.lemmas.List.Folds.{map_fixed}
use Rattle.std.proofs.lemmas.List.{length-map, append_assoc, append-nil}
use Rattle.std.proofs.lemmas.List.Splits.{slice_split_at, slice_split_none, slice_split-cons_yes, slice_split-cons_no, length-slice_split}
use Rattle.qwk_blocks.specs.Text.{joined_lines, IsLine}
use Rattle.text_fields.specs.Split.{Lacks, SplitsAt}
use Rattle.offered_packets.specs.Shown.{shown_line, body_lines, shown_lines}

-- ---- bodies
abbrev is_end : ℕ → Bool
is_end b = eqb b 0x0D

lacks_test : (text : List ℕ) → Lacks 0x0D text → All (λ b. is_end b ≡ false) text
lacks_test text h = λ k d lt. ne_eqb (get_or text k d) 0x0D (h k d lt)

-- all parts but the last
abbrev but_last : List (List ℕ) → List (List ℕ)
but_last parts = take (length parts - 1) parts

but_last_more : (line : List ℕ) (parts : List (List ℕ)) → 0 < length parts → but_last (line ∷ parts) ≡ line ∷ but_last parts
but_last_more line parts some =
    let n : length (line ∷ parts) - 1 ≡ suc (length parts - 1) = omega arith in
    ap (λ k. take k (line ∷ parts)) n

some_parts : (text : List ℕ) → 0 < length (slice_split is_end text)
some_parts text = omega (arith, length-slice_split is_end text)

first_line : (text front rest : List ℕ) → SplitsAt 0x0D text front rest → body_lines text ≡ front ∷ body_lines rest
first_line text front rest s =
    let parts : slice_split is_end text ≡ front ∷ slice_split is_end rest = ap (slice_split is_end) s.whole ∙ slice_split_at is_end front 0x0D rest (lacks_test front s.first) refl in
    ap but_last parts ∙ but_last_more front (slice_split is_end rest) (some_parts rest)

no_line : (text : List ℕ) → Lacks 0x0D text → body_lines text ≡ []
no_line text lacks = ap but_last (slice_split_none is_end text (lacks_test text lacks))

-- a line more, and what is left
pub line_more : (old new : List (List ℕ)) (body left front rest line : List ℕ) → old ++ shown_lines left ≡ shown_lines body → SplitsAt 0x0D left front rest → line ≡ shown_line front → new ≡ old ++ line ∷ []
    → new ++ shown_lines rest ≡ shown_lines body
line_more old new body left front rest line so_far s is then =
    ap (λ (xs : List (List ℕ)). xs ++ shown_lines rest) then
    ∙ (append_assoc old (line ∷ []) (shown_lines rest)
    ∙ (ap (λ l. old ++ l ∷ shown_lines rest) is ∙ (ap (λ (xs : List (List ℕ)). old ++ map shown_line xs) (sym (first_line left front rest s)) ∙ so_far)))

pub lines_end : (lines : List (List ℕ)) (body left : List ℕ) → lines ++ shown_lines left ≡ shown_lines body → Lacks 0x0D left → lines ≡ shown_lines body
lines_end lines body left so_far lacks =
    sym (append-nil lines) ∙ (ap (λ (xs : List (List ℕ)). lines ++ map shown_line xs) (sym (no_line left lacks)) ∙ so_far)

-- a line that has no end of a line in it is shown as it is
pub line_as_it_is : (line : List ℕ) → Lacks 0xE3 line → shown_line line ≡ line
line_as_it_is line lacks =
    map_fixed (λ b. cond (eqb b 0xE3) 0x3F b) line (λ k d within. cond-false (eqb (get_or line k d) 0xE3) 0x3F (get_or line k d) (ne_eqb (get_or line k d) 0xE3 (lacks k d within)))

-- ---- lengths
byte_shown : (b : ℕ) → cond (eqb b 0xE3) 0x3F b ≢ 0xE3
byte_shown b e = elim (cases_eq b 0xE3) [
  | inl same ↦ absurd (omega (arith, e, cond-true (eqb b 0xE3) 0x3F b (eq-eqb b 0xE3 same)))
  | inr other ↦ other (sym (cond-false (eqb b 0xE3) 0x3F b (ne_eqb b 0xE3 other)) ∙ e)
]

pub are_lines : (body : List ℕ) → All IsLine (shown_lines body)
are_lines body = All-map IsLine shown_line (body_lines body) (λ k d within. All-map (λ b. b ≢ 0xE3) (λ b. cond (eqb b 0xE3) 0x3F b) (get_or (body_lines body) k d) (λ i c lt. byte_shown (get_or (get_or (body_lines body) k d) i c)))

-- how many bytes lines have, each with its end
abbrev ended_len : List (List ℕ) → ℕ
ended_len lines = length (joined_lines (map shown_line lines))

ended_more : (line : List ℕ) (lines : List (List ℕ)) → ended_len (line ∷ lines) ≡ length line + 1 + ended_len lines
ended_more line lines =
    let same : length (shown_line line) ≡ length line = length-map line (λ b. cond (eqb b 0xE3) 0x3F b) in
    omega (arith, length-append (shown_line line ++ 0xE3 ∷ []) (joined_lines (map shown_line lines)), length-append (shown_line line) (0xE3 ∷ []))

-- a byte more in the first of parts
onto_le : (b n : ℕ) (parts : List (List ℕ)) → ended_len (but_last parts) ≤ n → ended_len (but_last (onto_first b parts)) ≤ n + 1
onto_le b n [] le = let none : ended_len (but_last (onto_first b [])) ≡ 0 = refl in omega arith
onto_le b n (part ∷ []) le = let none : ended_len (but_last (onto_first b (part ∷ []))) ≡ 0 = refl in omega arith
onto_le b n (part ∷ next ∷ parts) le =
    let old : but_last (part ∷ next ∷ parts) ≡ part ∷ but_last (next ∷ parts) = but_last_more part (next ∷ parts) (omega arith) in
    let new : but_last ((b ∷ part) ∷ next ∷ parts) ≡ (b ∷ part) ∷ but_last (next ∷ parts) = but_last_more (b ∷ part) (next ∷ parts) (omega arith) in
    omega (arith, ap ended_len old, ap ended_len new, ended_more part (but_last (next ∷ parts)), ended_more (b ∷ part) (but_last (next ∷ parts)))

split_le : (body : List ℕ) → ended_len (body_lines body) ≤ length body
split_le [] = let none : ended_len (body_lines []) ≡ 0 = refl in omega arith
split_le (b ∷ body) = elim (cases_Bool (is_end b)) [
  | inl ends ↦
      let parts : body_lines (b ∷ body) ≡ [] ∷ body_lines body = ap but_last (slice_split-cons_yes is_end b body ends) ∙ but_last_more [] (slice_split is_end body) (some_parts body) in
      omega (arith, ap ended_len parts, ended_more [] (body_lines body), split_le body)
  | inr stays ↦
      let parts : body_lines (b ∷ body) ≡ but_last (onto_first b (slice_split is_end body)) = ap but_last (slice_split-cons_no is_end b body stays) in
      omega (arith, ap ended_len parts, onto_le b (length body) (slice_split is_end body) (split_le body))
]

pub lines_length : (body : List ℕ) → length (joined_lines (shown_lines body)) ≤ length body
lines_length body = split_le body
