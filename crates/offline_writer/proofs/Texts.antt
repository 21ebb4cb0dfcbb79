-- Texts of drafts: their ends, their lines and their size.
use Rattle.std.proofs.Common.{◌≡◌, ◌≢◌, ℕ, ◌+◌, ◌-◌, ◌<◌, ◌≤◌, true, false, List, [], ◌∷◌, ◌++◌, length, get_or, take, drop, reverse, refl, sym, ap, ◌∙◌, subst, inl, inr, arith, append_assoc, length-append, length-take, eqb, ne_eqb}
use Rattle.std.proofs.lemmas.Bool.{cond-false, true≢false}
use Rattle.std.proofs.lemmas.Bool.Decides.{nat_tests}
use Rattle.std.proofs.lemmas.List.{take_at, take_all, take_more, get_or_append_left, get_or-append_right, get_or-append-add, get_or-reverse, get_or-take, length-reverse, take-append-drop}
use Rattle.std.proofs.lemmas.List.Concat.{flat_map-append}
use Rattle.std.proofs.lemmas.List.Elements.{All-head, All-tail}
use Rattle.std.proofs.lemmas.List.Sums.{prefix_len_stops, suffix_len_is}
use Rattle.std.specs.List.{All, suffix_len}
use Rattle.text_fields.specs.Split.{Lacks, SplitsAt}
use Rattle.text_fields.specs.Trim.{EndsWithNone, TrimmedEnd}
use Rattle.qwk_blocks.specs.Header.{IsPad}
use Rattle.qwk_blocks.specs.Text.{joined_lines}
use Rattle.qwk_blocks.specs.Written.{TextFits}
use Rattle.offline_writer.specs.Drafts.{is_pad, without_pads, sender, with_first, stored_lines}

-- ---- the end of a text
pad_is : (b : ℕ) → IsPad b → is_pad b ≡ true
pad_is b (inl space) = grind (arith, nat_tests)
pad_is b (inr nul) = grind (arith, nat_tests)

no_pad_is : (b : ℕ) → (IsPad b → ⊥) → is_pad b ≡ false
no_pad_is b none =
    let space : b ≢ 32 = λ e. none (inl e) in
    let nul : b ≢ 0 = λ e. none (inr e) in
    grind (arith, nat_tests)

last_is : (text : List ℕ) → 0 < length text → text ≡ take (length text - 1) text ++ get_or text (length text - 1) 0 ∷ []
last_is text some =
    let e : length text - 1 + 1 ≡ length text = omega arith in
    sym (take_all (length text) text (omega arith)) ∙ (ap (λ n. take n text) (sym e) ∙ take_more text (length text - 1) 0 (omega arith))

pads_at : (text pads : List ℕ) → All IsPad pads → EndsWithNone IsPad text → suffix_len is_pad (text ++ pads) ≡ length (text ++ pads) - length text
pads_at text pads h ends =
    suffix_len_is is_pad (text ++ pads) (length text) 0 (omega (arith, length-append text pads))
    (λ k le lt. pad_is (get_or (text ++ pads) k 0) (subst IsPad (sym (get_or-append_right text pads (length text) k 0 refl le)) (h (k - length text) 0 (omega (arith, length-append text pads)))))
    (λ some. no_pad_is (get_or (text ++ pads) (length text - 1) 0)
    (λ pad. ends _ _ (last_is text some) (subst IsPad (get_or_append_left text pads 0 (length text - 1) (omega arith)) pad)))

-- what a trim of the end leaves
pub trimmed_is : (field text : List ℕ) → TrimmedEnd IsPad field text → text ≡ without_pads field
trimmed_is field text t =
    let n : length (text ++ t.pad) - suffix_len is_pad (text ++ t.pad) ≡ length text = omega (arith, pads_at text t.pad t.blank t.ends, length-append text t.pad) in
    sym (ap without_pads t.whole ∙ (ap (λ k. take k (text ++ t.pad)) n ∙ take_at text t.pad (length text) refl))

-- it ends with no pad
without_pads_ends : (text : List ℕ) → EndsWithNone IsPad (without_pads text)
without_pads_ends text front last is pad =
    let s : ℕ = suffix_len is_pad text in
    let n : ℕ = length text - s in
    let long : length (take n text) ≡ length front + 1 = ap length is ∙ length-append front (last ∷ []) in
    let size : n ≡ length front + 1 = omega (arith, length-take n text) in
    let within : s < length (reverse text) = omega (arith, length-reverse text, length-take n text) in
    let stops : is_pad (get_or (reverse text) s 0) ≡ false = prefix_len_stops is_pad (reverse text) 0 within in
    let place : length text - 1 - s ≡ length front = omega (arith, length-take n text) in
    let behind : get_or (reverse text) s 0 ≡ get_or text (length front) 0 = get_or-reverse text s 0 (omega (arith, length-reverse text)) ∙ ap (λ k. get_or text k 0) place in
    let first : length front + 0 ≡ length front = omega arith in
    let here : get_or text (length front) 0 ≡ last
    = sym (get_or-take n text (length front) 0 (omega arith)) ∙ (ap (λ l. get_or l (length front) 0) is ∙ subst (λ (k : ℕ). get_or (front ++ last ∷ []) k 0 ≡ last) first (get_or-append-add front (last ∷ []) 0 0)) in
    true≢false (sym (pad_is last pad) ∙ (ap is_pad (sym (behind ∙ here)) ∙ stops))

pub sender_fits : (user : List ℕ) → TextFits 25 (sender user)
unfolding sender
sender_fits user = record {
  short = omega (arith, length-take (length (take 25 user) - suffix_len is_pad (take 25 user)) (take 25 user), length-take 25 user);
  trimmed = without_pads_ends (take 25 user);
}

-- ---- the lines of a stored text
-- a line with its carriage return
pub line_more : (line rest : List ℕ) → Lacks 13 line → stored_lines (line ++ 13 ∷ rest) ≡ line ∷ stored_lines rest
line_more [] rest lacks = refl
line_more (b ∷ line) rest lacks =
    cond-false (eqb b 13) _ _ (ne_eqb b 13 (All-head (λ x. x ≢ 13) b line lacks))
    ∙ ap (with_first b) (line_more line rest (All-tail (λ x. x ≢ 13) b line lacks))

-- a last line without one
pub last_line : (line : List ℕ) → line ≢ [] → Lacks 13 line → stored_lines line ≡ line ∷ []
last_line [] some lacks = absurd (some refl)
last_line (b ∷ []) some lacks = cond-false (eqb b 13) _ _ (ne_eqb b 13 (All-head (λ x. x ≢ 13) b [] lacks))
last_line (b ∷ c ∷ line) some lacks =
    cond-false (eqb b 13) _ _ (ne_eqb b 13 (All-head (λ x. x ≢ 13) b (c ∷ line) lacks))
    ∙ ap (with_first b) (last_line (c ∷ line) (λ is. absurd (cc is)) (All-tail (λ x. x ≢ 13) b (c ∷ line) lacks))

-- one line more was taken
pub lines_go_on : (body rest line behind : List ℕ) (lines new : List (List ℕ)) → lines ++ stored_lines rest ≡ stored_lines body → SplitsAt 13 rest line behind
    → new ≡ lines ++ line ∷ [] → new ++ stored_lines behind ≡ stored_lines body
lines_go_on body rest line behind lines new so_far splits is =
    ap (λ ls. ls ++ stored_lines behind) is
    ∙ (append_assoc lines (line ∷ []) (stored_lines behind)
    ∙ (ap (λ ls. lines ++ ls) (sym (line_more line behind splits.first) ∙ ap stored_lines (sym splits.whole)) ∙ so_far))

-- the last one was taken, or there is none
pub lines_end : (body rest : List ℕ) (lines new : List (List ℕ)) → lines ++ stored_lines rest ≡ stored_lines body → Lacks 13 rest → false ≡ eqb (length rest) 0
    → new ≡ lines ++ rest ∷ [] → new ≡ stored_lines body
lines_end body [] lines new so_far lacks some is = absurd (true≢false (sym some))
lines_end body (b ∷ rest) lines new so_far lacks some is =
    is ∙ (ap (λ ls. lines ++ ls) (sym (last_line (b ∷ rest) (λ none. absurd (cc none)) lacks)) ∙ so_far)

-- ---- the size of lines
abbrev ended_line : List ℕ → List ℕ
ended_line line = line ++ 0xE3 ∷ []

pub ended_more : (lines : List (List ℕ)) (i : ℕ) (line : List ℕ) → i < length lines → line ≡ get_or lines i line
    → length (joined_lines (take (i + 1) lines)) ≡ length (joined_lines (take i lines)) + (length line + 1)
ended_more lines i line within is =
    let one : List ℕ = get_or lines i line in
    omega (
      arith,
      ap (λ ls. length (joined_lines ls)) (take_more lines i line within),
      ap length (flat_map-append ended_line (take i lines) (one ∷ [])),
      length-append (joined_lines (take i lines)) (ended_line one ++ []),
      length-append (ended_line one) [],
      length-append one (0xE3 ∷ []),
      ap length is,
    )

pub ended_le : (lines : List (List ℕ)) (i : ℕ) → length (joined_lines (take i lines)) ≤ length (joined_lines lines)
ended_le lines i =
    omega (
      arith,
      ap (λ ls. length (joined_lines ls)) (take-append-drop i lines),
      ap length (flat_map-append ended_line (take i lines) (drop i lines)),
      length-append (joined_lines (take i lines)) (joined_lines (drop i lines)),
    )

-- a line for which no room is left
pub too_long : (lines items : List (List ℕ)) (i left most : ℕ) (line : List ℕ) → items ≡ lines → i < length items → line ≡ get_or items i line
    → left + length (joined_lines (take i items)) ≡ most → left ≤ length line → length (joined_lines lines) ≤ most → ⊥
too_long lines items i left most line same within is so_far full fits =
    omega (arith, ended_more items i line within is, ended_le items (i + 1), ap (λ ls. length (joined_lines ls)) same)
