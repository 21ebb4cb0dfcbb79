-- The lines of a text, one at a time, and a text in pieces between its line feeds.
use Rattle.std.proofs.Common.{◌≡◌, ◌≢◌, ℕ, Bool, true, false, not, cond, eqb, List, [], ◌∷◌, ◌++◌, length, refl, sym, ap, ◌∙◌, arith, append_assoc, ne_eqb}
use Rattle.std.proofs.lemmas.List.{append-nil}
use Rattle.std.proofs.lemmas.List.Elements.{All-head, All-tail}
use Rattle.std.specs.List.{onto_first}
use Rattle.text_fields.specs.Split.{Lacks, SplitsAt}
use Rattle.fts_packet.specs.Text.{without_feeds, if_any, text_lines}

-- ---- line feeds
kept_byte : (b : ℕ) (rest : List ℕ) → b ≢ 10 → without_feeds (b ∷ rest) ≡ b ∷ without_feeds rest
kept_byte b rest other = ap (λ t. cond (not t) (b ∷ without_feeds rest) (without_feeds rest)) (ne_eqb b 10 other)

pub feeds_none : (text : List ℕ) → Lacks 10 text → without_feeds text ≡ text
feeds_none [] lacks = refl
feeds_none (b ∷ text) lacks =
    kept_byte b text (All-head (λ x. x ≢ 10) b text lacks) ∙ ap (λ xs. b ∷ xs) (feeds_none text (All-tail (λ x. x ≢ 10) b text lacks))

feeds_at : (front rest : List ℕ) → Lacks 10 front → without_feeds (front ++ 10 ∷ rest) ≡ front ++ without_feeds rest
feeds_at [] rest lacks = refl
feeds_at (b ∷ front) rest lacks =
    kept_byte b (front ++ 10 ∷ rest) (All-head (λ x. x ≢ 10) b front lacks) ∙ ap (λ xs. b ∷ xs) (feeds_at front rest (All-tail (λ x. x ≢ 10) b front lacks))

-- a piece more
pub piece_more : (text kept left front rest new : List ℕ) → kept ++ without_feeds left ≡ without_feeds text → SplitsAt 10 left front rest → new ≡ kept ++ front
    → new ++ without_feeds rest ≡ without_feeds text
piece_more text kept left front rest new so_far s added =
    ap (λ xs. xs ++ without_feeds rest) added
    ∙ (append_assoc kept front (without_feeds rest)
    ∙ (ap (λ xs. kept ++ xs) (sym (ap without_feeds s.whole ∙ feeds_at front rest s.first)) ∙ so_far))

-- the last piece
pub piece_last : (text kept left new : List ℕ) → kept ++ without_feeds left ≡ without_feeds text → Lacks 10 left → new ≡ kept ++ left → new ≡ without_feeds text
piece_last text kept left new so_far lacks added = added ∙ (ap (λ xs. kept ++ xs) (sym (feeds_none left lacks)) ∙ so_far)

-- ---- lines
-- a byte before a line, whether it is a line feed or not
onto_line : (t : Bool) (b : ℕ) (kept : List ℕ) (more : List (List ℕ)) → cond t (kept ∷ more) (onto_first b (kept ∷ more)) ≡ cond (not t) (b ∷ kept) kept ∷ more
onto_line true b kept more = refl
onto_line false b kept more = refl

onto_last : (t : Bool) (b : ℕ) (kept : List ℕ) → cond t (if_any kept) (onto_first b (if_any kept)) ≡ if_any (cond (not t) (b ∷ kept) kept)
onto_last true b kept = refl
onto_last false b [] = refl
onto_last false b (x ∷ kept) = refl

-- a byte that doesn't end a line
same_line : (b : ℕ) (rest : List ℕ) → b ≢ 13 → text_lines (b ∷ rest) ≡ cond (eqb b 10) (text_lines rest) (onto_first b (text_lines rest))
same_line b rest other = ap (λ t. cond t ([] ∷ text_lines rest) (cond (eqb b 10) (text_lines rest) (onto_first b (text_lines rest)))) (ne_eqb b 13 other)

line_at : (line after : List ℕ) → Lacks 13 line → text_lines (line ++ 13 ∷ after) ≡ without_feeds line ∷ text_lines after
line_at [] after lacks = refl
line_at (b ∷ line) after lacks =
    same_line b (line ++ 13 ∷ after) (All-head (λ x. x ≢ 13) b line lacks)
    ∙ (ap (λ (ls : List (List ℕ)). cond (eqb b 10) ls (onto_first b ls)) (line_at line after (All-tail (λ x. x ≢ 13) b line lacks))
    ∙ onto_line (eqb b 10) b (without_feeds line) (text_lines after))

line_last : (text : List ℕ) → Lacks 13 text → text_lines text ≡ if_any (without_feeds text)
line_last [] lacks = refl
line_last (b ∷ text) lacks =
    same_line b text (All-head (λ x. x ≢ 13) b text lacks)
    ∙ (ap (λ (ls : List (List ℕ)). cond (eqb b 10) ls (onto_first b ls)) (line_last text (All-tail (λ x. x ≢ 13) b text lacks))
    ∙ onto_last (eqb b 10) b (without_feeds text))

-- a line more
pub line_more : (text rest line after kept : List ℕ) (all new : List (List ℕ)) → text_lines text ≡ all ++ text_lines rest → SplitsAt 13 rest line after
    → kept ≡ without_feeds line → new ≡ all ++ kept ∷ [] → text_lines text ≡ new ++ text_lines after
line_more text rest line after kept all new so_far s is added =
    let next : text_lines rest ≡ without_feeds line ∷ text_lines after = ap text_lines s.whole ∙ line_at line after s.first in
    let one : new ≡ all ++ without_feeds line ∷ [] = added ∙ ap (λ (x : List ℕ). all ++ x ∷ []) is in
    so_far ∙ (ap (λ ls. all ++ ls) next ∙ (sym (append_assoc all (without_feeds line ∷ []) (text_lines after)) ∙ ap (λ ls. ls ++ text_lines after) (sym one)))

-- what is left behind the last line's end
pub all_lines : (text rest : List ℕ) (all new : List (List ℕ)) → text_lines text ≡ all ++ text_lines rest → Lacks 13 rest → new ≡ all ++ if_any (without_feeds rest) → new ≡ text_lines text
all_lines text rest all new so_far lacks added = added ∙ (ap (λ ls. all ++ ls) (sym (line_last rest lacks)) ∙ sym so_far)

pub nothing_more : (all : List (List ℕ)) (kept : List ℕ) → length kept ≡ 0 → all ≡ all ++ if_any kept
nothing_more all [] none = sym (append-nil all)
nothing_more all (b ∷ kept) none = absurd (omega (arith, none))

pub some_more : (all : List (List ℕ)) (kept : List ℕ) → length kept ≢ 0 → all ++ kept ∷ [] ≡ all ++ if_any kept
some_more all [] some = absurd (some refl)
some_more all (b ∷ kept) some = refl
