-- A line in pieces between its carriage returns.
use Rattle.std.proofs.Common.{◌≡◌, ◌≢◌, ℕ, cond, eqb, map, List, [], ◌∷◌, ◌++◌, refl, sym, ap, ◌∙◌, append_assoc, ne_eqb}
use Rattle.std.proofs.lemmas.List.Elements.{All-head, All-tail}
use Rattle.text_fields.specs.Split.{Lacks, SplitsAt}
use Rattle.netmail_rules.specs.Draft.{kept_line}

-- a space for each 0Dh
abbrev pub spaced : List ℕ → List ℕ
spaced line = map (λ b. cond (eqb b 0x0D) 0x20 b) line

same_byte : (b : ℕ) → b ≢ 0x0D → cond (eqb b 0x0D) 0x20 b ≡ b
same_byte b other = ap (λ t. cond t 0x20 b) (ne_eqb b 0x0D other)

-- a piece without 0Dh stays
pub spaced_lacks : (text : List ℕ) → Lacks 0x0D text → spaced text ≡ text
spaced_lacks [] lacks = refl
spaced_lacks (b ∷ text) lacks =
    ap (λ c. c ∷ spaced text) (same_byte b (All-head (λ x. x ≢ 0x0D) b text lacks)) ∙ ap (λ xs. b ∷ xs) (spaced_lacks text (All-tail (λ x. x ≢ 0x0D) b text lacks))

spaced_split : (front rest : List ℕ) → Lacks 0x0D front → spaced (front ++ 0x0D ∷ rest) ≡ front ++ 0x20 ∷ spaced rest
spaced_split [] rest lacks = refl
spaced_split (b ∷ front) rest lacks =
    ap (λ c. c ∷ spaced (front ++ 0x0D ∷ rest)) (same_byte b (All-head (λ x. x ≢ 0x0D) b front lacks)) ∙ ap (λ xs. b ∷ xs) (spaced_split front rest (All-tail (λ x. x ≢ 0x0D) b front lacks))

-- a piece more, and its space
pub piece_more : (old body line left front rest mid new : List ℕ) → SplitsAt 0x0D left front rest → body ++ spaced left ≡ old ++ spaced line
    → mid ≡ body ++ front → new ≡ mid ++ 0x20 ∷ [] → new ++ spaced rest ≡ old ++ spaced line
piece_more old body line left front rest mid new s so_far first then =
    let whole : spaced left ≡ front ++ 0x20 ∷ spaced rest = ap spaced s.whole ∙ spaced_split front rest s.first in
    ap (λ xs. xs ++ spaced rest) then
    ∙ (append_assoc mid (0x20 ∷ []) (spaced rest)
    ∙ (ap (λ xs. xs ++ 0x20 ∷ spaced rest) first
    ∙ (append_assoc body front (0x20 ∷ spaced rest) ∙ (ap (λ xs. body ++ xs) (sym whole) ∙ so_far))))

-- the last piece, and the end
pub piece_last : (old body line left mid new : List ℕ) → Lacks 0x0D left → body ++ spaced left ≡ old ++ spaced line
    → mid ≡ body ++ left → new ≡ mid ++ 0x0D ∷ [] → new ≡ old ++ kept_line line
piece_last old body line left mid new lacks so_far first then =
    then ∙ (ap (λ xs. xs ++ 0x0D ∷ []) (first ∙ (ap (λ xs. body ++ xs) (sym (spaced_lacks left lacks)) ∙ so_far)) ∙ append_assoc old (spaced line) (0x0D ∷ []))
