-- Empty lines at the front of lines.
use Rattle.std.proofs.Common.{◌≡◌, ℕ, suc, ◌+◌, ◌-◌, ◌≤◌, [], take, get_or, sym, cond, List, ◌∷◌, length, drop, ap, ◌∙◌, arith}
use Rattle.std.proofs.lemmas.Bool.{eq-eqb, ne_eqb}
use Rattle.std.proofs.lemmas.List.{take_all}
use Rattle.std.specs.List.{prefix_len}
use Rattle.long_names.specs.Plain.{is_empty, past_empty}

-- an empty line is passed over
pub past_more : (line : List ℕ) (lines : List (List ℕ)) → length line ≡ 0 → past_empty (line ∷ lines) ≡ past_empty lines
past_more line lines none =
    let n : ℕ = prefix_len is_empty lines in
    let next : 1 + n ≡ suc n = omega arith in
    ap (λ test. drop (cond test (1 + n) 0) (line ∷ lines)) (eq-eqb (length line) 0 none) ∙ ap (λ k. drop k (line ∷ lines)) next

-- any other stays
pub past_stays : (line : List ℕ) (lines : List (List ℕ)) → (length line ≡ 0 → ⊥) → past_empty (line ∷ lines) ≡ line ∷ lines
past_stays line lines some = ap (λ test. drop (cond test (1 + prefix_len is_empty lines) 0) (line ∷ lines)) (ne_eqb (length line) 0 some)

-- a turn past an empty first line
pub past_turn : (rest lines : List (List ℕ)) (first : List ℕ) → 1 ≤ length rest → first ≡ get_or rest 0 first → length first ≡ 0 → past_empty rest ≡ past_empty lines → past_empty (take (length rest - 1) (drop 1 rest)) ≡ past_empty lines
past_turn [] lines first some is none so_far = absurd (omega (arith, some))
past_turn (line ∷ rest) lines first some is none so_far =
    let n : length (line ∷ rest) - 1 ≡ length rest = omega arith in
    ap (λ k. past_empty (take k rest)) n ∙ (ap past_empty (take_all (length rest) rest (omega arith)) ∙ (sym (past_more line rest (ap length (sym is) ∙ none)) ∙ so_far))
