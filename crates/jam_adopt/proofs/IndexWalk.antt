-- The records of .JDX, one after the other.
use Rattle.std.proofs.Common.{◌≡◌, ℕ, zero, suc, ◌+◌, ◌/◌, ◌<◌, ◌≤◌, List, [], ◌++◌, length, drop, refl, sym, ap, ◌∙◌, arith, append_assoc, append-nil}
use Rattle.std.proofs.lemmas.List.{length-drop}
use Rattle.jam_records.specs.IndexRecords.{index_at}
use Rattle.jam_adopt.specs.Foreign.{verdict_of, found_at, foreign_from}
use Rattle.jam_adopt.specs.declared.found.Found.{Found}

step_of : (jhr jdt : List ℕ) (place n : ℕ) (jdx : List ℕ) → foreign_from jhr jdt place (suc n) jdx ≡ found_at place (verdict_of jhr jdt (index_at jdx)) ++ foreign_from jhr jdt (place + 1) n (drop 8 jdx)
unfolding foreign_from
step_of jhr jdt place n jdx = refl

-- one record more
pub one_more : (jhr jdt : List ℕ) (place after : ℕ) (jdx rest : List ℕ) (found new total : List Found) → 8 ≤ length jdx → rest ≡ drop 8 jdx → after ≡ place + 1 → new ≡ found ++ found_at place (verdict_of jhr jdt (index_at jdx))
    → found ++ foreign_from jhr jdt place (length jdx / 8) jdx ≡ total → new ++ foreign_from jhr jdt after (length rest / 8) rest ≡ total
one_more jhr jdt place after jdx rest found new total whole behind next added so_far =
    let one : List Found = found_at place (verdict_of jhr jdt (index_at jdx)) in
    let count : length jdx / 8 ≡ suc (length rest / 8) = omega (arith, ap length behind, length-drop 8 jdx) in
    let step : foreign_from jhr jdt place (length jdx / 8) jdx ≡ one ++ foreign_from jhr jdt after (length rest / 8) rest
    = ap (λ n. foreign_from jhr jdt place n jdx) count
    ∙ (step_of jhr jdt place (length rest / 8) jdx
    ∙ (ap (λ xs. one ++ foreign_from jhr jdt (place + 1) (length rest / 8) xs) (sym behind) ∙ ap (λ p. one ++ foreign_from jhr jdt p (length rest / 8) rest) (sym next))) in
    ap (λ xs. xs ++ foreign_from jhr jdt after (length rest / 8) rest) added
    ∙ (append_assoc found one (foreign_from jhr jdt after (length rest / 8) rest) ∙ (ap (λ xs. found ++ xs) (sym step) ∙ so_far))

none_of : (jhr jdt : List ℕ) (place n : ℕ) (jdx : List ℕ) → n ≡ 0 → foreign_from jhr jdt place n jdx ≡ []
unfolding foreign_from
none_of jhr jdt place zero jdx e = refl
none_of jhr jdt place (suc n) jdx e = absurd (omega arith)

-- and none is left
pub none_left : (jhr jdt : List ℕ) (place : ℕ) (jdx : List ℕ) (found total : List Found) → length jdx < 8 → found ++ foreign_from jhr jdt place (length jdx / 8) jdx ≡ total → found ≡ total
none_left jhr jdt place jdx found total few so_far =
    sym (ap (λ xs. found ++ xs) (none_of jhr jdt place (length jdx / 8) jdx (omega arith)) ∙ append-nil found) ∙ so_far
