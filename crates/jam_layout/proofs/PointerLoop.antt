-- Reading pointers one after the other, as a loop does.
use Rattle.std.proofs.Common.{◌≡◌, ℕ, Bool, ◌+◌, ◌≤◌, ◌<◌, List, [], ◌∷◌, ◌++◌, length, get_or, subst, drop, eqb, not, true, false, Result, Ok, Err, sym, ap, ◌∙◌}
use Rattle.std.proofs.lemmas.List.{append-nil, drop_all, drop_more}
use Rattle.jam_records.specs.declared.damage.Damage.{Damage}
use Rattle.jam_records.specs.declared.damage.DamageRule.TheVariants.{Rest}
use Rattle.jam_layout.specs.declared.error.BaseError.{BaseError}
use Rattle.damage_rules.specs.Rules.{by_rules, ◌>>=◌}
use Rattle.jam_layout.specs.Rules.{damage_of_base, BaseFails}
use Rattle.jam_records.specs.record_numbers.Numbers.{u32_at}
use Rattle.door_outside.specs.File.{jlr_file}
use Rattle.jam_layout.specs.declared.reader.Reader.{Reader}
use Rattle.jam_layout.specs.Readers.{reader_rules, pointers_at}
use Rattle.damage_rules.proofs.KeptRules.{with_front, regroup, step_fails}

-- the step of a reader
abbrev pub step : ℕ → ℕ → ℕ → Reader → List ℕ → Result ℕ Damage
step place count j r bytes = by_rules (jlr_file place) j (reader_rules count r bytes) (u32_at 8 bytes)

pub goes_on : (place count j : ℕ) (readers : List Reader) (r : Reader) (front new bytes rest : List ℕ) (p : ℕ) (total : Result (List ℕ) Damage)
    → drop j readers ≡ r ∷ drop (j + 1) readers → step place count j r bytes ≡ Ok p → rest ≡ drop 16 bytes → new ≡ front ++ p ∷ []
    → with_front front (pointers_at place count j (drop j readers) bytes) ≡ total → with_front new (pointers_at place count (j + 1) (drop (j + 1) readers) rest) ≡ total
goes_on place count j readers r front new bytes rest p total is one e n so_far =
    let others : Result (List ℕ) Damage = pointers_at place count (j + 1) (drop (j + 1) readers) (drop 16 bytes) in
    let a : pointers_at place count j (drop j readers) bytes ≡ (others >>= λ ps. Ok (p ∷ ps)) = ap (λ rs. pointers_at place count j rs bytes) is ∙ ap (λ x. x >>= λ q. others >>= λ ps. Ok (q ∷ ps)) one in
    let b : with_front front (pointers_at place count j (drop j readers) bytes) ≡ with_front (front ++ p ∷ []) others = ap (with_front front) a ∙ regroup front p others in
    rw (e, n) (sym b ∙ so_far)

pub fails : (place count j : ℕ) (readers : List Reader) (r : Reader) (front bytes : List ℕ) (e : BaseError) (total : Result (List ℕ) Damage)
    → drop j readers ≡ r ∷ drop (j + 1) readers → BaseFails e (step place count j r bytes)
    → with_front front (pointers_at place count j (drop j readers) bytes) ≡ total → BaseFails e total
fails place count j readers r front bytes e total is one so_far =
    let others : Result (List ℕ) Damage = pointers_at place count (j + 1) (drop (j + 1) readers) (drop 16 bytes) in
    let a : pointers_at place count j (drop j readers) bytes ≡ (step place count j r bytes >>= λ q. others >>= λ ps. Ok (q ∷ ps)) = ap (λ rs. pointers_at place count j rs bytes) is in
    let b : with_front front (pointers_at place count j (drop j readers) bytes) ≡ ((step place count j r bytes >>= λ q. others >>= λ ps. Ok (q ∷ ps)) >>= λ ps. Ok (front ++ ps)) = ap (with_front front) a in
    rw (sym so_far ∙ b) (step_fails (damage_of_base e) (step place count j r bytes >>= λ q. others >>= λ ps. Ok (q ∷ ps)) (λ ps. Ok (front ++ ps)) (step_fails (damage_of_base e) (step place count j r bytes) (λ q. others >>= λ ps. Ok (q ∷ ps)) one))

pub at_end : (place count j : ℕ) (readers : List Reader) (front bytes : List ℕ) (total : Result (List ℕ) Damage) → length readers ≤ j
    → with_front front (pointers_at place count j (drop j readers) bytes) ≡ total → total ≡ with_front front (by_rules (jlr_file place) j ((Rest, not (eqb (length bytes) 0)) ∷ []) [])
at_end place count j readers front bytes total le so_far = sym so_far ∙ ap (λ rs. with_front front (pointers_at place count j rs bytes)) (drop_all j readers le)

rest_read : (place count j : ℕ) (bytes front : List ℕ) (b : Bool) → b ≡ not (eqb (length bytes) 0) → with_front front (by_rules (jlr_file place) j ((Rest, not (eqb (length bytes) 0)) ∷ []) []) ≡ with_front front (by_rules (jlr_file place) j ((Rest, b) ∷ []) [])
rest_read place count j bytes front b e = ap (λ x. with_front front (by_rules (jlr_file place) j ((Rest, x) ∷ []) [])) (sym e)

pub none_left : (place count j : ℕ) (readers : List Reader) (front bytes : List ℕ) (total : Result (List ℕ) Damage) → length readers ≤ j → eqb (length bytes) 0 ≡ true
    → with_front front (pointers_at place count j (drop j readers) bytes) ≡ total → total ≡ Ok front
none_left place count j readers front bytes total le none so_far =
    at_end place count j readers front bytes total le so_far ∙ rest_read place count j bytes front false (sym (ap not none)) ∙ ap (λ xs. Ok xs) (append-nil front)

pub some_left : (place count j : ℕ) (readers : List Reader) (front bytes : List ℕ) (total : Result (List ℕ) Damage) → length readers ≤ j → eqb (length bytes) 0 ≡ false
    → with_front front (pointers_at place count j (drop j readers) bytes) ≡ total → total ≡ Err (record { file = jlr_file place; item = j; rule = Rest })
some_left place count j readers front bytes total le some so_far =
    at_end place count j readers front bytes total le so_far ∙ rest_read place count j bytes front true (sym (ap not some))

-- the item of a round heads what is left
pub round : {X : Type 0} (items xs : List X) (j : ℕ) (x : X) → items ≡ xs → j < length items → x ≡ get_or items j x → drop j xs ≡ x ∷ drop (j + 1) xs
round {X = X} items xs j x same lt is =
    let lt' : j < length xs = subst (λ (ys : List X). j < length ys) same lt in
    drop_more xs j x lt' ∙ ap (λ y. y ∷ drop (j + 1) xs) (ap (λ ys. get_or ys j x) (sym same) ∙ sym is)
