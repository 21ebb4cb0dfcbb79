-- What a write leaves of a text in parts.
use Rattle.std.proofs.Common.{◌≡◌, ℕ, ◌+◌, ◌-◌, ◌≤◌, List, [], ◌++◌, length, take, drop, sym, ap, ◌∙◌, arith, append_assoc, append-nil, length-append}
use Rattle.std.specs.Prelude.{replicate}
use Rattle.std.proofs.Math.Seq.{take-append-add, drop-append-add}
use Rattle.std.proofs.lemmas.List.{take-append-le, drop-append-le, take_all, drop_all}
use Rattle.door_outside.specs.Disk.{written}

-- within the text, or at its end, there is no gap
pub no_gap : (old bytes : List ℕ) (at : ℕ) → at ≤ length old → written old at bytes ≡ take at old ++ (bytes ++ drop (at + length bytes) old)
no_gap old bytes at le =
    let none : at - length old ≡ 0 = omega (arith, le) in
    (λ i. ((take at old ++ replicate (none i) 0) ++ bytes) ++ drop (at + length bytes) old)
    ∙ (ap (λ (l : List ℕ). (l ++ bytes) ++ drop (at + length bytes) old) (append-nil (take at old)) ∙ append_assoc (take at old) bytes (drop (at + length bytes) old))

-- behind a part
pub written_behind : (xs ys bytes : List ℕ) (at : ℕ) → at ≤ length ys → written (xs ++ ys) (length xs + at) bytes ≡ xs ++ written ys at bytes
written_behind xs ys bytes at le =
    let sum : (length xs + at) + length bytes ≡ length xs + (at + length bytes) = omega arith in
    no_gap (xs ++ ys) bytes (length xs + at) (omega (arith, le, length-append xs ys))
    ∙ ((λ i. take-append-add xs ys at i ++ (bytes ++ drop (sum i) (xs ++ ys)))
    ∙ ((λ i. (xs ++ take at ys) ++ (bytes ++ drop-append-add xs ys (at + length bytes) i))
    ∙ (append_assoc xs (take at ys) (bytes ++ drop (at + length bytes) ys)
    ∙ ap (λ (l : List ℕ). xs ++ l) (sym (no_gap ys bytes at le)))))

-- within a part
pub written_before : (xs ys bytes : List ℕ) (at : ℕ) → at + length bytes ≤ length xs → written (xs ++ ys) at bytes ≡ written xs at bytes ++ ys
written_before xs ys bytes at le =
    no_gap (xs ++ ys) bytes at (omega (arith, le, length-append xs ys))
    ∙ ((λ i. take-append-le at xs ys (omega (arith, le)) i ++ (bytes ++ drop-append-le (at + length bytes) xs ys le i))
    ∙ (ap (λ (l : List ℕ). take at xs ++ l) (sym (append_assoc bytes (drop (at + length bytes) xs) ys))
    ∙ (sym (append_assoc (take at xs) (bytes ++ drop (at + length bytes) xs) ys)
    ∙ ap (λ (l : List ℕ). l ++ ys) (sym (no_gap xs bytes at (omega (arith, le)))))))

-- at the end
pub written_end : (xs bytes : List ℕ) (at : ℕ) → at ≡ length xs → written xs at bytes ≡ xs ++ bytes
written_end xs bytes at is =
    no_gap xs bytes at (omega (arith, is))
    ∙ ((λ i. take_all at xs (omega (arith, is)) i ++ (bytes ++ drop_all (at + length bytes) xs (omega (arith, is)) i))
    ∙ ap (λ (l : List ℕ). xs ++ l) (append-nil bytes))

-- from the end of a part on, over all that is left
pub written_over : (xs ys bytes : List ℕ) (at : ℕ) → at ≡ length xs → length ys ≤ length bytes → written (xs ++ ys) at bytes ≡ xs ++ bytes
written_over xs ys bytes at is le =
    no_gap (xs ++ ys) bytes at (omega (arith, is, length-append xs ys))
    ∙ ((λ i. take-append-le at xs ys (omega (arith, is)) i ++ (bytes ++ drop_all (at + length bytes) (xs ++ ys) (omega (arith, is, le, length-append xs ys)) i))
    ∙ ((λ i. take_all at xs (omega (arith, is)) i ++ (bytes ++ []))
    ∙ ap (λ (l : List ℕ). xs ++ l) (append-nil bytes)))

-- within the third of four parts
pub written_in : (ws xs ys zs bytes : List ℕ) (place at : ℕ) → place ≡ length ws + length xs → at + length bytes ≤ length ys
    → written (ws ++ (xs ++ (ys ++ zs))) (place + at) bytes ≡ ws ++ (xs ++ (written ys at bytes ++ zs))
written_in ws xs ys zs bytes place at is le =
    let there : place + at ≡ length ws + (length xs + at) = omega (arith, is) in
    ap (λ k. written (ws ++ (xs ++ (ys ++ zs))) k bytes) there
    ∙ (written_behind ws (xs ++ (ys ++ zs)) bytes (length xs + at) (omega (arith, le, length-append xs (ys ++ zs), length-append ys zs))
    ∙ ap (λ (l : List ℕ). ws ++ l) (written_behind xs (ys ++ zs) bytes at (omega (arith, le, length-append ys zs))
    ∙ ap (λ (l : List ℕ). xs ++ l) (written_before ys zs bytes at le)))
