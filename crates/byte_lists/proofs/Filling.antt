-- A list that is filled up item by item.
use Rattle.std.proofs.Common.{◌≡◌, ℕ, suc, ◌+◌, ◌-◌, ◌≤◌, ◌<◌, List, [], ◌∷◌, ◌++◌, length, replicate, sym, ap, ◌∙◌, arith, append_assoc, append-nil, length-append}

-- an item more leaves one less to add
pub fill_more : {X : Type 0} (items new total : List X) (item : X) (count : ℕ) → length items < count → new ≡ items ++ item ∷ [] → items ++ replicate (count - length items) item ≡ total → new ++ replicate (count - length new) item ≡ total
fill_more {X = X} items new total item count lt is so_far =
    let len : length new ≡ length items + 1 = ap length is ∙ length-append items (item ∷ []) in
    let left : suc (count - length new) ≡ count - length items = omega arith in
    ap (λ (xs : List X). xs ++ replicate (count - length new) item) is
    ∙ (append_assoc items (item ∷ []) (replicate (count - length new) item) ∙ (ap (λ n. items ++ replicate n item) left ∙ so_far))

-- and none is left to add once there are so many
pub fill_done : {X : Type 0} (items total : List X) (item : X) (count : ℕ) → count ≤ length items → items ++ replicate (count - length items) item ≡ total → items ≡ total
fill_done items total item count le so_far =
    let none : count - length items ≡ 0 = omega arith in
    sym (ap (λ n. items ++ replicate n item) none ∙ append-nil items) ∙ so_far
