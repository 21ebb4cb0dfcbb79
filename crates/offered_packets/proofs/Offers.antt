-- Messages that are new to a user, number by number and place by place.
use Rattle.std.proofs.Common.{◌≡◌, ℕ, zero, suc, ◌+◌, ◌≤◌, Bool, true, false, cond, List, [], ◌∷◌, ◌++◌, length, map, take, drop, refl, sym, ap, ◌∙◌, arith}
use Rattle.std.specs.List.{filter, flat_map, range_with_len}
use Rattle.std.proofs.lemmas.Bool.{cond-true, cond-false}
use Rattle.std.proofs.lemmas.List.{append-nil, append_assoc, map-id, length-take, take_all, take_at, take-append-drop}
use Rattle.std.proofs.lemmas.List.Concat.{flat_map-append}
use Rattle.std.proofs.lemmas.List.Elements.{filter-append}
use Rattle.std.proofs.lemmas.List.FromFn.{map-range_with_len_more, filter_of_map_range_with_len_more, take-map-range_with_len}
use Rattle.offered_packets.specs.declared.offered_message.OfferedMessage.{OfferedMessage}

-- ---- one place
-- a number in a place
abbrev pub numbered_at : ℕ → ℕ → OfferedMessage
numbered_at place number = record { place = place; number = number }

-- numbers of which none passes
pub none_pass : {X : Type 0} (p : X → Bool) (f : ℕ → X) (a n : ℕ) → ((k : ℕ) → p (f k) ≡ false) → filter p (map f (range_with_len a n)) ≡ []
none_pass p f a zero fails = refl
none_pass p f a (suc n) fails = cond-false (p (f a)) (f a ∷ filter p (map f (range_with_len (a + 1) n))) (filter p (map f (range_with_len (a + 1) n))) (fails a) ∙ none_pass p f (a + 1) n fails

-- a number that passes, and one that doesn't
pub passes_next : {X : Type 0} (p : X → Bool) (f : ℕ → X) (old found new : List X) (i : ℕ) → found ≡ old ++ filter p (map f (range_with_len 1 i)) → p (f (i + 1)) ≡ true → new ≡ found ++ f (i + 1) ∷ []
    → new ≡ old ++ filter p (map f (range_with_len 1 (i + 1)))
passes_next {X} p f old found new i is pass then =
    let front : List X = filter p (map f (range_with_len 1 i)) in
    let one : cond (p (f (i + 1))) (f (i + 1) ∷ []) [] ≡ f (i + 1) ∷ [] = cond-true (p (f (i + 1))) (f (i + 1) ∷ []) [] pass in
    let more : filter p (map f (range_with_len 1 (i + 1))) ≡ front ++ f (i + 1) ∷ [] = filter_of_map_range_with_len_more p f 1 i (i + 1) (omega arith) ∙ ap (λ (xs : List X). front ++ xs) one in
    then ∙ (ap (λ (xs : List X). xs ++ f (i + 1) ∷ []) is ∙ (append_assoc old front (f (i + 1) ∷ []) ∙ ap (λ (xs : List X). old ++ xs) (sym more)))

pub fails_next : {X : Type 0} (p : X → Bool) (f : ℕ → X) (old found : List X) (i : ℕ) → found ≡ old ++ filter p (map f (range_with_len 1 i)) → p (f (i + 1)) ≡ false → found ≡ old ++ filter p (map f (range_with_len 1 (i + 1)))
fails_next {X} p f old found i is fail =
    let front : List X = filter p (map f (range_with_len 1 i)) in
    let none : cond (p (f (i + 1))) (f (i + 1) ∷ []) [] ≡ [] = cond-false (p (f (i + 1))) (f (i + 1) ∷ []) [] fail in
    let more : filter p (map f (range_with_len 1 (i + 1))) ≡ front = filter_of_map_range_with_len_more p f 1 i (i + 1) (omega arith) ∙ (ap (λ (xs : List X). front ++ xs) none ∙ append-nil front) in
    is ∙ ap (λ (xs : List X). old ++ xs) (sym more)

-- as many as the limit were found among the first numbers
pub limit_reached : {X : Type 0} (p : X → Bool) (f : ℕ → X) (old found : List X) (i n limit : ℕ) → found ≡ old ++ filter p (map f (range_with_len 1 i)) → i ≤ n → length found ≡ limit → found ≡ take limit (old ++ filter p (map f (range_with_len 1 n)))
limit_reached {X} p f old found i n limit is within full =
    let all : List X = map f (range_with_len 1 n) in
    let front : take i all ≡ map f (range_with_len 1 i) = take-map-range_with_len f 1 n i within in
    let whole : all ≡ map f (range_with_len 1 i) ++ drop i all = sym (take-append-drop i all) ∙ ap (λ (xs : List X). xs ++ drop i all) front in
    let parts : filter p all ≡ filter p (map f (range_with_len 1 i)) ++ filter p (drop i all) = ap (filter p) whole ∙ filter-append p (map f (range_with_len 1 i)) (drop i all) in
    let behind : old ++ filter p all ≡ found ++ filter p (drop i all)
    = ap (λ (xs : List X). old ++ xs) parts ∙ (sym (append_assoc old (filter p (map f (range_with_len 1 i))) (filter p (drop i all))) ∙ ap (λ (xs : List X). xs ++ filter p (drop i all)) (sym is)) in
    sym (ap (take limit) behind ∙ take_at found (filter p (drop i all)) limit full)

-- nothing is found
pub none_found : {X : Type 0} (old new : List X) (limit : ℕ) → new ≡ [] → length old ≤ limit → old ≡ take limit (old ++ new)
none_found {X} old new limit none short = sym (ap (λ (xs : List X). take limit (old ++ xs)) none ∙ (ap (take limit) (append-nil old) ∙ take_all limit old short))

-- ---- place by place
take_again : {X : Type 0} (n : ℕ) (xs ys : List X) → take n (take n xs ++ ys) ≡ take n (xs ++ ys)
take_again zero xs ys = refl
take_again (suc n) [] ys = refl
take_again (suc n) (x ∷ xs) ys = ap (λ zs. x ∷ zs) (take_again n xs ys)

range_more : (a n : ℕ) → range_with_len a (n + 1) ≡ range_with_len a n ++ (a + n) ∷ []
range_more a n = sym (map-id (range_with_len a (n + 1))) ∙ (map-range_with_len_more (λ (k : ℕ). k) a n (a + n) refl ∙ ap (λ xs. xs ++ (a + n) ∷ []) (map-id (range_with_len a n)))

places_more : {X : Type 0} (g : ℕ → List X) (n : ℕ) → flat_map g (range_with_len 0 (n + 1)) ≡ flat_map g (range_with_len 0 n) ++ g n
places_more {X} g n =
    let same : 0 + n ≡ n = omega arith in
    ap (flat_map g) (range_more 0 n ∙ ap (λ k. range_with_len 0 n ++ k ∷ []) same)
    ∙ (flat_map-append g (range_with_len 0 n) (n ∷ []) ∙ ap (λ (xs : List X). flat_map g (range_with_len 0 n) ++ xs) (append-nil (g n)))

-- one place more
pub place_more : {X : Type 0} (p : X → Bool) (g : ℕ → List X) (n limit : ℕ) (old new : List X) → old ≡ take limit (filter p (flat_map g (range_with_len 0 n))) → new ≡ take limit (old ++ filter p (g n))
    → new ≡ take limit (filter p (flat_map g (range_with_len 0 (n + 1))))
place_more {X} p g n limit old new is then =
    let before : List X = filter p (flat_map g (range_with_len 0 n)) in
    let more : filter p (flat_map g (range_with_len 0 (n + 1))) ≡ before ++ filter p (g n)
    = ap (filter p) (places_more g n) ∙ filter-append p (flat_map g (range_with_len 0 n)) (g n) in
    then ∙ (ap (λ (xs : List X). take limit (xs ++ filter p (g n))) is ∙ (take_again limit before (filter p (g n)) ∙ ap (take limit) (sym more)))

pub taken_few : {X : Type 0} (n : ℕ) (xs : List X) → length (take n xs) ≤ n
taken_few n xs = omega (arith, length-take n xs)
