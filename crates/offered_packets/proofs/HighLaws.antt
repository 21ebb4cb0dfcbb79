-- The greatest number of each place, message by message.
use Rattle.std.proofs.Common.{◌≡◌, ℕ, ◌+◌, ◌-◌, ◌<◌, ◌≤◌, max, Bool, eqb, List, [], ◌∷◌, ◌++◌, length, map, get_or, set, take, replicate, refl, sym, ap, ◌∙◌, subst, inl, inr, arith}
use Rattle.std.specs.List.{filter, fold, range_with_len}
use Rattle.std.proofs.lemmas.Bool.{cases_eq, cond-true, cond-false, eq-eqb, ne_eqb}
use Rattle.std.proofs.lemmas.List.{map-append, append-nil, length-set, length-replicate, get_or-set_same, get_or-set_other, get_or-replicate, take_more, same_lists, get_or_default, set_past}
use Rattle.std.proofs.lemmas.List.Elements.{filter-append}
use Rattle.std.proofs.lemmas.List.FromFn.{length-map-range_with_len, get_or-map-range_with_len}
use Rattle.offered_packets.specs.Offered.{high_of}
use Rattle.offered_packets.specs.declared.offered_message.OfferedMessage.{OfferedMessage}

abbrev numbers_of : List OfferedMessage → List ℕ
numbers_of messages = map (λ (m : OfferedMessage). m.number) messages

abbrev is_at : ℕ → OfferedMessage → Bool
is_at place m = eqb m.place place

fold_more : (a : ℕ) (xs : List ℕ) (x : ℕ) → fold max a (xs ++ x ∷ []) ≡ max (fold max a xs) x
fold_more a [] x = refl
fold_more a (y ∷ xs) x = fold_more (max a y) xs x

-- a message of the place, and one of another
high_same : (messages : List OfferedMessage) (m : OfferedMessage) → high_of (messages ++ m ∷ []) m.place ≡ max (high_of messages m.place) m.number
high_same messages m =
    let kept : filter (is_at m.place) (m ∷ []) ≡ m ∷ [] = cond-true (is_at m.place m) (m ∷ []) [] (eq-eqb m.place m.place refl) in
    let all : filter (is_at m.place) (messages ++ m ∷ []) ≡ filter (is_at m.place) messages ++ m ∷ []
    = filter-append (is_at m.place) messages (m ∷ []) ∙ ap (λ (xs : List OfferedMessage). filter (is_at m.place) messages ++ xs) kept in
    ap (λ (xs : List OfferedMessage). fold max 0 (numbers_of xs)) all
    ∙ (ap (fold max 0) (map-append (λ (m : OfferedMessage). m.number) (filter (is_at m.place) messages) (m ∷ [])) ∙ fold_more 0 (numbers_of (filter (is_at m.place) messages)) m.number)

high_other : (messages : List OfferedMessage) (m : OfferedMessage) (place : ℕ) → (m.place ≡ place → ⊥) → high_of (messages ++ m ∷ []) place ≡ high_of messages place
high_other messages m place other =
    let left : filter (is_at place) (m ∷ []) ≡ [] = cond-false (is_at place m) (m ∷ []) [] (ne_eqb m.place place other) in
    let all : filter (is_at place) (messages ++ m ∷ []) ≡ filter (is_at place) messages
    = filter-append (is_at place) messages (m ∷ []) ∙ (ap (λ (xs : List OfferedMessage). filter (is_at place) messages ++ xs) left ∙ append-nil (filter (is_at place) messages)) in
    ap (λ (xs : List OfferedMessage). fold max 0 (numbers_of xs)) all

abbrev pub highs_to : ℕ → List OfferedMessage → List ℕ
highs_to n messages = map (high_of messages) (range_with_len 0 n)

at_number : (n k : ℕ) (messages : List OfferedMessage) (d : ℕ) → k < n → get_or (highs_to n messages) k d ≡ high_of messages k
at_number n k messages d within = get_or-map-range_with_len (high_of messages) 0 n k k d within (omega arith)

abbrev raised : List ℕ → OfferedMessage → List ℕ
raised highs m = set highs m.place (max (get_or highs m.place 0) m.number)

raised_at : (n k : ℕ) (messages : List OfferedMessage) (m : OfferedMessage) (d : ℕ) → k < n → get_or (raised (highs_to n messages) m) k d ≡ high_of (messages ++ m ∷ []) k
raised_at n k messages m d within = elim (cases_eq m.place k) [
  | inl same ↦
      let long : m.place < length (highs_to n messages) = omega (arith, length-map-range_with_len (high_of messages) 0 n) in
      let here : get_or (raised (highs_to n messages) m) m.place d ≡ high_of (messages ++ m ∷ []) m.place
      = get_or-set_same (highs_to n messages) m.place (max (get_or (highs_to n messages) m.place 0) m.number) d long
      ∙ (ap (λ high. max high m.number) (at_number n m.place messages 0 (omega arith)) ∙ sym (high_same messages m)) in
      subst (λ place. get_or (raised (highs_to n messages) m) place d ≡ high_of (messages ++ m ∷ []) place) same here
  | inr other ↦
      get_or-set_other (highs_to n messages) m.place k (max (get_or (highs_to n messages) m.place 0) m.number) d (λ e. other (sym e))
      ∙ (at_number n k messages d within ∙ sym (high_other messages m k other))
]

raise_more : (n : ℕ) (messages : List OfferedMessage) (m : OfferedMessage) → raised (highs_to n messages) m ≡ highs_to n (messages ++ m ∷ [])
raise_more n messages m =
    let count : length (raised (highs_to n messages) m) ≡ n
    = length-set (highs_to n messages) m.place (max (get_or (highs_to n messages) m.place 0) m.number) ∙ length-map-range_with_len (high_of messages) 0 n in
    same_lists (raised (highs_to n messages) m) (highs_to n (messages ++ m ∷ [])) (count ∙ sym (length-map-range_with_len (high_of (messages ++ m ∷ [])) 0 n))
    (λ k d within. raised_at n k messages m d (omega arith) ∙ sym (at_number n k (messages ++ m ∷ []) d (omega arith)))

raised_more : (n i : ℕ) (messages : List OfferedMessage) (d : OfferedMessage) (old : List ℕ) → i < length messages → old ≡ highs_to n (take i messages) → raised old (get_or messages i d) ≡ highs_to n (take (i + 1) messages)
raised_more n i messages d old within so_far =
    ap (λ highs. raised highs (get_or messages i d)) so_far ∙ (raise_more n (take i messages) (get_or messages i d) ∙ ap (highs_to n) (sym (take_more messages i d within)))

-- a step of the loop over items, which are the messages, where the message's place is that of a conference
pub raise_next : (n i : ℕ) (messages items : List OfferedMessage) (d : OfferedMessage) (old new : List ℕ) (place was high : ℕ) → items ≡ messages → i < length items → old ≡ highs_to n (take i messages)
    → place ≡ (get_or items i d).place → place < length old → was ≡ get_or old place was → high ≡ max was (get_or items i d).number → new ≡ set old place high → new ≡ highs_to n (take (i + 1) messages)
raise_next n i messages items d old new place was high same within so_far stands there reads raises then =
    let m : OfferedMessage = get_or messages i d in
    let is : get_or items i d ≡ m = ap (λ (xs : List OfferedMessage). get_or xs i d) same in
    let was_is : was ≡ get_or old place 0 = reads ∙ get_or_default old place was 0 there in
    let high_is : high ≡ max (get_or old place 0) m.number = raises ∙ (ap (λ (x : OfferedMessage). max was x.number) is ∙ ap (λ k. max k m.number) was_is) in
    let place_is : place ≡ m.place = stands ∙ ap (λ (x : OfferedMessage). x.place) is in
    let step : new ≡ raised old m = then ∙ (ap (set old place) high_is ∙ ap (λ p. set old p (max (get_or old p 0) m.number)) place_is) in
    step ∙ raised_more n i messages d old (omega (arith, ap length same)) so_far

-- where it is past the conferences
pub raise_none : (n i : ℕ) (messages items : List OfferedMessage) (d : OfferedMessage) (old new : List ℕ) (place : ℕ) → items ≡ messages → i < length items → old ≡ highs_to n (take i messages)
    → place ≡ (get_or items i d).place → length old ≤ place → new ≡ old → new ≡ highs_to n (take (i + 1) messages)
raise_none n i messages items d old new place same within so_far stands past then =
    let m : OfferedMessage = get_or messages i d in
    let place_is : place ≡ m.place = stands ∙ ap (λ (xs : List OfferedMessage). (get_or xs i d).place) same in
    let step : raised old m ≡ old = set_past old m.place (max (get_or old m.place 0) m.number) (omega arith) in
    then ∙ (sym step ∙ raised_more n i messages d old (omega (arith, ap length same)) so_far)

-- before the first message all are 0
none_raised : (n : ℕ) → replicate n 0 ≡ highs_to n []
none_raised n = same_lists (replicate n 0) (highs_to n []) (length-replicate n 0 ∙ sym (length-map-range_with_len (high_of []) 0 n))
    (λ k d within. let lt : k < n = omega (arith, length-replicate {A = ℕ} n 0) in get_or-replicate n k 0 d lt ∙ sym (at_number n k [] d lt))

-- the zeros that a list was filled with
pub zeros_are : (n count : ℕ) (start filled numbers : List ℕ) → start ≡ [] → filled ≡ start ++ replicate (count - length start) 0 → count ≡ n → numbers ≡ filled → numbers ≡ highs_to n []
zeros_are n count start filled numbers empty fills is then =
    let left : count - length start ≡ n = omega (arith, ap length empty) in
    then ∙ (fills ∙ (ap (λ xs. xs ++ replicate (count - length start) 0) empty ∙ (ap (λ k. replicate k 0) left ∙ none_raised n)))
