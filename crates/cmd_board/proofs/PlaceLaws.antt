-- Where the conference of a number stands.
use Rattle.std.proofs.Common.{◌≡◌, ℕ, ◌≤◌, ◌<◌, Bool, true, false, cond, eqb, ltb, List, [], ◌∷◌, length, get_or, Option, Some, None, refl, sym, ◌∙◌, ap, arith}
use Rattle.std.proofs.lemmas.Bool.{cond-false, ltb-true, ne_eqb}
use Rattle.std.proofs.lemmas.List.Sums.{position_or_len_is}
use Rattle.std.specs.Prelude.{IfSome}
use Rattle.std.specs.List.{position, position_or_len}
use Rattle.board_layout.proofs.BoardLookups.{conferences_count}
use Rattle.board_layout.specs.Board.{Board}
use Rattle.board_layout.specs.Valid.{IsBoard}
use Rattle.board_layout.specs.Lookups.{place_of}
use Rattle.setup_file.specs.declared.conference.Conference.{Conference as SetupConference}

position_within : {X : Type 0} (p : X → Bool) (xs : List X) (i : ℕ) → position p xs ≡ Some i → i < length xs
position_within p xs i is = by (ltb (position_or_len p xs) (length xs)) refl is
  where
    by : (found : Bool) → ltb (position_or_len p xs) (length xs) ≡ found → cond found (Some (position_or_len p xs)) None ≡ Some i → i < length xs
    by true lt here = let same : position_or_len p xs ≡ i = cc in omega (arith, same, ltb-true (position_or_len p xs) (length xs) lt)
    by false lt here = absurd (cc here)

not_below : (n : ℕ) → ltb n n ≡ false
not_below n = by (ltb n n) refl
  where
    by : (below : Bool) → ltb n n ≡ below → below ≡ false
    by true is = absurd (omega (arith, ltb-true n n is))
    by false is = refl

nowhere : {X : Type 0} (p : X → Bool) (xs : List X) → ((k : ℕ) (d : X) → k < length xs → p (get_or xs k d) ≡ false) → position p xs ≡ None
nowhere p [] fails = refl
nowhere p (x ∷ xs) fails =
    let last : position_or_len p (x ∷ xs) ≡ length (x ∷ xs) = position_or_len_is p (x ∷ xs) (length (x ∷ xs)) x (omega arith) (λ k lt. fails k x lt) (λ lt. absurd (omega (arith, lt))) in
    cond-false (ltb (position_or_len p (x ∷ xs)) (length (x ∷ xs))) (Some (position_or_len p (x ∷ xs))) None (ap (λ n. ltb n (length (x ∷ xs))) last ∙ not_below (length (x ∷ xs)))

place_within : (b : Board) (number place : ℕ) → IsBoard b → place_of number b ≡ Some place → place < length b.conferences
place_within b number place ok is =
    let within = position_within (λ (c : SetupConference). eqb c.number number) b.ledger.setup.conferences place is in
    omega (arith, within, conferences_count b ok)

pub found_within : (b : Board) (number : ℕ) (found : Option ℕ) → IsBoard b → found ≡ place_of number b → IfSome found (λ place. place < length b.conferences)
found_within b number None ok is = tt
found_within b number (Some place) ok is = place_within b number place ok (sym is)

-- no conference has a number of more than 16 bits
pub no_place : (b : Board) (number : ℕ) → IsBoard b → 65536 ≤ number → place_of number b ≡ None
no_place b number ok large =
    nowhere (λ (c : SetupConference). eqb c.number number) b.ledger.setup.conferences
    (λ k d lt. ne_eqb (get_or b.ledger.setup.conferences k d).number number (λ e. omega (arith, e, large, (ok.ledger.setup.conferences.each k d lt).number)))
