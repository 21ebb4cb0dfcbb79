-- Reading bodies one after the other, as a loop does that keeps how long they are.
use Rattle.std.proofs.Common.{◌≡◌, ℕ, Bool, ◌+◌, ◌≤◌, ◌<◌, List, [], ◌∷◌, ◌++◌, length, get_or, map, take, drop, arith, eqb, not, true, false, Result, Ok, Err, refl, sym, ap, ◌∙◌}
use Rattle.std.proofs.lemmas.List.{append-nil, drop_all, drop_more, length-take, map-append}
use Rattle.jam_records.specs.declared.damage.Damage.{Damage}
use Rattle.jam_records.specs.declared.damage.DamageRule.TheVariants.{Rest}
use Rattle.jam_layout.specs.declared.error.BaseError.{BaseError}
use Rattle.jam_layout.specs.declared.entry.HeaderEntry.{HeaderEntry}
use Rattle.damage_rules.specs.Rules.{by_rules}
use Rattle.jam_layout.specs.Rules.{damage_of_base, BaseFails}
use Rattle.door_outside.specs.File.{jdt_file}
use Rattle.jam_layout.specs.Bodies.{body_rules, with_body, bodies_at, lengths_at}
use Rattle.damage_rules.proofs.KeptRules.{with_front, one_more, one_fails, step_fails}
use Rattle.jam_layout.proofs.MappedReads.{mapped}

abbrev step : ℕ → ℕ → HeaderEntry → List ℕ → Result (List ℕ) Damage
step place i h bytes = by_rules (jdt_file place) i (body_rules h.text_len bytes) (take h.text_len bytes)

goes_on : (place i j : ℕ) (headers : List HeaderEntry) (h : HeaderEntry) (front new : List HeaderEntry) (bytes rest body : List ℕ) (total : Result (List HeaderEntry) Damage)
    → drop j headers ≡ h ∷ drop (j + 1) headers → step place i h bytes ≡ Ok body → rest ≡ drop h.text_len bytes → new ≡ front ++ with_body h body ∷ []
    → with_front front (bodies_at place i (drop j headers) bytes) ≡ total → with_front new (bodies_at place (i + 1) (drop (j + 1) headers) rest) ≡ total
goes_on place i j headers h front new bytes rest body total is one e n so_far =
    rw e (one_more front new (bodies_at place i (drop j headers) bytes) (bodies_at place (i + 1) (drop (j + 1) headers) (drop h.text_len bytes)) total (step place i h bytes) body (with_body h) (ap (λ hs. bodies_at place i hs bytes) is) one n so_far)

fails : (place i j : ℕ) (headers : List HeaderEntry) (h : HeaderEntry) (front : List HeaderEntry) (bytes : List ℕ) (e : BaseError) (total : Result (List HeaderEntry) Damage)
    → drop j headers ≡ h ∷ drop (j + 1) headers → BaseFails e (step place i h bytes)
    → with_front front (bodies_at place i (drop j headers) bytes) ≡ total → BaseFails e total
fails place i j headers h front bytes e total is one so_far =
    one_fails front (bodies_at place i (drop j headers) bytes) (bodies_at place (i + 1) (drop (j + 1) headers) (drop h.text_len bytes)) total (step place i h bytes) (with_body h) (damage_of_base e) (ap (λ hs. bodies_at place i hs bytes) is) one so_far

at_end : (place i j : ℕ) (headers : List HeaderEntry) (front : List HeaderEntry) (bytes : List ℕ) (total : Result (List HeaderEntry) Damage) (b : Bool) → length headers ≤ j → eqb (length bytes) 0 ≡ b
    → with_front front (bodies_at place i (drop j headers) bytes) ≡ total → total ≡ with_front front (by_rules (jdt_file place) i ((Rest, not b) ∷ []) [])
at_end place i j headers front bytes total b le is so_far = sym so_far ∙ (ap (λ hs. with_front front (bodies_at place i hs bytes)) (drop_all j headers le) ∙ ap (λ x. with_front front (by_rules (jdt_file place) i ((Rest, not x) ∷ []) [])) is)

none_left : (place i j : ℕ) (headers : List HeaderEntry) (front : List HeaderEntry) (bytes : List ℕ) (total : Result (List HeaderEntry) Damage) → length headers ≤ j → eqb (length bytes) 0 ≡ true
    → with_front front (bodies_at place i (drop j headers) bytes) ≡ total → total ≡ Ok front
none_left place i j headers front bytes total le none so_far = at_end place i j headers front bytes total true le none so_far ∙ ap (λ xs. Ok xs) (append-nil front)

some_left : (place i j : ℕ) (headers : List HeaderEntry) (front : List HeaderEntry) (bytes : List ℕ) (total : Result (List HeaderEntry) Damage) → length headers ≤ j → eqb (length bytes) 0 ≡ false
    → with_front front (bodies_at place i (drop j headers) bytes) ≡ total → total ≡ Err (record { file = jdt_file place; item = i; rule = Rest })
some_left place i j headers front bytes total le some so_far = at_end place i j headers front bytes total false le some so_far

-- ---- the lengths of the bodies so far
abbrev lengths : List HeaderEntry → List ℕ
lengths entries = map (λ e. length e.message.body) entries

-- of the entries before place i, bodies were read that have these lengths
pub record LengthsSoFar (place i : ℕ) (headers : List HeaderEntry) (bytes rest : List ℕ) (found : List ℕ) : Type 0 where
  pub front : List HeaderEntry
  pub reached : i ≤ length headers
  pub read : with_front front (bodies_at place (i + 1) (drop i headers) rest) ≡ bodies_at place 1 headers bytes
  pub known : found ≡ lengths front

before_all : (read : Result (List HeaderEntry) Damage) → with_front [] read ≡ read
before_all (Ok entries) = refl
before_all (Err d) = refl

pub lengths_begin : (place : ℕ) (headers : List HeaderEntry) (bytes : List ℕ) → LengthsSoFar place 0 headers bytes bytes []
lengths_begin place headers bytes = record { front = []; reached = omega arith; read = before_all (bodies_at place 1 headers bytes); known = refl }

-- the header of the loop is the next
next_is : (i : ℕ) (headers : List HeaderEntry) (h : HeaderEntry) → i < length headers → h ≡ get_or headers i h → drop i headers ≡ h ∷ drop (i + 1) headers
next_is i headers h within item = drop_more headers i h within ∙ ap (λ (x : HeaderEntry). x ∷ drop (i + 1) headers) (sym item)

pub lengths_more : (place i : ℕ) (headers : List HeaderEntry) (h : HeaderEntry) (bytes rest behind found new : List ℕ) → i < length headers → h ≡ get_or headers i h
    → by_rules (jdt_file place) (i + 1) (body_rules h.text_len rest) (take h.text_len rest) ≡ Ok (take h.text_len rest) → h.text_len ≤ length rest → behind ≡ drop h.text_len rest → new ≡ found ++ h.text_len ∷ []
    → LengthsSoFar place i headers bytes rest found → LengthsSoFar place (i + 1) headers bytes behind new
lengths_more place i headers h bytes rest behind found new within item one long behind_is new_is so_far =
    let body : List ℕ = take h.text_len rest in
    let size : h.text_len ≡ length body = omega (arith, length-take h.text_len rest, long) in
    record {
      front = so_far.front ++ with_body h body ∷ [];
      reached = omega (arith, within);
      read = goes_on place (i + 1) i headers h so_far.front (so_far.front ++ with_body h body ∷ []) rest behind body (bodies_at place 1 headers bytes) (next_is i headers h within item) one behind_is refl so_far.read;
      known = new_is ∙ ((λ k. so_far.known k ++ size k ∷ []) ∙ sym (map-append (λ (e : HeaderEntry). length e.message.body) so_far.front (with_body h body ∷ [])));
    }

pub lengths_fail : (place i : ℕ) (headers : List HeaderEntry) (h : HeaderEntry) (bytes rest found : List ℕ) (e : BaseError) → i < length headers → h ≡ get_or headers i h
    → BaseFails e (by_rules (jdt_file place) (i + 1) (body_rules h.text_len rest) (take h.text_len rest)) → LengthsSoFar place i headers bytes rest found → BaseFails e (lengths_at place headers bytes)
lengths_fail place i headers h bytes rest found e within item one so_far =
    step_fails (damage_of_base e) (bodies_at place 1 headers bytes) (λ entries. Ok (lengths entries)) (fails place (i + 1) i headers h so_far.front rest e (bodies_at place 1 headers bytes) (next_is i headers h within item) one so_far.read)

pub lengths_done : (place i : ℕ) (headers : List HeaderEntry) (bytes rest found : List ℕ) → length headers ≤ i → eqb (length rest) 0 ≡ true → LengthsSoFar place i headers bytes rest found → lengths_at place headers bytes ≡ Ok found
lengths_done place i headers bytes rest found le none so_far =
    ap (mapped lengths) (none_left place (i + 1) i headers so_far.front rest (bodies_at place 1 headers bytes) le none so_far.read) ∙ ap (λ xs. Ok xs) (sym so_far.known)

pub lengths_rest : (place i : ℕ) (headers : List HeaderEntry) (bytes rest found : List ℕ) → length headers ≤ i → eqb (length rest) 0 ≡ false → LengthsSoFar place i headers bytes rest found
    → lengths_at place headers bytes ≡ Err (record { file = jdt_file place; item = length headers + 1; rule = Rest })
lengths_rest place i headers bytes rest found le some so_far =
    let all : i ≡ length headers = omega (arith, le, so_far.reached) in
    ap (mapped lengths) (some_left place (i + 1) i headers so_far.front rest (bodies_at place 1 headers bytes) le some so_far.read)
    ∙ ap (λ (n : ℕ). Err (record { file = jdt_file place; item = n + 1; rule = Rest })) all
