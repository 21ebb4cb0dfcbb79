-- A place in a list in chunks of 128 items.
use Rattle.std.proofs.Common.{◌≡◌, ℕ, suc, zero, ◌+◌, ◌*◌, ◌-◌, ◌/◌, ◌%◌, ◌≤◌, ◌<◌, List, [], ◌∷◌, ◌++◌, length, refl, sym, ap, ◌∙◌, arith, length-append, get_or}
use Rattle.std.specs.Prelude.{All, slice_get, Some, None}
use Rattle.std.proofs.lemmas.Option.{get_or_from_slice_get}
use Rattle.std.proofs.Math.ListN.{set}
use Rattle.std.proofs.lemmas.List.{set-append_left, set-append_right}
use Rattle.std.proofs.lemmas.List.Elements.{All-head, All-tail}
use Rattle.shared_lists.specs.Chunks.{joined}

pub joined_length : {X : Type 0} (chunks : List (List X)) → All (λ chunk. length chunk ≡ 128) chunks → length (joined chunks) ≡ 128 * length chunks
joined_length [] all = refl
joined_length {X = X} (x ∷ xs) all =
    let here : length x ≡ 128 = All-head (λ (c : List X). length c ≡ 128) x xs all in
    let behind = joined_length xs (All-tail (λ (c : List X). length c ≡ 128) x xs all) in
    omega (arith, here, behind, length-append x (joined xs))

pub get_left : {X : Type 0} (xs ys : List X) (i : ℕ) → i < length xs → slice_get (xs ++ ys) i ≡ slice_get xs i
get_left [] ys i lt = absurd (omega arith)
get_left (x ∷ xs) ys zero lt = refl
get_left (x ∷ xs) ys (suc i) lt = get_left xs ys i (omega arith)

pub get_right : {X : Type 0} (xs ys : List X) (i : ℕ) → slice_get (xs ++ ys) (length xs + i) ≡ slice_get ys i
get_right [] ys i = let e : 0 + i ≡ i = omega arith in ap (slice_get ys) e
get_right (x ∷ xs) ys i =
    let e : suc (length xs) + i ≡ suc (length xs + i) = omega arith in
    ap (slice_get (x ∷ (xs ++ ys))) e ∙ get_right xs ys i

-- an item of a chunk
pub joined_get : {X : Type 0} (chunks : List (List X)) (q r : ℕ) (d : List X) → All (λ chunk. length chunk ≡ 128) chunks → q < length chunks → r < 128 → slice_get (joined chunks) (128 * q + r) ≡ slice_get (get_or chunks q d) r
joined_get [] q r d all within part = absurd (omega arith)
joined_get {X = X} (x ∷ xs) zero r d all within part =
    let here : length x ≡ 128 = All-head (λ (c : List X). length c ≡ 128) x xs all in
    let e : 128 * 0 + r ≡ r = omega arith in
    ap (slice_get (x ++ joined xs)) e ∙ get_left x (joined xs) r (omega arith)
joined_get {X = X} (x ∷ xs) (suc q) r d all within part =
    let here : length x ≡ 128 = All-head (λ (c : List X). length c ≡ 128) x xs all in
    let e : 128 * suc q + r ≡ length x + (128 * q + r) = omega arith in
    ap (slice_get (x ++ joined xs)) e ∙ (get_right x (joined xs) (128 * q + r) ∙ joined_get xs q r d (All-tail (λ (c : List X). length c ≡ 128) x xs all) (omega arith) part)

pub joined_set : {X : Type 0} (chunks : List (List X)) (q r : ℕ) (d : List X) (item : X) → All (λ chunk. length chunk ≡ 128) chunks → q < length chunks → r < 128 → set (joined chunks) (128 * q + r) item ≡ joined (set chunks q (set (get_or chunks q d) r item))
joined_set [] q r d item all within part = absurd (omega arith)
joined_set {X = X} (x ∷ xs) zero r d item all within part =
    let here : length x ≡ 128 = All-head (λ (c : List X). length c ≡ 128) x xs all in
    let e : 128 * 0 + r ≡ r = omega arith in
    ap (λ (i : ℕ). set (x ++ joined xs) i item) e ∙ set-append_left x (joined xs) r item (omega arith)
joined_set {X = X} (x ∷ xs) (suc q) r d item all within part =
    let here : length x ≡ 128 = All-head (λ (c : List X). length c ≡ 128) x xs all in
    let e : (128 * suc q + r) - 128 ≡ 128 * q + r = omega arith in
    set-append_right x (joined xs) 128 (128 * suc q + r) item here (omega arith)
    ∙ ap (λ (zs : List X). x ++ zs) (ap (λ (i : ℕ). set (joined xs) i item) e ∙ joined_set xs q r d item (All-tail (λ (c : List X). length c ≡ 128) x xs all) (omega arith) part)

-- ---- of a whole list, by a place in it
module _ {X : Type 0} (chunks : List (List X)) (last : List X) (place : ℕ) (all : All (λ chunk. length chunk ≡ 128) chunks) where
  pub get_chunk : (d : List X) → place / 128 < length chunks → slice_get (joined chunks ++ last) place ≡ slice_get (get_or chunks (place / 128) d) (place % 128)
  get_chunk d within =
      let whole = joined_length chunks all in
      let e : place ≡ 128 * (place / 128) + place % 128 = omega arith in
      let part : place % 128 < 128 = omega arith in
      get_left (joined chunks) last place (omega arith)
      ∙ (ap (slice_get (joined chunks)) e ∙ joined_get chunks (place / 128) (place % 128) d all within part)

  pub get_last : length chunks ≤ place / 128 → slice_get (joined chunks ++ last) place ≡ slice_get last (place - 128 * length chunks)
  get_last past =
      let whole = joined_length chunks all in
      let e : place ≡ length (joined chunks) + (place - 128 * length chunks) = omega arith in
      ap (slice_get (joined chunks ++ last)) e ∙ get_right (joined chunks) last (place - 128 * length chunks)

  pub set_chunk : (d : List X) (item : X) → place / 128 < length chunks → set (joined chunks ++ last) place item ≡ joined (set chunks (place / 128) (set (get_or chunks (place / 128) d) (place % 128) item)) ++ last
  set_chunk d item within =
      let whole = joined_length chunks all in
      let e : place ≡ 128 * (place / 128) + place % 128 = omega arith in
      let part : place % 128 < 128 = omega arith in
      set-append_left (joined chunks) last place item (omega arith)
      ∙ ap (λ (zs : List X). zs ++ last) (ap (λ (i : ℕ). set (joined chunks) i item) e ∙ joined_set chunks (place / 128) (place % 128) d item all within part)

  pub set_last : (item : X) → length chunks ≤ place / 128 → set (joined chunks ++ last) place item ≡ joined chunks ++ set last (place - 128 * length chunks) item
  set_last item past = set-append_right (joined chunks) last (128 * length chunks) place item (joined_length chunks all) (omega arith)

-- an item that was looked up
pub found_item : {X : Type 0} (xs : List X) (i : ℕ) (x : X) → slice_get xs i ≡ Some x → x ≡ get_or xs i x
found_item xs i x is = sym (get_or_from_slice_get xs i x x is)

pub never_missing : {X : Type 0} (xs : List X) (i : ℕ) → i < length xs → slice_get xs i ≡ None → ⊥
never_missing {X = X} [] i lt none = absurd (omega arith)
never_missing {X = X} (x ∷ xs) zero lt none = absurd (cc)
never_missing {X = X} (x ∷ xs) (suc i) lt none = never_missing xs i (omega arith) none
