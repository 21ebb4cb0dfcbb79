-- What is kept of slots, after one more and after one replaced.
use Rattle.std.proofs.Common.{◌≡◌, ℕ, zero, suc, ◌+◌, ◌-◌, ◌<◌, ◌≤◌, ◌^◌, List, [], ◌∷◌, ◌++◌, length, map, get_or, refl, sym, ap, ◌∙◌, subst, arith, append_assoc, length-append}
use Rattle.std.specs.Prelude.{sum_by}
use Rattle.std.proofs.Math.ListN.{set, length-set}
use Rattle.std.proofs.lemmas.Option.{slice_get-get_or}
use Rattle.std.proofs.lemmas.List.{map-append, map-set, length-replicate}
use Rattle.std.proofs.lemmas.List.Sums.{sum_by-set, sum_by-append, sum_by-cons}
use Rattle.jam_records.specs.declared.message.Slot.{Slot}
use Rattle.jam_records.specs.declared.message.Slot.TheVariants.{Gone, Held}
use Rattle.jam_layout.specs.Conference.{live_count}
use Rattle.jam_layout.specs.Limits.{slot_limit}
use Rattle.jam_layout.specs.Sizes.{slot_header}
use Rattle.jam_layout.specs.Headers.{header_size}
use Rattle.jam_layout.specs.Fields.{subfields_of}
use Rattle.jam_layout.specs.Bare.{filled_slots, first_length, other_lengths}
use Rattle.jam_layout.specs.Bodies.{body_size}
use Rattle.jam_layout.specs.Outlines.{slot_bare, slot_outline, slot_with}
use Rattle.shared_slots.specs.Kept.{AreKept, one_live, slots_between, slot_as_long}
use Rattle.shared_slots.specs.PlacesFrom.{places_from}
use Rattle.shared_slots.proofs.PlaceLaws.{places_more, places_set}

-- ---- slots without bodies, and the places of these, are the outline
first_place : {X : Type 0} (size : X → ℕ) (at d : ℕ) (xs : List X) → get_or (places_from size at xs) 0 d ≡ at
first_place size at d [] = refl
first_place size at d (x ∷ xs) = refl

with_length : (n : ℕ) (s : Slot) → n ≡ body_size s → slot_with n (slot_bare s) ≡ slot_outline s
with_length n Gone e = refl
with_length n (Held m) e = ap (λ (k : ℕ). slot_with k (Held m)) e

between : (at : ℕ) (xs : List Slot) → slots_between (places_from body_size at xs) (map slot_bare xs) ≡ map slot_outline xs
between at [] = refl
between at (x ∷ xs) =
    let here : get_or (places_from body_size (at + body_size x) xs) 0 0 - at ≡ body_size x = omega (arith, first_place body_size (at + body_size x) 0 xs) in
    λ i. with_length (get_or (places_from body_size (at + body_size x) xs) 0 0 - at) x here i ∷ between (at + body_size x) xs i

pub seen_is : (slots bare : List Slot) (headers bodies : List ℕ) (live : ℕ) → AreKept slots bare headers bodies live → slots_between bodies bare ≡ slots
seen_is slots bare headers bodies live kept = (λ i. slots_between (kept.body_places i) (kept.without_bodies i)) ∙ (between 0 slots ∙ kept.outline)

pub kept_seen : (slots bare : List Slot) (headers bodies : List ℕ) (live : ℕ) → AreKept slots bare headers bodies live → AreKept (slots_between bodies bare) bare headers bodies live
kept_seen slots bare headers bodies live kept = subst (λ (xs : List Slot). AreKept xs bare headers bodies live) (sym (seen_is slots bare headers bodies live kept)) kept

pub seen_length : (bodies : List ℕ) (bare : List Slot) → length (slots_between bodies bare) ≡ length bare
seen_length bodies [] = refl
seen_length bodies (s ∷ bare) = ap suc (seen_length _ bare)

-- ---- what a slot has besides its body
pub header_bare : (s : Slot) → slot_header (slot_bare s) ≡ slot_header s
unfolding header_size subfields_of
header_bare Gone = refl
header_bare (Held m) = refl

pub live_bare : (s : Slot) → one_live (slot_bare s) ≡ one_live s
live_bare Gone = refl
live_bare (Held m) = refl

pub header_outline : (s : Slot) → slot_header (slot_outline s) ≡ slot_header s
unfolding header_size subfields_of
header_outline Gone = refl
header_outline (Held m) = refl

pub live_outline : (s : Slot) → one_live (slot_outline s) ≡ one_live s
live_outline Gone = refl
live_outline (Held m) = refl

pub body_outline : (s : Slot) → body_size (slot_outline s) ≡ body_size s
body_outline Gone = refl
body_outline (Held m) = length-replicate (length m.body) 0x0D

bare_outline : (s : Slot) → slot_bare (slot_outline s) ≡ slot_bare s
bare_outline Gone = refl
bare_outline (Held m) = refl

again_outline : (s : Slot) → slot_outline (slot_outline s) ≡ slot_outline s
again_outline Gone = refl
again_outline (Held m) = ap (λ (n : ℕ). slot_with n (Held m)) (length-replicate (length m.body) 0x0D)

header_as_long : (old s : Slot) → slot_header (slot_as_long old s) ≡ slot_header s
unfolding header_size subfields_of
header_as_long old Gone = refl
header_as_long old (Held m) = refl

live_as_long : (old s : Slot) → one_live (slot_as_long old s) ≡ one_live s
live_as_long old Gone = refl
live_as_long old (Held m) = refl

bare_as_long : (old s : Slot) → slot_bare (slot_as_long old s) ≡ slot_bare s
bare_as_long old Gone = refl
bare_as_long old (Held m) = refl

sum_one : (size : Slot → ℕ) (slots : List Slot) (s : Slot) → sum_by size (slots ++ s ∷ []) ≡ sum_by size slots + size s
sum_one size slots s = omega (arith, sum_by-append size slots (s ∷ []), sum_by-cons size s [])

-- ---- slots with bodies of line ends, taken one after the other
pub bare_with : (n : ℕ) (s : Slot) → slot_bare (slot_with n s) ≡ slot_bare s
bare_with n Gone = refl
bare_with n (Held m) = refl

pub header_with : (n : ℕ) (s : Slot) → slot_header (slot_with n s) ≡ slot_header s
unfolding header_size subfields_of
header_with n Gone = refl
header_with n (Held m) = refl

pub live_with : (n : ℕ) (s : Slot) → one_live (slot_with n s) ≡ one_live s
live_with n Gone = refl
live_with n (Held m) = refl

pub outline_with : (n : ℕ) (s : Slot) → slot_outline (slot_with n s) ≡ slot_with n s
outline_with n Gone = refl
outline_with n (Held m) = ap (λ (k : ℕ). slot_with k (Held m)) (length-replicate n 0x0D)

pub own_with : (s : Slot) → slot_with (body_size s) s ≡ slot_outline s
own_with Gone = refl
own_with (Held m) = refl

pub size_filled : (lengths : List ℕ) (s : Slot) → body_size (slot_with (first_length lengths s) s) ≡ first_length lengths s
size_filled lengths Gone = refl
size_filled lengths (Held m) = length-replicate (get_or lengths 0 0) 0x0D

pub filled_length : (lengths : List ℕ) (slots : List Slot) → length (filled_slots lengths slots) ≡ length slots
filled_length lengths [] = refl
filled_length lengths (s ∷ slots) = ap suc (filled_length (other_lengths lengths s) slots)

pub headers_filled : (lengths : List ℕ) (slots : List Slot) → sum_by slot_header (filled_slots lengths slots) ≡ sum_by slot_header slots
headers_filled lengths [] = refl
headers_filled lengths (s ∷ slots) =
    let first : Slot = slot_with (first_length lengths s) s in
    let others : List Slot = filled_slots (other_lengths lengths s) slots in
    omega (arith, header_with (first_length lengths s) s, headers_filled (other_lengths lengths s) slots, sum_by-cons slot_header s slots, sum_by-cons slot_header first others)

-- the slot that is taken next, and those behind it
module _ (done : List Slot) (lengths : List ℕ) (items : List Slot) (s : Slot) (rest all : List Slot) (is : items ≡ s ∷ rest) (so_far : done ++ filled_slots lengths items ≡ all) where
  abbrev next : Slot
  next = slot_with (first_length lengths s) s

  abbrev others : List Slot
  others = filled_slots (other_lengths lengths s) rest

  whole : done ++ next ∷ others ≡ all
  whole = ap (λ (xs : List Slot). done ++ filled_slots lengths xs) (sym is) ∙ so_far

  pub next_few : length done < length all
  next_few = omega (arith, ap length whole, length-append done (next ∷ others))

  -- none is too long that isn't so among all
  pub next_within : (size : Slot → ℕ) → sum_by size done + size next ≤ sum_by size all
  next_within size = omega (arith, ap (sum_by size) whole, sum_by-append size done (next ∷ others), sum_by-cons size next others)

  pub next_taken : (new : List Slot) (left : List ℕ) → new ≡ done ++ next ∷ [] → left ≡ other_lengths lengths s → new ++ filled_slots left rest ≡ all
  next_taken new left new_is left_are = (λ i. new_is i ++ filled_slots (left_are i) rest) ∙ (append_assoc done (next ∷ []) others ∙ whole)

-- ---- one slot more
pub kept_more : (old old_bare : List Slot) (old_headers old_bodies : List ℕ) (old_live : ℕ) (s : Slot) (bare : List Slot) (headers bodies : List ℕ) (header body live : ℕ)
    → bare ≡ old_bare ++ slot_bare s ∷ [] → headers ≡ old_headers ++ header ∷ [] → bodies ≡ old_bodies ++ body ∷ [] → header ≡ 1024 + (sum_by slot_header old + slot_header s) → body ≡ sum_by body_size old + body_size s → live ≡ old_live + one_live s
    → length old < slot_limit → header < 2 ^ 31 → body < 2 ^ 31 → AreKept old old_bare old_headers old_bodies old_live → AreKept (old ++ slot_outline s ∷ []) bare headers bodies live
kept_more old old_bare old_headers old_bodies old_live s bare headers bodies header body live bare_are headers_are bodies_are header_is body_is live_is few header_small body_small kept =
    let o : Slot = slot_outline s in
    let header_at : header ≡ 1024 + (sum_by slot_header old + slot_header o) = omega (arith, header_is, header_outline s) in
    let body_at : body ≡ 0 + (sum_by body_size old + body_size o) = omega (arith, body_is, body_outline s) in
    record {
      outline = map-append slot_outline old (o ∷ []) ∙ (λ i. kept.outline i ++ again_outline s i ∷ []);
      without_bodies = bare_are ∙ ((λ i. kept.without_bodies i ++ sym (bare_outline s) i ∷ []) ∙ sym (map-append slot_bare old (o ∷ [])));
      header_places = headers_are ∙ ((λ i. kept.header_places i ++ header_at i ∷ []) ∙ sym (places_more slot_header 1024 old o));
      body_places = bodies_are ∙ ((λ i. kept.body_places i ++ body_at i ∷ []) ∙ sym (places_more body_size 0 old o));
      alive = omega (arith, live_is, kept.alive, sum_one one_live old o, live_outline s);
      few = omega (arith, few, length-append old (o ∷ []));
      headers_small = omega (arith, header_at, header_small, sum_one slot_header old o);
      bodies_small = omega (arith, body_at, body_small, sum_one body_size old o);
    }

-- an item within, whatever stands for one past the end
pub same_item : {X : Type 0} (xs : List X) (i : ℕ) (d e : X) → i < length xs → get_or xs i d ≡ get_or xs i e
same_item xs i d e within = let a = slice_get-get_or xs i d within in let b = slice_get-get_or xs i e within in cc

pub item_map : {X Y : Type 0} (f : X → Y) (xs : List X) (i : ℕ) (d : X) (e : Y) → i < length xs → get_or (map f xs) i e ≡ f (get_or xs i d)
item_map f [] i d e within = absurd (omega (arith, within))
item_map f (x ∷ xs) zero d e within = refl
item_map f (x ∷ xs) (suc i) d e within = item_map f xs i d e (omega (arith, within))

-- ---- one slot in place of another
-- what the new list of live messages is, without a difference
live_set : (old : List Slot) (place : ℕ) (s d : Slot) → place < length old → live_count (set old place s) + one_live (get_or old place d) ≡ live_count old + one_live s
live_set old place s d within = sum_by-set one_live old place s d within

-- a slot of an outline is one
one_of_outline : (old : List Slot) (place : ℕ) (d : Slot) → map slot_outline old ≡ old → place < length old → slot_outline (get_or old place d) ≡ get_or old place d
one_of_outline old place d same within = sym (item_map slot_outline old place d d within) ∙ ap (λ (xs : List Slot). get_or xs place d) same

as_long_again : (old s : Slot) → slot_outline old ≡ old → body_size (slot_as_long old s) ≡ body_size old → slot_outline (slot_as_long old s) ≡ slot_as_long old s
as_long_again old Gone same long = refl
as_long_again (Held o) (Held m) same long = ap (λ (x : Slot). slot_as_long x (Held m)) same
as_long_again Gone (Held m) same long = refl

pub kept_set : (old old_bare : List Slot) (headers bodies : List ℕ) (old_live : ℕ) (place : ℕ) (s d : Slot) (bare : List Slot) (live : ℕ)
    → place < length old → bare ≡ set old_bare place (slot_bare s) → slot_header s ≡ slot_header (get_or old place d) → body_size (slot_as_long (get_or old place d) s) ≡ body_size (get_or old place d)
    → live ≡ (old_live + one_live s) - one_live (get_or old place d) → AreKept old old_bare headers bodies old_live → AreKept (set old place (slot_as_long (get_or old place d) s)) bare headers bodies live
kept_set old old_bare headers bodies old_live place s d bare live within bare_are header body live_is kept =
    let there : Slot = get_or old place d in
    let put : Slot = slot_as_long there s in
    let new : List Slot = set old place put in
    let header_same : slot_header put ≡ slot_header there = header_as_long there s ∙ header in
    let header_sum : sum_by slot_header new ≡ sum_by slot_header old = omega (arith, sum_by-set slot_header old place put d within, header_same) in
    let body_sum : sum_by body_size new ≡ sum_by body_size old = omega (arith, sum_by-set body_size old place put d within, body) in
    record {
      outline = map-set slot_outline old place put ∙ (λ i. set (kept.outline i) place (as_long_again there s (one_of_outline old place d kept.outline within) body i));
      without_bodies = bare_are ∙ ((λ i. set (kept.without_bodies i) place (sym (bare_as_long there s) i)) ∙ sym (map-set slot_bare old place put));
      header_places = kept.header_places ∙ sym (places_set slot_header 1024 old place put d within header_same);
      body_places = kept.body_places ∙ sym (places_set body_size 0 old place put d within body);
      alive = omega (arith, live_is, kept.alive, live_set old place put d within, live_as_long there s);
      few = omega (arith, kept.few, length-set old place put);
      headers_small = omega (arith, kept.headers_small, header_sum);
      bodies_small = omega (arith, kept.bodies_small, body_sum);
    }
