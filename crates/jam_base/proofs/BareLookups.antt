-- What is looked up of a base: slots without bodies, by their message numbers.
use Rattle.std.proofs.Common.{◌≡◌, ℕ, zero, suc, ◌-◌, ◌<◌, Bool, true, false, cond, List, [], ◌∷◌, length, map, get_or, Option, Some, None, refl, sym, ap, ◌∙◌, arith}
use Rattle.std.specs.Prelude.{slice_get, ◌==◌}
use Rattle.std.proofs.lemmas.Bool.{cond-false, ne_eqb}
use Rattle.jam_records.specs.declared.message.Slot.{Slot}
use Rattle.jam_records.specs.declared.message.Slot.TheVariants.{Gone, Held}
use Rattle.jam_records.specs.declared.message.Kind.{Kind}
use Rattle.jam_writing.specs.jam_layout.Conference.{is_live}
use Rattle.jam_writing.specs.jam_layout.Outlines.{slot_bare}
use Rattle.jam_writing.specs.shared_slots.Kept.{slot_as_long}
use Rattle.jam_writing.proofs.shared_slots.BareSlots.{whole_again}
use Rattle.jam_base.specs.Bodies.{body_begin, span_at, body_span}
use Rattle.jam_base.specs.MarkPuts.{delete_put, receive_put}
use Rattle.jam_base.specs.Slots.{has_due, has_live, is_due, numbered, slot_deleted, slot_received}
use Rattle.jam_base.specs.declared.receipt.Receipt.{Receipt}
use Rattle.jam_base.proofs.SlotChanges.{numbered_is}

-- ---- by message number
-- what is found, or Gone
abbrev pub found_or_gone : Option Slot → Slot
found_or_gone None = Gone
found_or_gone (Some s) = s

-- the slot of a message number, without its body
abbrev pub bare_at : ℕ → List Slot → Option Slot
bare_at number slots = cond (number == 0) None (slice_get (map slot_bare slots) (number - 1))

get_bare : (slots : List Slot) (place : ℕ) → found_or_gone (slice_get (map slot_bare slots) place) ≡ slot_bare (get_or slots place Gone)
get_bare [] zero = refl
get_bare [] (suc place) = refl
get_bare (s ∷ slots) zero = refl
get_bare (s ∷ slots) (suc place) = get_bare slots place

pub looked_up : (number : ℕ) (slots : List Slot) → found_or_gone (bare_at number slots) ≡ slot_bare (numbered slots number)
looked_up number slots = by (number == 0)
  where
    by : (none : Bool) → found_or_gone (cond none None (slice_get (map slot_bare slots) (number - 1))) ≡ slot_bare (cond none Gone (get_or slots (number - 1) Gone))
    by true = refl
    by false = get_bare slots (number - 1)

pub is_gone : (s : Slot) → slot_bare s ≡ Gone → s ≡ Gone
is_gone Gone gone = refl
is_gone (Held m) gone = absurd (cc)

get_there : (slots : List Slot) (place : ℕ) (s : Slot) → Some s ≡ slice_get (map slot_bare slots) place → place < length slots
get_there [] zero s is = absurd (cc)
get_there [] (suc place) s is = absurd (cc)
get_there (t ∷ slots) zero s is = omega arith
get_there (t ∷ slots) (suc place) s is = omega (arith, get_there slots place s is)

pub looked_within : (number : ℕ) (slots : List Slot) (s : Slot) → Some s ≡ bare_at number slots → number - 1 < length slots
looked_within zero slots s is = absurd (cc)
looked_within (suc n) slots s is =
    get_there slots (suc n - 1) s (is ∙ cond-false (suc n == 0) None (slice_get (map slot_bare slots) (suc n - 1)) (ne_eqb (suc n) 0 (λ e. omega (arith, e))))

live_bare : (s : Slot) → is_live (slot_bare s) ≡ is_live s
live_bare Gone = refl
live_bare (Held m) = refl

pub found_live : (number : ℕ) (slots : List Slot) (s : Slot) → 0 < number → Some s ≡ slice_get (map slot_bare slots) (number - 1) → is_live s ≡ has_live number slots
found_live number slots s above is =
    ap is_live (ap found_or_gone is ∙ get_bare slots (number - 1)) ∙ (live_bare (get_or slots (number - 1) Gone) ∙ ap is_live (sym (numbered_is slots number above)))

pub none_found : (number : ℕ) (slots : List Slot) → 0 < number → None ≡ slice_get (map slot_bare slots) (number - 1) → false ≡ has_live number slots
none_found number slots above is =
    let gone : get_or slots (number - 1) Gone ≡ Gone = is_gone (get_or slots (number - 1) Gone) (sym (ap found_or_gone is ∙ get_bare slots (number - 1))) in
    ap is_live (sym gone) ∙ ap is_live (sym (numbered_is slots number above))

-- so it is by a message number
pub looked_live : (number : ℕ) (slots : List Slot) (s : Slot) → Some s ≡ bare_at number slots → is_live s ≡ has_live number slots
looked_live number slots s is = ap is_live (ap found_or_gone is ∙ looked_up number slots) ∙ live_bare (numbered slots number)

pub looked_none : (number : ℕ) (slots : List Slot) → None ≡ bare_at number slots → false ≡ has_live number slots
looked_none number slots is = ap is_live (sym (is_gone (numbered slots number) (sym (ap found_or_gone is ∙ looked_up number slots))))

-- ---- spans
pub no_span : (number : ℕ) (slots : List Slot) (found : Option Slot) → found ≡ bare_at number slots → found_or_gone found ≡ Gone → None ≡ body_span number slots
no_span number slots found is gone =
    let none : numbered slots number ≡ Gone = is_gone (numbered slots number) (sym (ap found_or_gone is ∙ looked_up number slots) ∙ gone) in
    sym (ap (span_at (body_begin number slots)) none)

-- ---- marks
pub due_bare : (name : List ℕ) (r : Receipt) (number : ℕ) (s : Slot) → has_due name r number (slot_bare s) ≡ has_due name r number s
due_bare name r number Gone = refl
due_bare name r number (Held m) = refl

pub delete_bare : (kind : Kind) (place at number : ℕ) (s : Slot) → delete_put kind place at number (slot_bare s) ≡ delete_put kind place at number s
delete_bare kind place at number Gone = refl
delete_bare kind place at number (Held m) = refl

pub receive_bare : (kind : Kind) (place : ℕ) (name : List ℕ) (r : Receipt) (at number : ℕ) (s : Slot) → receive_put kind place name r at number (slot_bare s) ≡ receive_put kind place name r at number s
receive_bare kind place name r at number Gone = refl
receive_bare kind place name r at number (Held m) = refl

pub deleted_as_long : (s : Slot) → slot_as_long s (slot_deleted (slot_bare s)) ≡ slot_deleted s
deleted_as_long Gone = refl
deleted_as_long (Held m) = refl

pub received_as_long : (name : List ℕ) (r : Receipt) (number : ℕ) (s : Slot) → slot_as_long s (slot_received name r number (slot_bare s)) ≡ slot_received name r number s
received_as_long name r number Gone = refl
received_as_long name r number (Held m) = by (is_due name r number m)
  where
    by : (due : Bool) → slot_as_long (Held m) (Held (cond due (record m { body = []; seen = true; received = r.now }) (record m { body = [] }))) ≡ Held (cond due (record m { seen = true; received = r.now }) m)
    by true = refl
    by false = refl

-- one that isn't received
pub unreceived_bare : (name : List ℕ) (r : Receipt) (number : ℕ) (s : Slot) → slot_received name r number (slot_bare s) ≡ slot_bare s → slot_received name r number s ≡ s
unreceived_bare name r number s same = sym (received_as_long name r number s) ∙ (ap (slot_as_long s) same ∙ whole_again s)
