-- What slots hold stays, but for marks: who sent a message, to whom, and whether it is private; and what is deleted stays
-- deleted, or goes. Further slots come at the end.
use Rattle.std.proofs.Common.{◌≡◌, ℕ, zero, suc, ◌+◌, ◌-◌, ◌<◌, ◌≤◌, Bool, true, false, cond, eqb, List, [], ◌∷◌, ◌++◌, length, get_or, set, map, refl, sym, ap, ◌∙◌, subst, inl, inr, arith, append_assoc}
use Rattle.std.proofs.lemmas.Bool.{cases_eq, cases_lt, cond-false, cond-true, eq-eqb, ne_eqb, false≢true}
use Rattle.std.proofs.lemmas.List.{append-nil, get_or_past}
use Rattle.jam_base.specs.Slots.{has_live, is_due, numbered, slot_deleted, slot_received, slots_deleted, slots_received, slots_with_all}
use Rattle.jam_base.specs.declared.receipt.Receipt.{Receipt}
use Rattle.jam_layout.specs.Conference.{is_live}
use Rattle.jam_records.specs.declared.message.Message.{Message}
use Rattle.jam_records.specs.declared.message.Slot.{Slot}
use Rattle.jam_records.specs.declared.message.Slot.TheVariants.{Gone, Held}
use Rattle.post_changes.specs.slot_changes.Packed.{slot_packed, slots_packed}

pub record MessageFollows (m n : Message) : Type 0 where
  pub from : n.from ≡ m.from
  pub to : n.to ≡ m.to
  pub private : n.private ≡ m.private
  pub deleted : m.deleted ≡ true → n.deleted ≡ true

abbrev pub SlotFollows : Slot → Slot → Type 0
SlotFollows Gone s = s ≡ Gone
SlotFollows (Held m) Gone = m.deleted ≡ true
SlotFollows (Held m) (Held n) = MessageFollows m n

abbrev pub SlotsFollow : List Slot → List Slot → Type 0
SlotsFollow [] ys = Unit {0}
SlotsFollow (x ∷ xs) [] = ⊥
SlotsFollow (x ∷ xs) (y ∷ ys) = SlotFollows x y × SlotsFollow xs ys

-- ---- what changes of slots do
slot_itself : (s : Slot) → SlotFollows s s
slot_itself Gone = refl
slot_itself (Held m) = record { from = refl; to = refl; private = refl; deleted = λ is. is }

pub slots_more : (xs ys : List Slot) → SlotsFollow xs (xs ++ ys)
slots_more [] ys = tt
slots_more (x ∷ xs) ys = (slot_itself x, slots_more xs ys)

pub slots_themselves : (xs : List Slot) → SlotsFollow xs xs
slots_themselves [] = tt
slots_themselves (x ∷ xs) = (slot_itself x, slots_themselves xs)

all_behind : (slots : List Slot) (messages : List Message) → slots_with_all slots messages ≡ slots ++ map Held messages
all_behind slots [] = sym (append-nil slots)
all_behind slots (m ∷ messages) = all_behind (slots ++ Held m ∷ []) messages ∙ append_assoc slots (Held m ∷ []) (map Held messages)

pub appended_follow : (slots : List Slot) (messages : List Message) → SlotsFollow slots (slots_with_all slots messages)
appended_follow slots messages = subst (SlotsFollow slots) (sym (all_behind slots messages)) (slots_more slots (map Held messages))

set_follow : (xs : List Slot) (k : ℕ) (s : Slot) → SlotFollows (get_or xs k Gone) s → SlotsFollow xs (set xs k s)
set_follow [] k s follows = tt
set_follow (x ∷ xs) zero s follows = (follows, slots_themselves xs)
set_follow (x ∷ xs) (suc k) s follows = (slot_itself x, set_follow xs k s follows)

deleted_itself : (s : Slot) → SlotFollows s (slot_deleted s)
deleted_itself Gone = refl
deleted_itself (Held m) = record { from = refl; to = refl; private = refl; deleted = λ is. refl }

-- the number of a live message is above 0
pub live_number : (number : ℕ) (slots : List Slot) → has_live number slots ≡ true → numbered slots number ≡ get_or slots (number - 1) Gone
live_number number slots live = elim (cases_eq number 0) [
  | inl none ↦ absurd (false≢true (sym (ap is_live (cond-true (eqb number 0) Gone (get_or slots (number - 1) Gone) (eq-eqb number 0 none))) ∙ live))
  | inr some ↦ cond-false (eqb number 0) Gone (get_or slots (number - 1) Gone) (ne_eqb number 0 some)
]

pub deleted_follow : (number : ℕ) (slots : List Slot) → has_live number slots ≡ true → SlotsFollow slots (slots_deleted number slots)
deleted_follow number slots live =
    set_follow slots (number - 1) (slot_deleted (numbered slots number)) (subst (λ (s : Slot). SlotFollows s (slot_deleted (numbered slots number))) (live_number number slots live) (deleted_itself (numbered slots number)))

received_itself : (name : List ℕ) (r : Receipt) (n : ℕ) (s : Slot) → SlotFollows s (slot_received name r n s)
received_itself name r n Gone = refl
received_itself name r n (Held m) = by (is_due name r n m)
  where
    by : (due : Bool) → MessageFollows m (cond due (record m { seen = true; received = r.now }) m)
    by true = record { from = refl; to = refl; private = refl; deleted = λ is. is }
    by false = record { from = refl; to = refl; private = refl; deleted = λ is. is }

pub received_follow : (name : List ℕ) (r : Receipt) (n : ℕ) (slots : List Slot) → SlotsFollow slots (slots_received name r n slots)
received_follow name r n [] = tt
received_follow name r n (s ∷ slots) = (received_itself name r n s, received_follow name r (n + 1) slots)

packed_itself : (s : Slot) → SlotFollows s (slot_packed s)
packed_itself Gone = refl
packed_itself (Held m) = by m.deleted refl
  where
    by : (d : Bool) → m.deleted ≡ d → SlotFollows (Held m) (cond d Gone (Held m))
    by true is = is
    by false is = slot_itself (Held m)

pub packed_follow : (slots : List Slot) → SlotsFollow slots (slots_packed slots)
packed_follow [] = tt
packed_follow (s ∷ slots) = (packed_itself s, packed_follow slots)

-- ---- what is found in them
pub slots_count : (xs ys : List Slot) → SlotsFollow xs ys → length xs ≤ length ys
slots_count [] ys follow = omega arith
slots_count (x ∷ xs) [] follow = absurd follow
slots_count (x ∷ xs) (y ∷ ys) follow = omega (arith, slots_count xs ys follow.1)

pub slot_at : (xs ys : List Slot) (k : ℕ) → SlotsFollow xs ys → k < length xs → SlotFollows (get_or xs k Gone) (get_or ys k Gone)
slot_at [] ys k follow within = absurd (omega (arith, within))
slot_at (x ∷ xs) [] k follow within = absurd follow
slot_at (x ∷ xs) (y ∷ ys) zero follow within = follow.0
slot_at (x ∷ xs) (y ∷ ys) (suc k) follow within = slot_at xs ys k follow.1 (omega (arith, within))

pub live_within : (number : ℕ) (slots : List Slot) → has_live number slots ≡ true → (0 < number) × (number ≤ length slots)
live_within number slots live = elim (cases_eq number 0) [
  | inl none ↦ absurd (false≢true (sym (ap is_live (cond-true (eqb number 0) Gone (get_or slots (number - 1) Gone) (eq-eqb number 0 none))) ∙ live))
  | inr some ↦ elim (cases_lt (number - 1) (length slots)) [
    | inl within ↦ (omega (arith, some), omega (arith, some, within))
    | inr past ↦ absurd (false≢true (sym (ap is_live (live_number number slots live ∙ get_or_past slots (number - 1) Gone past)) ∙ live))
  ]
]
