-- Slots that differ in marks alone have the same links.
use Rattle.std.proofs.Common.{◌≡◌, ℕ, zero, suc, ◌+◌, ◌<◌, ◌==◌, List, [], ◌∷◌, length, take, get_or, Bool, true, false, cond, not, Option, Some, None, nat_lt, refl, ap, ◌∙◌, arith}
use Rattle.std.proofs.Math.ListN.{set}
use Rattle.std.specs.List.{slice_get, filter, position_or_len}
use Rattle.jam_records.specs.declared.message.Message.{Message}
use Rattle.jam_records.specs.declared.message.Slot.{Slot}
use Rattle.jam_records.specs.declared.message.Slot.TheVariants.{Gone, Held}
use Rattle.jam_threads.specs.Children.{has_msgid, number_at, first_of_id, original_behind, slot_original, original, children, numbers_to}
use Rattle.jam_threads.specs.Links.{link_of, first_in, following}
use Rattle.jam_base.specs.Slots.{is_due, slot_deleted, slot_received, slots_received}
use Rattle.jam_base.specs.declared.receipt.Receipt.{Receipt}

-- two slots of the same ids
pub record SameIds (s t : Slot) : Type 0 where
  pub msgid : (id : List ℕ) → has_msgid id t ≡ has_msgid id s
  pub answers : (before : List Slot) → slot_original before (Some t) ≡ slot_original before (Some s)

abbrev pub AllSame : List Slot → List Slot → Type 0
AllSame [] [] = Unit {0}
AllSame [] (t ∷ ts) = ⊥
AllSame (s ∷ ss) [] = ⊥
AllSame (s ∷ ss) (t ∷ ts) = SameIds s t × AllSame ss ts

pub same_self : (s : Slot) → SameIds s s
same_self s = record { msgid = λ id. refl; answers = λ before. refl }

pub all_self : (slots : List Slot) → AllSame slots slots
all_self [] = tt
all_self (s ∷ slots) = (same_self s, all_self slots)

pub length_same : (ss ts : List Slot) → AllSame ss ts → length ts ≡ length ss
length_same [] [] same = refl
length_same [] (t ∷ ts) same = absurd same
length_same (s ∷ ss) [] same = absurd same
length_same (s ∷ ss) (t ∷ ts) same = ap suc (length_same ss ts same.1)

place_same : (id : List ℕ) (ss ts : List Slot) → AllSame ss ts → position_or_len (has_msgid id) ts ≡ position_or_len (has_msgid id) ss
place_same id [] [] same = refl
place_same id [] (t ∷ ts) same = absurd same
place_same id (s ∷ ss) [] same = absurd same
place_same id (s ∷ ss) (t ∷ ts) same = λ i. cond (not (same.0.msgid id i)) (1 + place_same id ss ts same.1 i) 0

pub first_same : (id : List ℕ) (ss ts : List Slot) → AllSame ss ts → first_of_id ts id ≡ first_of_id ss id
first_same id ss ts same =
    λ i. number_at (cond (nat_lt (place_same id ss ts same i) (length_same ss ts same i)) (Some (place_same id ss ts same i)) None)

behind_same : (id : List ℕ) (ss ts : List Slot) → AllSame ss ts → original_behind ts id ≡ original_behind ss id
behind_same [] ss ts same = refl
behind_same (b ∷ id) ss ts same = first_same (b ∷ id) ss ts same

answer_same : (found : Option Slot) (ss ts : List Slot) → AllSame ss ts → slot_original ts found ≡ slot_original ss found
answer_same None ss ts same = refl
answer_same (Some Gone) ss ts same = refl
answer_same (Some (Held m)) ss ts same = behind_same m.replyid ss ts same

take_same : (n : ℕ) (ss ts : List Slot) → AllSame ss ts → AllSame (take n ss) (take n ts)
take_same zero ss ts same = tt
take_same (suc n) [] [] same = tt
take_same (suc n) [] (t ∷ ts) same = absurd same
take_same (suc n) (s ∷ ss) [] same = absurd same
take_same (suc n) (s ∷ ss) (t ∷ ts) same = (same.0, take_same n ss ts same.1)

get_same : (before : List Slot) (n : ℕ) (ss ts : List Slot) → AllSame ss ts → slot_original before (slice_get ts n) ≡ slot_original before (slice_get ss n)
get_same before n [] [] same = refl
get_same before n [] (t ∷ ts) same = absurd same
get_same before n (s ∷ ss) [] same = absurd same
get_same before zero (s ∷ ss) (t ∷ ts) same = same.0.answers before
get_same before (suc n) (s ∷ ss) (t ∷ ts) same = get_same before n ss ts same.1

original_same : (ss ts : List Slot) → AllSame ss ts → (number : ℕ) → original ts number ≡ original ss number
unfolding original
original_same ss ts same zero = refl
original_same ss ts same (suc n) = get_same (take n ts) n ss ts same ∙ answer_same (slice_get ss n) (take n ss) (take n ts) (take_same n ss ts same)

pub children_same : (ss ts : List Slot) → AllSame ss ts → (number : ℕ) → children ts number ≡ children ss number
unfolding children
children_same ss ts same number = λ i. filter (λ k. original_same ss ts same k i == number) (numbers_to (length_same ss ts same i))

pub links_same : (ss ts : List Slot) → AllSame ss ts → link_of ts ≡ link_of ss
unfolding link_of
links_same ss ts same = λ i number. record {
  to = original_same ss ts same number i;
  first = first_in (children_same ss ts same number i);
  next = cond (original_same ss ts same number i == 0) 0 (following number (children_same ss ts same (original_same ss ts same number i) i));
}

-- ---- marks
pub set_same : (slots : List Slot) (place : ℕ) (d t : Slot) → place < length slots → SameIds (get_or slots place d) t → AllSame slots (set slots place t)
set_same [] place d t within same = absurd (omega (arith, within))
set_same (x ∷ slots) zero d t within same = (same, all_self slots)
set_same (x ∷ slots) (suc place) d t within same = (same_self x, set_same slots place d t (omega (arith, within)) same)

pub deleted_same : (s : Slot) → SameIds s (slot_deleted s)
deleted_same Gone = same_self Gone
deleted_same (Held m) = record { msgid = λ id. refl; answers = λ before. refl }

one_received : (r : Receipt) (m : Message) (due : Bool) → SameIds (Held m) (Held (cond due (record m { seen = true; received = r.now }) m))
one_received r m true = record { msgid = λ id. refl; answers = λ before. refl }
one_received r m false = same_self (Held m)

received_same : (name : List ℕ) (r : Receipt) (n : ℕ) (s : Slot) → SameIds s (slot_received name r n s)
received_same name r n Gone = same_self Gone
received_same name r n (Held m) = one_received r m (is_due name r n m)

pub all_received_same : (name : List ℕ) (r : Receipt) (n : ℕ) (slots : List Slot) → AllSame slots (slots_received name r n slots)
all_received_same name r n [] = tt
all_received_same name r n (s ∷ slots) = (received_same name r n s, all_received_same name r (n + 1) slots)
