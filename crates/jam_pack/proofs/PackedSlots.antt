-- What a pack leaves of slots: the one of each number, but for a deleted message, which no one sees.
use Rattle.std.proofs.Common.{◌≡◌, ℕ, zero, suc, ◌-◌, Bool, true, false, cond, not, ◌&&◌, eqb, List, [], ◌∷◌, get_or, refl, ap}
use Rattle.board_layout.specs.jam_base.Slots.{numbered}
use Rattle.jam_layout.specs.Conference.{is_live}
use Rattle.jam_records.specs.declared.message.Message.{Message}
use Rattle.jam_records.specs.declared.message.Slot.{Slot}
use Rattle.jam_records.specs.declared.message.Slot.TheVariants.{Gone, Held}
use Rattle.slot_changes.specs.Packed.{slot_packed, slots_packed}

-- the slot of a number
get_packed : (slots : List Slot) (k : ℕ) → get_or (slots_packed slots) k Gone ≡ slot_packed (get_or slots k Gone)
get_packed [] k = refl
get_packed (s ∷ slots) zero = refl
get_packed (s ∷ slots) (suc k) = get_packed slots k

pub numbered_packed : (slots : List Slot) (number : ℕ) → numbered (slots_packed slots) number ≡ slot_packed (numbered slots number)
numbered_packed slots number = by (eqb number 0)
  where
    by : (none : Bool) → cond none Gone (get_or (slots_packed slots) (number - 1) Gone) ≡ slot_packed (cond none Gone (get_or slots (number - 1) Gone))
    by true = refl
    by false = get_packed slots (number - 1)

-- what is asked of a live slot alone is the same of it and of the packed one
held_packed : (ask : Slot → Bool) (m : Message) (d : Bool) → m.deleted ≡ d → (is_live (cond d Gone (Held m)) && ask (cond d Gone (Held m))) ≡ (not d && ask (Held m))
held_packed ask m true is = refl
held_packed ask m false is = ap (λ (d : Bool). not d && ask (Held m)) is

pub live_packed : (ask : Slot → Bool) (s : Slot) → (is_live (slot_packed s) && ask (slot_packed s)) ≡ (is_live s && ask s)
live_packed ask Gone = refl
live_packed ask (Held m) = held_packed ask m m.deleted refl
