-- The loop over slots that marks messages received.
use Rattle.std.proofs.Common.{◌≡◌, ℕ, zero, suc, ◌+◌, ◌-◌, ◌<◌, ◌≤◌, List, [], ◌∷◌, ◌++◌, length, take, drop, get_or, refl, sym, ap, ◌∙◌, arith, append_assoc, append-nil, length-append, length-take}
use Rattle.std.proofs.Math.ListN.{set}
use Rattle.std.proofs.lemmas.List.{drop_all, drop_more, take_all, take_more, length-drop, set-append_right, get_or-append_right}
use Rattle.jam_records.specs.declared.message.Slot.{Slot}
use Rattle.jam_records.specs.declared.message.Slot.TheVariants.{Gone}
use Rattle.jam_base.specs.Slots.{slot_received, slots_received}
use Rattle.jam_base.specs.declared.receipt.Receipt.{Receipt}
use Rattle.jam_base.proofs.SlotChanges.{received_length}

pub received_append : (name : List ℕ) (r : Receipt) (n : ℕ) (slots more : List Slot) → slots_received name r n (slots ++ more) ≡ slots_received name r n slots ++ slots_received name r (n + length slots) more
received_append name r n [] more = let e : n ≡ n + 0 = omega arith in ap (λ (k : ℕ). slots_received name r k more) e
received_append name r n (s ∷ slots) more =
    let e : (n + 1) + length slots ≡ n + suc (length slots) = omega arith in
    ap (λ (xs : List Slot). slot_received name r n s ∷ xs) (received_append name r (n + 1) slots more ∙ ap (λ (k : ℕ). slots_received name r (n + 1) slots ++ slots_received name r k more) e)

-- those before the place are received, and the others aren't yet
pub record ReceivedSoFar (name : List ℕ) (r : Receipt) (slots : List Slot) (place : ℕ) (new : List Slot) : Type 0 where
  pub so_far : new ≡ slots_received name r 1 (take place slots) ++ drop place slots

pub received_count : (name : List ℕ) (r : Receipt) (slots : List Slot) (place : ℕ) (new : List Slot) → place < length slots → ReceivedSoFar name r slots place new → length new ≡ length slots
received_count name r slots place new within so_far =
    omega (arith, ap length so_far.so_far, length-append (slots_received name r 1 (take place slots)) (drop place slots), received_length name r 1 (take place slots), length-take place slots, length-drop place slots, within)

pub received_more : (name : List ℕ) (r : Receipt) (slots : List Slot) (place : ℕ) (new next : List Slot) → place < length slots → next ≡ set new place (slot_received name r (place + 1) (get_or new place Gone))
    → ReceivedSoFar name r slots place new → ReceivedSoFar name r slots (place + 1) next
received_more name r slots place new next within is so_far =
    let s : Slot = get_or slots place Gone in
    let rest : List Slot = drop (place + 1) slots in
    let front : List Slot = slots_received name r 1 (take place slots) in
    let t : Slot = slot_received name r (place + 1) s in
    let counted : length front ≡ place = omega (arith, received_length name r 1 (take place slots), length-take place slots, within) in
    let zero_left : place - place ≡ 0 = omega arith in
    let whole : new ≡ front ++ (s ∷ rest) = so_far.so_far ∙ ap (λ (xs : List Slot). front ++ xs) (drop_more slots place Gone within) in
    let got : get_or new place Gone ≡ s = ap (λ (xs : List Slot). get_or xs place Gone) whole ∙ (get_or-append_right front (s ∷ rest) place place Gone counted (omega arith) ∙ ap (λ (k : ℕ). get_or (s ∷ rest) k Gone) zero_left) in
    let done : set new place (slot_received name r (place + 1) (get_or new place Gone)) ≡ front ++ (t ∷ rest) =
    (λ i. set (whole i) place (slot_received name r (place + 1) (got i)))
    ∙ (set-append_right front (s ∷ rest) place place t counted (omega arith) ∙ ap (λ (k : ℕ). front ++ set (s ∷ rest) k t) zero_left) in
    let number : 1 + length (take place slots) ≡ place + 1 = omega (arith, length-take place slots, within) in
    let longer : slots_received name r 1 (take (place + 1) slots) ≡ front ++ t ∷ [] =
    ap (slots_received name r 1) (take_more slots place Gone within)
    ∙ (received_append name r 1 (take place slots) (s ∷ []) ∙ ap (λ (k : ℕ). front ++ slot_received name r k s ∷ []) number) in
    record { so_far = is ∙ (done ∙ (sym (append_assoc front (t ∷ []) rest) ∙ ap (λ (xs : List Slot). xs ++ rest) (sym longer))) }

pub received_end : (name : List ℕ) (r : Receipt) (slots : List Slot) (place : ℕ) (new : List Slot) → length slots ≤ place → ReceivedSoFar name r slots place new → new ≡ slots_received name r 1 slots
received_end name r slots place new none so_far =
    so_far.so_far ∙ ((λ i. slots_received name r 1 (take_all place slots none i) ++ drop_all place slots none i) ∙ append-nil (slots_received name r 1 slots))

-- an item put where it is
pub set_item : {X : Type 0} (xs : List X) (place : ℕ) (d : X) → set xs place (get_or xs place d) ≡ xs
set_item [] place d = refl
set_item (x ∷ xs) zero d = refl
set_item (x ∷ xs) (suc place) d = λ i. x ∷ set_item xs place d i
