-- What a slot after a pack is, by the message that was fetched for its number; and the slots so far.
use Rattle.std.proofs.Common.{◌≡◌, ℕ, ◌+◌, ◌-◌, ◌<◌, true, false, List, [], ◌∷◌, ◌++◌, length, map, take, get_or, Option, Some, None, refl, sym, ap, ◌∙◌, arith}
use Rattle.std.specs.Prelude.{option_map}
use Rattle.std.proofs.lemmas.Bool.{cond-false, cond-true}
use Rattle.std.proofs.lemmas.List.{map-append, map_more}
use Rattle.board_layout.proofs.OutlineLaws.{outline_numbered}
use Rattle.board_layout.specs.Board.{Board}
use Rattle.board_layout.specs.Lookups.{held_in, slots_in}
use Rattle.board_layout.specs.Outlines.{board_outline}
use Rattle.board_layout.proofs.jam_base.SlotChanges.{numbered_is}
use Rattle.board_layout.specs.jam_base.Slots.{numbered}
use Rattle.jam_layout.specs.Bodies.{message_with}
use Rattle.jam_layout.specs.Outlines.{message_outline, slot_bare, slot_outline}
use Rattle.jam_records.specs.declared.message.Message.{Message}
use Rattle.jam_records.specs.declared.message.Slot.{Slot}
use Rattle.jam_records.specs.declared.message.Slot.TheVariants.{Gone, Held}
use Rattle.mail_board.specs.Held.{AreAlike}
use Rattle.offered_packets.proofs.OutlineLaws.{outline_count, outline_slots}
use Rattle.slot_changes.specs.Packed.{is_deleted, slot_packed, slots_packed}

-- ---- the mark, by what is kept of the message
pub deleted_held : (s : Slot) (m : Message) → held_in (slot_bare s) ≡ Some m → m.deleted ≡ is_deleted s
deleted_held Gone m is = absurd (cc is)
deleted_held (Held n) m is = let same : message_with n [] ≡ m = cc in ap (λ (x : Message). x.deleted) (sym same)

pub deleted_none : (s : Slot) → held_in (slot_bare s) ≡ None → false ≡ is_deleted s
deleted_none Gone is = refl
deleted_none (Held n) is = absurd (cc is)

-- ---- the slot
pub gone_packed : (s : Slot) → is_deleted s ≡ true → slot_packed s ≡ Gone
gone_packed s is = cond-true (is_deleted s) Gone s is

pub held_packed : (s : Slot) (m : Message) → is_deleted s ≡ false → held_in s ≡ Some m → slot_packed s ≡ Held m
held_packed s m is held = cond-false (is_deleted s) Gone s is ∙ there s held
  where
    there : (s : Slot) → held_in s ≡ Some m → s ≡ Held m
    there Gone e = absurd (cc e)
    there (Held n) e = let same : n ≡ m = cc in ap Held same

pub none_packed : (s : Slot) → held_in s ≡ None → slot_packed s ≡ Gone
none_packed Gone held = refl
none_packed (Held n) held = absurd (cc held)

-- none is found where none is found on a board with that outline
pub none_like : (o : Option Message) → option_map message_outline None ≡ option_map message_outline o → o ≡ None
none_like None same = refl
none_like (Some m) same = absurd (cc same)

-- its outline, by that of the message
pub outline_packed : (s : Slot) (m : Message) → is_deleted s ≡ false → option_map message_outline (Some m) ≡ option_map message_outline (held_in s) → slot_outline (Held m) ≡ slot_outline (slot_packed s)
outline_packed s m is same = there s same ∙ ap slot_outline (sym (cond-false (is_deleted s) Gone s is))
  where
    there : (s : Slot) → option_map message_outline (Some m) ≡ option_map message_outline (held_in s) → slot_outline (Held m) ≡ slot_outline s
    there Gone e = absurd (cc e)
    there (Held n) e = let alike : message_outline m ≡ message_outline n = cc in ap Held alike

-- ---- boards with one outline have the same marks
one_marked : (s : Slot) → is_deleted (slot_outline s) ≡ is_deleted s
one_marked Gone = refl
one_marked (Held m) = refl

pub mark_alike : (a b : Board) → AreAlike a b → (place number : ℕ) → is_deleted (numbered (slots_in a place) number) ≡ is_deleted (numbered (slots_in b place) number)
mark_alike a b alike place number = sym (marked a) ∙ (ap (λ (o : Board). is_deleted (numbered (slots_in o place) number)) alike ∙ marked b)
  where
    marked : (c : Board) → is_deleted (numbered (slots_in (board_outline c) place) number) ≡ is_deleted (numbered (slots_in c place) number)
    marked c = ap (λ (slots : List Slot). is_deleted (numbered slots number)) (outline_slots c place) ∙ (ap is_deleted (outline_numbered (slots_in c place) number) ∙ one_marked (numbered (slots_in c place) number))

-- ---- the slots so far, and one more
numbered_next : (slots : List Slot) (k : ℕ) → numbered slots (k + 1) ≡ get_or slots k Gone
numbered_next slots k = let at : k + 1 - 1 ≡ k = omega arith in numbered_is slots (k + 1) (omega arith) ∙ ap (λ (n : ℕ). get_or slots n Gone) at

pub pack_more : (slots so_far : List Slot) (s : Slot) (k : ℕ) → k < length slots → so_far ≡ slots_packed (take k slots) → s ≡ slot_packed (numbered slots (k + 1)) → so_far ++ s ∷ [] ≡ slots_packed (take (k + 1) slots)
pack_more slots so_far s k within are is =
    let next : s ≡ slot_packed (get_or slots k Gone) = is ∙ ap slot_packed (numbered_next slots k) in
    (λ i. are i ++ next i ∷ []) ∙ sym (map_more slot_packed slots k Gone within)

pub outline_more : (slots so_far : List Slot) (s : Slot) (k : ℕ) → k < length slots → map slot_outline so_far ≡ map slot_outline (slots_packed (take k slots)) → slot_outline s ≡ slot_outline (slot_packed (numbered slots (k + 1)))
    → map slot_outline (so_far ++ s ∷ []) ≡ map slot_outline (slots_packed (take (k + 1) slots))
outline_more slots so_far s k within are is =
    let next : slot_outline s ≡ slot_outline (slot_packed (get_or slots k Gone)) = is ∙ ap (λ (x : Slot). slot_outline (slot_packed x)) (numbered_next slots k) in
    map-append slot_outline so_far (s ∷ [])
    ∙ ((λ i. are i ++ next i ∷ [])
    ∙ (sym (map-append slot_outline (slots_packed (take k slots)) (slot_packed (get_or slots k Gone) ∷ []))
    ∙ ap (map slot_outline) (sym (map_more slot_packed slots k Gone within))))

pub count_same : (a b : Board) → AreAlike a b → (place : ℕ) → length (slots_in a place) ≡ length (slots_in b place)
count_same a b alike place = sym (outline_count a place) ∙ (ap (λ (o : Board). length (slots_in o place)) alike ∙ outline_count b place)

-- where one board has no slot in a place, the other has none
pub none_same : (a b : Board) → AreAlike a b → (place : ℕ) → slots_in b place ≡ [] → slots_packed (slots_in a place) ≡ []
none_same a b alike place none = by (slots_in a place) (count_same a b alike place ∙ ap length none)
  where
    by : (slots : List Slot) → length slots ≡ 0 → slots_packed slots ≡ []
    by [] none = refl
    by (s ∷ slots) none = absurd (omega (arith, none))
