-- What slots without bodies show of the outline that they are kept for.
use Rattle.std.proofs.Common.{◌≡◌, ℕ, ◌<◌, List, length, map, get_or, refl, sym, ap, ◌∙◌}
use Rattle.jam_records.specs.declared.message.Slot.{Slot}
use Rattle.jam_records.specs.declared.message.Slot.TheVariants.{Gone, Held}
use Rattle.jam_layout.specs.Bodies.{body_size}
use Rattle.jam_layout.specs.Sizes.{slot_header}
use Rattle.jam_layout.specs.Outlines.{slot_bare, slot_outline, slot_with}
use Rattle.shared_slots.specs.Kept.{slot_as_long}
use Rattle.shared_slots.proofs.KeptLaws.{header_bare, item_map}

-- the slot in a place without its body
pub bare_is : (slots : List Slot) (place : ℕ) (b : Slot) → place < length slots → b ≡ get_or (map slot_bare slots) place b → b ≡ slot_bare (get_or slots place Gone)
bare_is slots place b within item = item ∙ item_map slot_bare slots place Gone b within

-- its header is as long
pub header_is : (slots : List Slot) (place : ℕ) (b : Slot) → place < length slots → b ≡ get_or (map slot_bare slots) place b → slot_header b ≡ slot_header (get_or slots place Gone)
header_is slots place b within item = ap slot_header (bare_is slots place b within item) ∙ header_bare (get_or slots place Gone)

again : (n : ℕ) (s : Slot) → slot_outline s ≡ s → n ≡ body_size s → slot_with n (slot_bare s) ≡ s
again n Gone same long = refl
again n (Held m) same long = ap (λ (k : ℕ). slot_with k (Held m)) long ∙ same

-- with a body that is as long as that of the slot in its place, it is the slot
pub filled : (slots : List Slot) (place n : ℕ) (b : Slot) → place < length slots → map slot_outline slots ≡ slots → b ≡ get_or (map slot_bare slots) place b → n ≡ body_size (get_or slots place Gone) → slot_with n b ≡ get_or slots place Gone
filled slots place n b within outline item long =
    let s : Slot = get_or slots place Gone in
    let same : slot_outline s ≡ s = sym (item_map slot_outline slots place Gone Gone within) ∙ ap (λ (xs : List Slot). get_or xs place Gone) outline in
    ap (slot_with n) (bare_is slots place b within item) ∙ again n s same long

-- with its body it is the slot again
pub whole_again : (s : Slot) → slot_as_long s (slot_bare s) ≡ s
whole_again Gone = refl
whole_again (Held m) = refl
