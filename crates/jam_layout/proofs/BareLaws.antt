-- A conference without bodies, with their lengths, makes the outline of the conference.
use Rattle.std.proofs.Common.{◌≡◌, List, [], ◌∷◌, map, refl, ap}
use Rattle.jam_records.specs.declared.message.Slot.{Slot}
use Rattle.jam_records.specs.declared.message.Slot.TheVariants.{Gone, Held}
use Rattle.jam_layout.specs.Bare.{bare_of, body_lengths, filled, filled_slots}
use Rattle.jam_layout.specs.Outlines.{message_outline, outline, slot_bare, slot_outline}
use Rattle.jam_layout.specs.declared.conference.ConferenceContents.{ConferenceContents}

slots_filled : (slots : List Slot) → filled_slots (body_lengths slots) (map slot_bare slots) ≡ map slot_outline slots
slots_filled [] = refl
slots_filled (Gone ∷ slots) = ap (λ (xs : List Slot). Gone ∷ xs) (slots_filled slots)
slots_filled (Held m ∷ slots) = ap (λ (xs : List Slot). Held (message_outline m) ∷ xs) (slots_filled slots)

pub bare_filled : (c : ConferenceContents) → filled (bare_of c) ≡ outline c
bare_filled c = λ i. record { counter = c.counter; slots = slots_filled c.slots i; pointers = c.pointers }
