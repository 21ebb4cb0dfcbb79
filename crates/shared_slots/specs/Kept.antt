-- What is kept of slots: no bodies, and besides the slots what a change of one would else go over all for.
use Rattle.std.specs.Prelude.{◌≡◌, ℕ, ◌+◌, ◌-◌, ◌≤◌, ◌<◌, ◌^◌, List, [], ◌∷◌, length, map, drop, slice_index, sum_by, if◌then◌else◌}
use Rattle.jam_records.specs.declared.message.Slot.{Slot}
use Rattle.jam_records.specs.declared.message.Slot.TheVariants.{Gone, Held}
use Rattle.jam_layout.specs.Conference.{is_live, live_count}
use Rattle.jam_layout.specs.Limits.{slot_limit}
use Rattle.jam_layout.specs.Sizes.{slot_header}
use Rattle.jam_layout.specs.Bodies.{body_piece, body_size, message_with}
use Rattle.jam_layout.specs.Outlines.{slot_bare, slot_outline, slot_with}
use Rattle.shared_slots.specs.PlacesFrom.{places_from}

-- how many messages of a slot aren't deleted
abbrev pub one_live : Slot → ℕ
one_live slot = if is_live slot then 1 else 0

-- slots whose bodies stand from each of these places to the next, as the outline that they have
abbrev pub slots_between : List ℕ → List Slot → List Slot
slots_between places [] = []
slots_between places (s ∷ slots) = slot_with (slice_index places 1 - slice_index places 0) s ∷ slots_between (drop 1 places) slots

-- a slot with the body that another has, where it holds a message
abbrev pub slot_as_long : Slot → Slot → Slot
slot_as_long old Gone = Gone
slot_as_long old (Held m) = Held (message_with m (body_piece old))

-- The slots are an outline, and are kept without bodies, with where their headers stand in .JHR, behind that of the base,
-- and their bodies in .JDT, and how many messages aren't deleted. There are at most 9,999, and each of the two files has
-- fewer than 2^31 bytes.
pub record AreKept (slots bare : List Slot) (headers bodies : List ℕ) (live : ℕ) : Type 0 where
  pub outline : map slot_outline slots ≡ slots
  pub without_bodies : bare ≡ map slot_bare slots
  pub header_places : headers ≡ places_from slot_header 1024 slots
  pub body_places : bodies ≡ places_from body_size 0 slots
  pub alive : live ≡ live_count slots
  pub few : length slots ≤ slot_limit
  pub headers_small : 1024 + sum_by slot_header slots < 2 ^ 31
  pub bodies_small : sum_by body_size slots < 2 ^ 31
