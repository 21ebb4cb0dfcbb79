-- The offers in a user's record. A record has cells for them, in version 1 one and in version 2 four: the open offers
-- come first.
use Rattle.std.specs.Prelude.{◌≡◌, ℕ, zero, suc, ◌+◌, ◌*◌, ◌<◌, ◌≤◌, List, [], ◌∷◌, ◌++◌, length, replicate, All, Bool, true, IsTrue, ◌&&◌, ◌||◌, ◌==◌, nat_lt, nat_le, if◌then◌else◌}
use Rattle.std.specs.List.{flat_map, list_all}
use Rattle.std.specs.Int.{bit_at}
use Rattle.record_numbers.specs.Numbers.{u32_at, u32_text, u32s_text, IsU32}
use Rattle.open_offers.specs.Texts.{u32s_at, u64_at, u64_text}
use Rattle.open_offers.specs.declared.offer.OpenOffer.{OpenOffer}
use Rattle.open_offers.specs.declared.version.Version.{Version}
use Rattle.open_offers.specs.declared.version.Version.TheVariants.{First, Second}

-- ---- cells
-- how many a record has
abbrev pub cell_count : Version → ℕ
cell_count First = 1
cell_count Second = 4

-- a cell without an offer, where there are so many conferences
abbrev pub no_offer : ℕ → OpenOffer
no_offer count = record { number = 0; highs = replicate count 0 }

-- so many cells: the open offers, and then none
abbrev pub cells_for : ℕ → ℕ → List OpenOffer → List OpenOffer
cells_for count zero offers = []
cells_for count (suc n) [] = no_offer count ∷ cells_for count n []
cells_for count (suc n) (o ∷ offers) = o ∷ cells_for count n offers

-- the open offers in cells
abbrev pub open_in : List OpenOffer → List OpenOffer
open_in [] = []
open_in (o ∷ cells) = if o.number == 0 then [] else o ∷ open_in cells

-- ---- the bytes behind the last packet
abbrev pub cell_text : OpenOffer → List ℕ
cell_text o = u32_text o.number ++ u32s_text o.highs

-- version 1: the number of the one offer, the member set, the highs; version 2: the member set, and each offer
abbrev pub behind_last : Version → ℕ → List OpenOffer → List ℕ
behind_last First members [] = []
behind_last First members (o ∷ cells) = u32_text o.number ++ (u64_text members ++ u32s_text o.highs)
behind_last Second members cells = u64_text members ++ flat_map cell_text cells

-- the length of a cell, where there are so many conferences, and of so many cells
abbrev pub cell_size : ℕ → ℕ
cell_size count = 4 + 4 * count

abbrev pub cells_size : ℕ → ℕ → ℕ
cells_size count zero = 0
cells_size count (suc n) = cell_size count + cells_size count n

-- the length of what stands behind the last packet
abbrev pub behind_size : Version → ℕ → ℕ
behind_size First count = 12 + 4 * count
behind_size Second count = 8 + cells_size count 4

-- the offer whose number and whose highs stand at these places
abbrev pub offer_at : ℕ → ℕ → ℕ → List ℕ → OpenOffer
offer_at number highs count bytes = record { number = u32_at number bytes; highs = u32s_at highs count bytes }

-- so many cells from a place on
abbrev pub cells_at : ℕ → ℕ → ℕ → List ℕ → List OpenOffer
cells_at at count zero bytes = []
cells_at at count (suc n) bytes = offer_at at (at + 4) count bytes ∷ cells_at (at + cell_size count) count n bytes

-- the member set and the cells behind the last packet, which ends at a place
abbrev pub members_at : Version → ℕ → List ℕ → ℕ
members_at First at bytes = u64_at (at + 4) bytes
members_at Second at bytes = u64_at at bytes

abbrev pub cells_behind : Version → ℕ → ℕ → List ℕ → List OpenOffer
cells_behind First at count bytes = offer_at at (at + 12) count bytes ∷ []
cells_behind Second at count bytes = cells_at (at + 8) count 4 bytes

-- ---- the rule on cells
-- the highs of the places from one on are 0 where the user of this member set isn't a member
abbrev pub are_of_member : ℕ → ℕ → List ℕ → Bool
are_of_member members place [] = true
are_of_member members place (high ∷ highs) = (high == 0 || bit_at members place == 1) && are_of_member members (place + 1) highs

-- there is no offer in the cell: its number is 0, and so is each high
abbrev pub is_nothing : OpenOffer → Bool
is_nothing o = o.number == 0 && list_all (λ high. high == 0) o.highs

-- the number is above the one before and at most the last packet, and each high is 0 where the user isn't a member
abbrev pub is_behind : ℕ → ℕ → ℕ → OpenOffer → Bool
is_behind members last before o = nat_lt before o.number && (nat_le o.number last && are_of_member members 0 o.highs)

-- each number is behind the one before, up to the first that is 0, and from there on there is nothing
abbrev pub rise : ℕ → ℕ → ℕ → List OpenOffer → Bool
rise members last before [] = true
rise members last before (o ∷ cells) =
    if o.number == 0 then list_all is_nothing (o ∷ cells) else is_behind members last before o && rise members last o.number cells

-- the first cell has no offer, or that of the last packet
abbrev pub is_last_packet : ℕ → List OpenOffer → Bool
is_last_packet last [] = true
is_last_packet last (o ∷ cells) = o.number == 0 || o.number == last

abbrev pub right_cells : Version → ℕ → ℕ → List OpenOffer → Bool
right_cells First members last cells = rise members last 0 cells && is_last_packet last cells
right_cells Second members last cells = rise members last 0 cells

-- ---- what is valid
-- one high for each of so many conferences, which is 0 where the user of this member set isn't a member
pub record IsOffer (count members : ℕ) (o : OpenOffer) : Type 0 where
  pub one_high_each : length o.highs ≡ count
  pub highs : All IsU32 o.highs
  pub of_member : IsTrue (are_of_member members 0 o.highs)

-- the numbers rise from above one on, up to the last packet
abbrev pub NumbersRise : ℕ → ℕ → List OpenOffer → Type 0
NumbersRise last before [] = Unit {0}
NumbersRise last before (o ∷ offers) = (before < o.number) × (o.number ≤ last) × NumbersRise last o.number offers

-- the open offers of a user
pub record AreOffers (count members last : ℕ) (offers : List OpenOffer) : Type 0 where
  pub few : length offers ≤ 4
  pub each : All (IsOffer count members) offers
  pub rise : NumbersRise last 0 offers

-- as version 1 has them: none, or that of the last packet alone
pub record AreOldOffers (last : ℕ) (offers : List OpenOffer) : Type 0 where
  pub few : length offers ≤ 1
  pub of_last : IsTrue (is_last_packet last offers)
