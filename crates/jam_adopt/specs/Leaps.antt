-- Where subfields that stand one after the other in .JHR are passed over at once. Places count from 0.
use Rattle.std.specs.Prelude.{◌≡◌, ◌≢◌, ◌⊎◌, ℕ, ◌+◌, ◌-◌, ◌^◌, ◌<◌, ◌≤◌, List, ◌++◌, length, drop, slice_index_or, All, bit_and, nat_lt, if◌then◌else◌}
use Rattle.record_numbers.specs.Numbers.{u16_at, u32_at}
use Rattle.jam_records.specs.Subfields.{subfields_text, IsSubfield}
use Rattle.jam_records.specs.declared.subfield.Subfield.{Subfield}
use Rattle.jam_adopt.specs.declared.leaps.Leap.{Leap}
use Rattle.jam_adopt.specs.declared.leaps.Leaps.{Leaps}

-- the bit of an id, 0 for an id that isn't looked for
abbrev pub bit_of_id : ℕ → ℕ
bit_of_id id = if nat_lt id 7 then 2 ^ id else 0

-- from a place to another one stand whole subfields, none of an id of these bits
pub record PassesFields (jhr : List ℕ) (bits at to : ℕ) : Type 0 where
  pub fields : List Subfield
  pub ids : All IsSubfield fields
  pub others : All (λ s. bit_and (bit_of_id s.lo) bits ≡ 0) fields
  pub rising : at ≤ to
  pub within : to ≤ length jhr
  pub whole : drop at jhr ≡ subfields_text fields ++ drop to jhr

-- what begins at a place is no subfield that ends at most at another one
abbrev pub IsCutAt : List ℕ → ℕ → ℕ → Type 0
IsCutAt jhr at to = at + 8 ≤ to → to < at + 8 + u32_at (at + 4) jhr

-- or it is one of an id of these bits
abbrev pub StopsAt : List ℕ → ℕ → ℕ → ℕ → Type 0
StopsAt jhr bits at to = IsCutAt jhr at to ⊎ (bit_and (bit_of_id (u16_at at jhr)) bits ≢ 0)

-- a leap from a place passes over whole subfields, all of whose ids it has
pub record IsLeap (jhr : List ℕ) (at : ℕ) (leap : Leap) : Type 0 where
  pub rising : at ≤ leap.to
  pub within : leap.to ≤ length jhr
  pub passes : (bits : ℕ) → bit_and leap.ids bits ≡ 0 → PassesFields jhr bits at leap.to

-- leaps from the last places on: the first is from the end, each other one from the place before
abbrev pub AreLeaps : List ℕ → List Leap → Type 0
AreLeaps jhr leaps = (k : ℕ) (other : Leap) → k < length leaps → IsLeap jhr (length jhr - k) (slice_index_or leaps k other)

-- those from all places
pub record AreAllLeaps (jhr : List ℕ) (leaps : Leaps) : Type 0 where
  pub count : length leaps.from_end.items ≡ length jhr + 1
  pub each : AreLeaps jhr leaps.from_end.items
