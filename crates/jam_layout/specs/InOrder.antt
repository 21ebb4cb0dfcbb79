-- Subfields of a header in order, and their values (JAM message base proposal, revision 1, the subfields' LoIDs).
use Rattle.std.specs.Prelude.{◌≡◌, ◌≤◌, ◌<◌, ℕ, ◌^◌, ◌==◌, List, length, map, All, Option}
use Rattle.std.specs.List.{find}
use Rattle.std.specs.List.Sorted.{IsStrictlyIncreasing}
use Rattle.std.specs.Option.{option_map}
use Rattle.jam_records.specs.declared.subfield.Subfield.{Subfield}
use Rattle.jam_layout.specs.declared.fields.Values.{Values}

-- HiID is 0, and LoID is one of 0 to 6
abbrev pub HasDoorId : Subfield → Type 0
HasDoorId s = (s.hi ≡ 0) × (s.lo ≤ 6)

-- each id is one that the door writes, and the LoIDs rise
pub record InOrder (fields : List Subfield) : Type 0 where
  pub ids : All HasDoorId fields
  pub rise : IsStrictlyIncreasing (map (λ s. s.lo) fields)

-- the length of each value fits in the four bytes of datlen
abbrev pub FieldsFit : List Subfield → Type 0
FieldsFit fields = All (λ s. length s.value < 2 ^ 32) fields

-- the value of the subfield of an id, where there is one
abbrev pub value_of : ℕ → List Subfield → Option (List ℕ)
value_of id fields = option_map (λ s. s.value) (find (λ s. s.lo == id) fields)

-- the values of the ids 0 to 6, with nothing left
abbrev pub values_in : List Subfield → Values
values_in fields = record {
  origin = value_of 0 fields;
  destination = value_of 1 fields;
  from = value_of 2 fields;
  to = value_of 3 fields;
  msgid = value_of 4 fields;
  replyid = value_of 5 fields;
  subject = value_of 6 fields;
  left = 0;
}
