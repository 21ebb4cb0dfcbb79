-- The subfields of a header, whoever wrote it (JAM message base proposal, revision 1, the subfields that follow a
-- message header).
use Rattle.std.specs.Prelude.{ℕ, zero, suc, ◌+◌, List, [], ◌∷◌, length, take, drop, Option, Some, None, option_map, ◌==◌, nat_lt, if◌then◌else◌}
use Rattle.record_numbers.specs.Numbers.{u16_at, u32_at}
use Rattle.jam_records.specs.declared.subfield.Subfield.{Subfield}

-- the subfield at the front: LoID, HiID, datlen, and the value
abbrev pub first_field : List ℕ → Subfield
first_field bytes = record { lo = u16_at 0 bytes; hi = u16_at 2 bytes; value = take (u32_at 4 bytes) (drop 8 bytes) }

-- The subfields that fill the bytes, or None where one passes the end. `left` bytes still belong to the one before.
unfoldable pub fields_from : ℕ → List ℕ → Option (List Subfield)
fields_from zero [] = Some []
fields_from (suc left) [] = None
fields_from (suc left) (b ∷ bytes) = fields_from left bytes
fields_from zero (b ∷ bytes) =
    if nat_lt (length bytes) 7 then None else option_map (λ fields. first_field (b ∷ bytes) ∷ fields) (fields_from (7 + u32_at 4 (b ∷ bytes)) bytes)

abbrev pub fields_of : List ℕ → Option (List Subfield)
fields_of bytes = fields_from 0 bytes

-- the value of the first subfield of an id, whatever its HiID, or nothing where there is none
abbrev pub value_of_id : ℕ → List Subfield → List ℕ
value_of_id id [] = []
value_of_id id (s ∷ fields) = if s.lo == id then s.value else value_of_id id fields
