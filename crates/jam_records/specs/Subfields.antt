-- Subfields (JAM message base proposal, revision 1, the subfields that follow a message header).
use Rattle.std.specs.Prelude.{◌≡◌, ◌≤◌, ◌<◌, ℕ, ◌+◌, List, ◌++◌, length, All}
use Rattle.std.specs.List.{flat_map}
use Rattle.record_numbers.specs.Numbers.{u32_at, u16_text, u32_text, IsU16}
use Rattle.jam_records.specs.declared.subfield.Subfield.{Subfield}

-- LoID, HiID, datlen, and the value
unfoldable pub subfield_text : Subfield → List ℕ
subfield_text s = u16_text s.lo ++ (u16_text s.hi ++ (u32_text (length s.value) ++ s.value))

-- subfields, one after the other
abbrev pub subfields_text : List Subfield → List ℕ
subfields_text subfields = flat_map subfield_text subfields

-- each id has two bytes
abbrev pub IsSubfield : Subfield → Type 0
IsSubfield s = IsU16 s.lo × IsU16 s.hi

-- the bytes are these subfields and nothing else
pub record SubfieldsRead (bytes : List ℕ) (subfields : List Subfield) : Type 0 where
  pub ids : All IsSubfield subfields
  pub whole : bytes ≡ subfields_text subfields

-- bytes are left, and they don't begin with a whole subfield
pub record IsCutShort (bytes : List ℕ) : Type 0 where
  pub some : 0 < length bytes
  pub short : 8 ≤ length bytes → length bytes < 8 + u32_at 4 bytes

-- the first subfield that passes the end begins at this place
pub record PassesEnd (bytes : List ℕ) (place : ℕ) : Type 0 where
  pub before : List Subfield
  pub rest : List ℕ
  pub ids : All IsSubfield before
  pub whole : bytes ≡ subfields_text before ++ rest
  pub begins : place ≡ length (subfields_text before)
  pub cut : IsCutShort rest
