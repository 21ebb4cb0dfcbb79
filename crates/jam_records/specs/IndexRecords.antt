-- The records of .JDX (JAM message base proposal, revision 1).
use Rattle.std.specs.Prelude.{◌≡◌, ◌≤◌, ℕ, List, [], ◌∷◌, length, All}
use Rattle.record_numbers.specs.Numbers.{u32_at, u32s_text, IsU32}
use Rattle.jam_records.specs.declared.index_record.IndexRecord.{IndexRecord}

-- each field by its offset: UserCRC, HdrOffset
abbrev pub index_at : List ℕ → IndexRecord
index_at bytes = record { to_crc = u32_at 0 bytes; offset = u32_at 4 bytes }

-- the fields in order
abbrev pub index_fields : IndexRecord → List ℕ
index_fields r = r.to_crc ∷ r.offset ∷ []

unfoldable pub index_text : IndexRecord → List ℕ
index_text r = u32s_text (index_fields r)

-- each field has four bytes
abbrev pub IsIndex : IndexRecord → Type 0
IsIndex r = All IsU32 (index_fields r)

-- the record stands at the front of the bytes
pub record IndexStands (bytes : List ℕ) (index : IndexRecord) : Type 0 where
  pub whole : 8 ≤ length bytes
  pub fields : index ≡ index_at bytes
