-- The records of .JLR (JAM message base proposal, revision 1).
use Rattle.std.specs.Prelude.{◌≡◌, ◌≤◌, ℕ, List, [], ◌∷◌, length, All}
use Rattle.record_numbers.specs.Numbers.{u32_at, u32s_text, IsU32}
use Rattle.jam_records.specs.declared.last_read.LastRead.{LastRead}

-- each field by its offset: UserCRC, UserID, LastReadMsg, HighReadMsg
abbrev pub last_read_at : List ℕ → LastRead
last_read_at bytes = record {
  user_crc = u32_at 0 bytes;
  user_id = u32_at 4 bytes;
  last = u32_at 8 bytes;
  high = u32_at 12 bytes;
}

-- the fields in order
abbrev pub last_fields : LastRead → List ℕ
last_fields r = r.user_crc ∷ r.user_id ∷ r.last ∷ r.high ∷ []

unfoldable pub last_text : LastRead → List ℕ
last_text r = u32s_text (last_fields r)

-- each field has four bytes
abbrev pub IsLastRead : LastRead → Type 0
IsLastRead r = All IsU32 (last_fields r)

-- the record stands at the front of the bytes
pub record LastReadStands (bytes : List ℕ) (last_read : LastRead) : Type 0 where
  pub whole : 16 ≤ length bytes
  pub fields : last_read ≡ last_read_at bytes
