-- The header of a base (JAM message base proposal, revision 1, the fixed header of .JHR).
use Rattle.std.specs.Prelude.{◌≡◌, ◌≤◌, ℕ, List, [], ◌∷◌, ◌++◌, length, take, All, replicate}
use Rattle.record_numbers.specs.Numbers.{u32_at, u32s_text, IsU32}
use Rattle.jam_records.specs.Signature.{signature}
use Rattle.jam_records.specs.declared.base_header.BaseHeader.{BaseHeader}

-- each field by its offset: DateCreated, ModCounter, ActiveMsgs, PasswordCRC, BaseMsgNum
abbrev pub base_header_at : List ℕ → BaseHeader
base_header_at bytes = record {
  created = u32_at 4 bytes;
  mod_counter = u32_at 8 bytes;
  active = u32_at 12 bytes;
  password_crc = u32_at 16 bytes;
  base_number = u32_at 20 bytes;
}

-- the fields in order
abbrev pub base_fields : BaseHeader → List ℕ
base_fields h = h.created ∷ h.mod_counter ∷ h.active ∷ h.password_crc ∷ h.base_number ∷ []

-- the signature, the fields, and 1000 reserved bytes
unfoldable pub base_text : BaseHeader → List ℕ
base_text h = signature ++ (u32s_text (base_fields h) ++ replicate 1000 0)

-- each field has four bytes
abbrev pub IsBaseHeader : BaseHeader → Type 0
IsBaseHeader h = All IsU32 (base_fields h)

-- the header stands at the front of the bytes; what the reserved bytes hold is free
pub record BaseHeaderStands (bytes : List ℕ) (header : BaseHeader) : Type 0 where
  pub whole : 1024 ≤ length bytes
  pub signed : take 4 bytes ≡ signature
  pub fields : header ≡ base_header_at bytes
