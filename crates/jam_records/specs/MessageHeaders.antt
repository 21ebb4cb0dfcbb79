-- The fixed part of a message header (JAM message base proposal, revision 1, the message headers of .JHR).
use Rattle.std.specs.Prelude.{◌≡◌, ◌≤◌, ℕ, List, [], ◌∷◌, ◌++◌, length, take, All}
use Rattle.record_numbers.specs.Numbers.{u16_at, u32_at, u16_text, u32s_text, IsU32}
use Rattle.jam_records.specs.Signature.{signature}
use Rattle.jam_records.specs.declared.message_header.MessageHeader.{MessageHeader}

-- Each field by its offset: SubfieldLen, TimesRead, MSGIDcrc, REPLYcrc, ReplyTo, Reply1st, ReplyNext,
-- DateWritten, DateReceived, DateProcessed, MessageNumber, Attribute, Attribute2, Offset, TxtLen,
-- PasswordCRC, Cost
abbrev pub message_header_at : List ℕ → MessageHeader
message_header_at bytes = record {
  subfield_len = u32_at 8 bytes;
  times_read = u32_at 12 bytes;
  msgid_crc = u32_at 16 bytes;
  reply_crc = u32_at 20 bytes;
  reply_to = u32_at 24 bytes;
  reply1st = u32_at 28 bytes;
  reply_next = u32_at 32 bytes;
  written = u32_at 36 bytes;
  received = u32_at 40 bytes;
  processed = u32_at 44 bytes;
  number = u32_at 48 bytes;
  attribute = u32_at 52 bytes;
  attribute2 = u32_at 56 bytes;
  offset = u32_at 60 bytes;
  text_len = u32_at 64 bytes;
  password_crc = u32_at 68 bytes;
  cost = u32_at 72 bytes;
}

-- the fields in order
abbrev pub message_fields : MessageHeader → List ℕ
message_fields h =
    h.subfield_len ∷ h.times_read ∷ h.msgid_crc ∷ h.reply_crc ∷ h.reply_to ∷ h.reply1st ∷ h.reply_next
    ∷ h.written ∷ h.received ∷ h.processed ∷ h.number ∷ h.attribute ∷ h.attribute2 ∷ h.offset ∷ h.text_len
    ∷ h.password_crc ∷ h.cost ∷ []

-- the signature, revision 1, two reserved bytes, and the fields
unfoldable pub header_text : MessageHeader → List ℕ
header_text h = signature ++ (u16_text 1 ++ (u16_text 0 ++ u32s_text (message_fields h)))

-- each field has four bytes
abbrev pub IsMessageHeader : MessageHeader → Type 0
IsMessageHeader h = All IsU32 (message_fields h)

-- the header stands at the front of the bytes; what the reserved bytes hold is free
pub record MessageHeaderStands (bytes : List ℕ) (header : MessageHeader) : Type 0 where
  pub whole : 76 ≤ length bytes
  pub signed : take 4 bytes ≡ signature
  pub revision : u16_at 4 bytes ≡ 1
  pub fields : header ≡ message_header_at bytes
