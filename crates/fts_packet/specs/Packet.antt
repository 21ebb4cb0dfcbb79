-- Type 2 packets (FTS-0001, "Packet header" and "Packed message"): a header of 58 bytes, packed messages, and two NULs
-- or the end of the file. Numbers are of two bytes, and places count from 0.
use Rattle.std.specs.Prelude.{◌≡◌, ℕ, ◌<◌, List, [], ◌∷◌, ◌++◌, length, take, drop, decimal, Bool, ◌&&◌, ◌==◌, nat_le, nat_lt, if◌then◌else◌, IsTrue}
use Rattle.text_fields.specs.Split.{Lacks}
use Rattle.record_numbers.specs.Numbers.{u16_at}
use Rattle.fts_packet.specs.Text.{text_lines}
use Rattle.fts_packet.specs.declared.packet.FtsMessage.{FtsMessage}

-- no number is greater than an address has them
abbrev pub are_parts : ℕ → ℕ → ℕ → Bool
are_parts zone net node = (nat_le zone 32767 && nat_le net 32767) && nat_le node 32767

-- `zone:net/node`, or nothing where one of them is too great
abbrev pub fts_address : ℕ → ℕ → ℕ → List ℕ
fts_address zone net node =
    if are_parts zone net node then decimal zone ++ (58 ∷ (decimal net ++ (47 ∷ decimal node))) else []

-- the header of a type 2 packet, whose other bytes are free
pub record IsHeader (header : List ℕ) : Type 0 where
  pub size : length header ≡ 58
  pub kind : u16_at 18 header ≡ 2

-- What stands before To gives the addresses, with the header's zones, and the date. Attribute and cost are free.
pub record FrontReads (header front : List ℕ) (m : FtsMessage) : Type 0 where
  pub size : length front ≡ 34
  pub kind : u16_at 0 front ≡ 2
  pub origin : m.origin ≡ fts_address (u16_at 34 header) (u16_at 6 front) (u16_at 2 front)
  pub destination : m.destination ≡ fts_address (u16_at 36 header) (u16_at 8 front) (u16_at 4 front)
  pub date : m.date ≡ take 20 (drop 14 front)

-- with its NUL the text has at most so many bytes, and it has no other
pub record IsField (width : ℕ) (text : List ℕ) : Type 0 where
  pub clear : Lacks 0 text
  pub short : length text < width

-- 34 bytes, and then To, From, Subject and the text, each with its NUL
pub record PackedMessageReads (header bytes : List ℕ) (m : FtsMessage) : Type 0 where
  pub front : List ℕ
  pub text : List ℕ
  pub whole : bytes ≡ front ++ (m.to ++ 0 ∷ (m.from ++ 0 ∷ (m.subject ++ 0 ∷ (text ++ 0 ∷ []))))
  pub numbers : FrontReads header front m
  pub to : IsField 36 m.to
  pub from : IsField 36 m.from
  pub subject : IsField 72 m.subject
  pub clear : Lacks 0 text
  pub lines : m.lines ≡ text_lines text

-- one message after another, and nothing else
abbrev pub PackedMessagesRead : List ℕ → List ℕ → List FtsMessage → Type 0
PackedMessagesRead header bytes [] = bytes ≡ []
PackedMessagesRead header bytes (m ∷ messages) =
    (first rest : List ℕ) × (bytes ≡ first ++ rest) × PackedMessageReads header first m × PackedMessagesRead header rest messages

-- the packet ends here: no bytes are left, or a number of 0 and free bytes
abbrev pub is_end : List ℕ → Bool
is_end rest = if nat_lt (length rest) 2 then length rest == 0 else u16_at 0 rest == 0

pub record FtsReads (bytes : List ℕ) (messages : List FtsMessage) : Type 0 where
  pub header : List ℕ
  pub body : List ℕ
  pub rest : List ℕ
  pub whole : bytes ≡ header ++ (body ++ rest)
  pub headed : IsHeader header
  pub each : PackedMessagesRead header body messages
  pub ended : IsTrue (is_end rest)
