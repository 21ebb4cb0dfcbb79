-- What the reader answers, and what it knows of a message before it takes memory.
use Rattle.std.specs.Prelude.{◌≡◌, ℕ, List, ◌∷◌, ◌++◌, length, take, drop}
use Rattle.text_fields.specs.Split.{Lacks}
use Rattle.record_numbers.specs.Numbers.{u16_at}
use Rattle.fts_packet.specs.Text.{text_lines}
use Rattle.fts_packet.specs.Packet.{IsHeader, IsField, fts_address}
use Rattle.fts_packet.specs.declared.fault.FtsError.{FtsError}
use Rattle.fts_packet.specs.declared.fault.FtsError.TheVariants.{Fault, OutOfMemory}
use Rattle.fts_packet.specs.declared.fault.FtsRule.{FtsRule}
use Rattle.fts_packet.specs.declared.packet.FtsMessage.{FtsMessage}
use Rattle.fts_packet.specs.declared.parts.Parts.{Parts}

-- a rule is broken so at a place, or there was no memory
abbrev pub FtsFaultOrMemory : (FtsRule → ℕ → Type 0) → FtsError → Type 0
FtsFaultOrMemory P (Fault rule at) = P rule at
FtsFaultOrMemory P OutOfMemory = Unit {0}

-- 34 bytes of a message, and what follows them
pub record FrontTaken (bytes front behind : List ℕ) : Type 0 where
  pub whole : bytes ≡ front ++ behind
  pub size : length front ≡ 34
  pub kind : u16_at 0 front ≡ 2

-- the four texts of a message with this front, and what follows it
pub record FieldsRead (front bytes : List ℕ) (p : Parts) : Type 0 where
  pub front_is : p.front.now ≡ front
  pub whole : bytes ≡ p.to.now ++ 0 ∷ (p.from.now ++ 0 ∷ (p.subject.now ++ 0 ∷ (p.text.now ++ 0 ∷ p.rest.now)))
  pub to : IsField 36 p.to.now
  pub from : IsField 36 p.from.now
  pub subject : IsField 72 p.subject.now
  pub text : Lacks 0 p.text.now

-- a message with a front, and what follows it
pub record PartsRead (bytes : List ℕ) (p : Parts) : Type 0 where
  pub behind : List ℕ
  pub front : FrontTaken bytes p.front.now behind
  pub fields : FieldsRead p.front.now behind p

-- the message of these parts
pub record IsMadeFrom (header : List ℕ) (p : Parts) (m : FtsMessage) : Type 0 where
  pub origin : m.origin ≡ fts_address (u16_at 34 header) (u16_at 6 p.front.now) (u16_at 2 p.front.now)
  pub destination : m.destination ≡ fts_address (u16_at 36 header) (u16_at 8 p.front.now) (u16_at 4 p.front.now)
  pub date : m.date ≡ take 20 (drop 14 p.front.now)
  pub to : m.to ≡ p.to.now
  pub from : m.from ≡ p.from.now
  pub subject : m.subject ≡ p.subject.now
  pub lines : m.lines ≡ text_lines p.text.now

-- the header of a packet, and what follows it
pub record HeaderTaken (bytes header behind : List ℕ) : Type 0 where
  pub whole : bytes ≡ header ++ behind
  pub headed : IsHeader header
