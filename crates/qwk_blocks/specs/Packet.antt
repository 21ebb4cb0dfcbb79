-- MESSAGES.DAT, by Lee's layout: a block of the producer's notice, whose bytes are free, and then the
-- messages, each a header block and the blocks of its text.
use Rattle.std.specs.Prelude.{◌≡◌, ◌⊎◌, ℕ, ◌-◌, ◌*◌, ◌<◌, ◌≤◌, List, [], ◌∷◌, ◌++◌, length, take, drop}
use Rattle.qwk_blocks.specs.Header.{BlockCountReads, HeaderReads}
use Rattle.qwk_blocks.specs.Text.{TextReads}
use Rattle.qwk_blocks.specs.declared.message.QwkMessage.{QwkMessage}
use Rattle.qwk_blocks.specs.declared.fault.QwkFault.{QwkFault}
use Rattle.qwk_blocks.specs.declared.fault.QwkFault.TheVariants.{Truncated, BadBlocks}

-- one message: its header block, and the blocks of its text
pub record MessageReads (bytes : List ℕ) (message : QwkMessage) : Type 0 where
  pub block : List ℕ
  pub text : List ℕ
  pub count : ℕ
  pub whole : bytes ≡ block ++ text
  pub header : HeaderReads block message.header count
  pub size : length text ≡ 128 * (count - 1)
  pub lines : TextReads text message.lines

-- one message after another
abbrev pub MessagesRead : List ℕ → List QwkMessage → Type 0
MessagesRead bytes [] = bytes ≡ []
MessagesRead bytes (message ∷ messages) = (first rest : List ℕ) × (bytes ≡ first ++ rest) × MessageReads first message × MessagesRead rest messages

pub record PacketReads (bytes : List ℕ) (messages : List QwkMessage) : Type 0 where
  pub notice : List ℕ
  pub rest : List ℕ
  pub whole : bytes ≡ notice ++ rest
  pub size : length notice ≡ 128
  pub each : MessagesRead rest messages

-- some messages are read from the first n bytes
abbrev pub PacketAt : List ℕ → ℕ → Type 0
PacketAt bytes n = (n ≤ length bytes) × ((messages : List QwkMessage) × PacketReads (take n bytes) messages)

-- what is wrong where rest, which isn't empty, should begin with a message
abbrev pub StopsWith : ℕ → List ℕ → QwkFault → Type 0
StopsWith place rest (Truncated at) = (at ≡ place) × ((length rest < 128) ⊎ ((count : ℕ) × BlockCountReads rest count))
StopsWith place rest (BadBlocks at) = (at ≡ place) × (128 ≤ length rest) × ((count : ℕ) → ¬ BlockCountReads rest count)

-- The first fault stands at the end of the longest front that is a packet, or at 0 where none is.
abbrev pub FirstFault : List ℕ → QwkFault → Type 0
FirstFault bytes fault =
    (((n : ℕ) → ¬ PacketAt bytes n) × (fault ≡ Truncated 0))
    ⊎ ((end : ℕ) × PacketAt bytes end × ((n : ℕ) → PacketAt bytes n → n ≤ end) × (end < length bytes) × StopsWith end (drop end bytes) fault)
