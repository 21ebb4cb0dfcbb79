-- A reader of blocks, which takes a file in pieces, and the stream of all bytes that it took. Of the stream it keeps
-- the last block and the bytes behind it.
use Rattle.std.specs.Prelude.{◌≡◌, ◌⊎◌, ℕ, ◌+◌, ◌-◌, ◌*◌, ◌/◌, ◌%◌, ◌<◌, ◌≤◌, List, length, take, drop, replicate, Option, Some, None}
use Rattle.qwk_blocks.specs.Header.{BlockCountReads}
use Rattle.qwk_blocks.specs.Packet.{PacketReads, PacketAt, FirstFault}
use Rattle.qwk_blocks.specs.declared.message.QwkMessage.{QwkMessage}
use Rattle.qwk_blocks.specs.declared.fault.QwkFault.TheVariants.{BadBlocks}
use Rattle.qwk_blocks.specs.declared.event.Event.{Event}
use Rattle.qwk_blocks.specs.declared.event.Event.TheVariants.{Notice, Head, Text}
use Rattle.qwk_blocks.specs.declared.progress.Awaited.{Awaited}
use Rattle.qwk_blocks.specs.declared.progress.Awaited.TheVariants as awaited
use Rattle.qwk_blocks.specs.declared.progress.Progress.{Progress}

-- the bytes read as so many messages
abbrev pub CountsMessages : List ℕ → ℕ → Type 0
CountsMessages bytes n = (messages : List QwkMessage) × PacketReads bytes messages × (length messages ≡ n)

-- the first fault is a count of blocks
abbrev pub HasBadCount : List ℕ → Type 0
HasBadCount bytes = (at : ℕ) × FirstFault bytes (BadBlocks at)

-- the last full block, or zeros before the first one
abbrev pub IsLastBlock : List ℕ → List ℕ → Type 0
IsLastBlock stream block =
    ((length stream < 128) × (block ≡ replicate 128 0))
    ⊎ ((128 ≤ length stream) × (block ≡ take 128 (drop (128 * (length stream / 128 - 1)) stream)))

-- what is taken of a piece: the rest of the block at hand, or the whole piece where it is less
abbrev pub next_bytes : List ℕ → List ℕ → List ℕ
next_bytes stream piece = take (128 - length stream % 128) piece

-- these bytes behind the stream make a block full
abbrev pub FillsBlock : List ℕ → List ℕ → Type 0
FillsBlock stream bytes = (1 ≤ length bytes) × ((length stream + length bytes) % 128 ≡ 0)

-- What the last block of a stream is, which is full. The message at hand begins at the front: the bytes before it are a
-- packet, and its count is that of its header.
abbrev pub IsEvent : ℕ → List ℕ → Event → Type 0
IsEvent front stream Notice = length stream ≡ 128
IsEvent front stream (Head blocks) = PacketAt stream front × (length stream ≡ front + 128) × BlockCountReads (drop front stream) blocks
IsEvent front stream (Text left) =
    PacketAt stream front × (front + 128 < length stream) × ((count : ℕ) × BlockCountReads (drop front stream) count × (length stream + 128 * left ≡ front + 128 * count))

abbrev pub EndsMessage : Event → Type 0
EndsMessage Notice = ⊥
EndsMessage (Head blocks) = blocks ≡ 1
EndsMessage (Text left) = left ≡ 0

-- Where the message at hand begins, and how many are whole: the event that ends a message ends it at a place.
abbrev pub MovesFront : Progress → ℕ → Option Event → Progress → Type 0
MovesFront old end None new = new ≡ old
MovesFront old end (Some Notice) new = (new.front ≡ end) × (new.messages ≡ old.messages)
MovesFront old end (Some (Head blocks)) new =
    (EndsMessage (Head blocks) × (new.front ≡ end) × (new.messages ≡ old.messages + 1))
    ⊎ ((¬ EndsMessage (Head blocks)) × (new.front ≡ old.front) × (new.messages ≡ old.messages))
MovesFront old end (Some (Text left)) new =
    (EndsMessage (Text left) × (new.front ≡ end) × (new.messages ≡ old.messages + 1))
    ⊎ ((¬ EndsMessage (Text left)) × (new.front ≡ old.front) × (new.messages ≡ old.messages))

-- the bytes before the front are a packet of so many messages
abbrev pub PacketBefore : ℕ → ℕ → List ℕ → Type 0
PacketBefore front messages stream = (front ≤ length stream) × CountsMessages (take front stream) messages

-- What the stream has behind the front, where the last of its bytes, so many, are of the block that is awaited.
abbrev pub Awaits : Awaited → ℕ → ℕ → ℕ → List ℕ → Type 0
Awaits awaited.Notice front messages gathered stream = (length stream ≡ gathered) × (front ≡ 0) × (messages ≡ 0)
Awaits awaited.Header front messages gathered stream = PacketBefore front messages stream × (length stream ≡ front + gathered)
Awaits (awaited.Text left) front messages gathered stream =
    PacketBefore front messages stream
    × ((count : ℕ) × BlockCountReads (drop front stream) count × (left + 2 ≤ count) × (length stream + 128 * (left + 1) ≡ front + 128 * count + gathered))
Awaits awaited.Nothing front messages gathered stream =
    PacketBefore front messages stream × (length stream ≡ front + 128) × (gathered ≡ 0) × ((count : ℕ) → ¬ BlockCountReads (drop front stream) count)

abbrev pub IsProgress : Progress → ℕ → List ℕ → Type 0
IsProgress progress gathered stream = Awaits progress.awaited progress.front progress.messages gathered stream

-- what is awaited behind a block that ends at a place, where so many text blocks of its message are to come
abbrev pub AwaitsText : Progress → ℕ → ℕ → Progress → Type 0
AwaitsText old blocks end new =
    ((blocks ≡ 0) × (new ≡ record { front = end; messages = old.messages + 1; awaited = awaited.Header }))
    ⊎ ((left : ℕ) × (blocks ≡ left + 1) × (new ≡ record old { awaited = awaited.Text left }))

-- what one more full block gives, which ends the stream: the progress and its event, or none where its count is faulty
abbrev pub FollowsBlock : Progress → List ℕ → Option (Progress × Event) → Type 0
FollowsBlock old stream None = IsProgress (record old { awaited = awaited.Nothing }) 0 stream
FollowsBlock old stream (Some next) = IsProgress next.0 0 stream × (¬ (next.0.awaited ≡ awaited.Nothing)) × IsEvent old.front stream next.1

-- what contracts see of a reader
pub record ReaderState : Type 0 where
  pub block : List ℕ  -- the last full one
  pub part : List ℕ  -- the bytes behind it
  pub taken : ℕ  -- how many bytes were taken
  pub progress : Progress

-- the reader holds the stream
pub record HoldsStream (reader : ReaderState) (stream : List ℕ) : Type 0 where
  pub blocks : ℕ
  pub taken : reader.taken ≡ length stream
  pub size : length stream ≡ 128 * blocks + length reader.part
  pub short : length reader.part < 128
  pub part : reader.part ≡ drop (128 * blocks) stream
  pub block : IsLastBlock stream reader.block
  pub progress : IsProgress reader.progress (length reader.part) stream
