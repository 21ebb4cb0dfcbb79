-- How long the written form of a message is.
use Rattle.std.proofs.Common.{ℕ, ◌*◌, ◌^◌, ◌<◌, ◌≤◌, List, [], ◌∷◌, length, arith, length-append}
use Rattle.std.specs.List.{All, flat_map}
use Rattle.std.proofs.lemmas.List.Elements.{All-head, All-tail}
use Rattle.text_fields.proofs.Numbers.{number_small}
use Rattle.qwk_blocks.specs.Header.{IsPad}
use Rattle.qwk_blocks.specs.Packet.{MessageReads}
use Rattle.qwk_blocks.specs.Written.{message_text, padded, spelling, Writable}
use Rattle.qwk_blocks.specs.declared.message.QwkMessage.{QwkMessage}
use Rattle.qwk_blocks.proofs.Messages.{length_message}
use Rattle.qwk_blocks.proofs.Written.{length_padded, message_back}

-- a message takes at most 999,999 blocks
pub message_size_le : (m : QwkMessage) → Writable m → length (message_text m) ≤ 128 * 999999
message_size_le m w =
    let x : MessageReads (message_text m) m = message_back m w in
    omega (arith, length_message (message_text m) m x, number_small IsPad 6 _ x.count x.header.blocks.number)

all_size_le : (ms : List QwkMessage) → All Writable ms → length (flat_map message_text ms) ≤ 128 * 999999 * length ms
all_size_le [] w = omega arith
all_size_le (m ∷ ms) w = omega (
  arith,
  length-append (message_text m) (flat_map message_text ms),
  message_size_le m (All-head Writable m ms w),
  all_size_le ms (All-tail Writable m ms w),
)

pub messages_fit : (notice : List ℕ) (ms : List QwkMessage) → length notice ≤ 128 → All Writable ms → length ms ≤ 16 → length (spelling notice ms) < 2 ^ 31
messages_fit notice ms le w few = omega (arith, length-append (padded 128 notice) (flat_map message_text ms), length_padded 128 notice le, all_size_le ms w)
