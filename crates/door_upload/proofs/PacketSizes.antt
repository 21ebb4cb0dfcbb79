-- A reply packet of at most a mebibyte has few messages, and their texts aren't long.
use Rattle.std.proofs.Common.{ℕ, ◌*◌, ◌≤◌, List, [], ◌∷◌, length, ap, arith, length-append}
use Rattle.std.specs.Prelude.{All}
use Rattle.std.proofs.lemmas.List.Elements.{All-weaker}
use Rattle.board_ledger.specs.Limits.{verdict_limit}
use Rattle.netmail_rules.specs.Fits.{HasShortTexts}
use Rattle.qwk_blocks.proofs.Messages.{length_message}
use Rattle.qwk_blocks.specs.Packet.{MessagesRead}
use Rattle.qwk_blocks.specs.Written.{Writable}
use Rattle.qwk_blocks.specs.declared.message.QwkMessage.{QwkMessage}
use Rattle.rep_packet.specs.Rep.{RepReads}
use Rattle.rep_packet.specs.declared.rep.Rep.{Rep}

-- each message has a block at least
blocks_of_all : (bytes : List ℕ) (messages : List QwkMessage) → MessagesRead bytes messages → 128 * length messages ≤ length bytes
blocks_of_all bytes [] none = omega arith
blocks_of_all bytes (m ∷ messages) (first, rest, whole, one, others) =
    let some = one.header.blocks.positive in
    omega (arith, ap length whole, length-append first rest, length_message first m one, some, blocks_of_all rest messages others)

pub few_messages : (bytes : List ℕ) (packet : Rep) → length bytes ≤ 1048576 → RepReads bytes packet → length packet.messages ≤ verdict_limit
few_messages bytes packet short reads =
    let size = reads.packet.size in
    omega (arith, short, ap length reads.packet.whole, length-append reads.packet.notice reads.packet.rest, size, blocks_of_all reads.packet.rest packet.messages reads.packet.each)

short_texts : (m : QwkMessage) → Writable m → HasShortTexts m.header
short_texts m writable =
    let to = writable.header.texts.to.short in
    let subject = writable.header.texts.subject.short in
    record {
      to = omega (arith, to);
      subject = omega (arith, subject);
    }

pub all_short : (messages : List QwkMessage) → All Writable messages → All (λ m. HasShortTexts m.header) messages
all_short messages all = All-weaker Writable (λ (m : QwkMessage). HasShortTexts m.header) short_texts messages all
