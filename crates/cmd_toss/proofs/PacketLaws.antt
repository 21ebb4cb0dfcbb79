-- A type 2 packet on the shelf is read as one list of messages at most, or refused in one way; it has few messages.
use Rattle.std.proofs.Common.{◌≡◌, ℕ, ◌≤◌, List, [], ◌∷◌, ◌++◌, length, refl, sym, ap, subst, arith, length-append}
use Rattle.std.specs.Prelude.{Result, Ok, Err}
use Rattle.door_outside.specs.Shelf.{ShelfFiles}
use Rattle.fts_packet.specs.Fault.{FtsFault}
use Rattle.fts_packet.proofs.Once.{fault_once, no_fault, packet_once}
use Rattle.fts_packet.specs.Packet.{FtsReads, PackedMessageReads, PackedMessagesRead}
use Rattle.fts_packet.specs.declared.fault.FtsError.{FtsError}
use Rattle.fts_packet.specs.declared.fault.FtsError.TheVariants.{Fault, OutOfMemory}
use Rattle.fts_packet.specs.declared.fault.FtsRule.{FtsRule}
use Rattle.fts_packet.specs.declared.packet.FtsMessage.{FtsMessage}
use Rattle.shelf_files.proofs.Replies.{read_unique, refused_by}
use Rattle.shelf_files.specs.Halts.{Comes}
use Rattle.shelf_files.specs.ShelfFile.{file_within, file_limit}
use Rattle.shelf_files.specs.declared.halt.Halt.{Halt}
use Rattle.shelf_files.specs.declared.refusal.Refusal.{Refusal}
use Rattle.cmd_toss.specs.PacketFiles.{FtsBreaks, FtsPacketOf, fts_halt, fts_refusal}
use Rattle.cmd_toss.specs.Tossing.{AreRead}

packet_fault_once : (bytes : List ℕ) (e f : FtsError) → FtsBreaks bytes e → FtsBreaks bytes f → e ≡ f
packet_fault_once bytes (Fault q m) (Fault r n) x y = λ i. Fault ((fault_once bytes q r m n x y).0 i) ((fault_once bytes q r m n x y).1 i)
packet_fault_once bytes (Fault q m) OutOfMemory x y = absurd y
packet_fault_once bytes OutOfMemory f x y = absurd x

packet_no_fault : (bytes : List ℕ) (messages : List FtsMessage) (e : FtsError) → FtsReads bytes messages → FtsBreaks bytes e → ⊥
packet_no_fault bytes messages (Fault rule at) x y = no_fault bytes messages rule at x y
packet_no_fault bytes messages OutOfMemory x y = y

pub packet_unique : (shelf : ShelfFiles) (name : List ℕ) (a b : Result (List FtsMessage) Refusal) → FtsPacketOf shelf name a → FtsPacketOf shelf name b → a ≡ b
packet_unique shelf name = read_unique FtsReads FtsBreaks fts_refusal packet_once packet_fault_once packet_no_fault (file_within shelf name file_limit)

-- a packet with a fault is refused, unless there is no memory
pub packet_refused : (shelf : ShelfFiles) (name bytes : List ℕ) (error : FtsError) (halt : Halt) → halt ≡ fts_halt error → Ok bytes ≡ file_within shelf name file_limit → ((rule : FtsRule) (at : ℕ) → error ≡ Fault rule at → FtsFault bytes rule at)
    → Comes {Value = List FtsMessage} (Err halt) (FtsPacketOf shelf name)
packet_refused shelf name bytes (Fault rule at) halt is file faults =
    subst (λ (h : Halt). Comes {Value = List FtsMessage} (Err h) (FtsPacketOf shelf name)) (sym is)
    (refused_by FtsReads FtsBreaks fts_refusal (file_within shelf name file_limit) bytes (Fault rule at) file (faults rule at refl))
packet_refused shelf name bytes OutOfMemory halt is file faults = subst (λ (h : Halt). Comes {Value = List FtsMessage} (Err h) (FtsPacketOf shelf name)) (sym is) tt

-- a message has its front at least
one_message : (header bytes : List ℕ) (m : FtsMessage) → PackedMessageReads header bytes m → 1 ≤ length bytes
one_message header bytes m r = omega (arith, ap (length {A = ℕ}) r.whole, length-append r.front (m.to ++ 0 ∷ (m.from ++ 0 ∷ (m.subject ++ 0 ∷ (r.text ++ 0 ∷ [])))), r.numbers.size)

each_message : (header bytes : List ℕ) (messages : List FtsMessage) → PackedMessagesRead header bytes messages → length messages ≤ length bytes
each_message header bytes [] read = omega arith
each_message header bytes (m ∷ messages) read =
    omega (arith, one_message header read.0 m read.3, each_message header read.1 messages read.4, ap (length {A = ℕ}) read.2, length-append read.0 read.1)

pub few_messages : (messages : List FtsMessage) → AreRead messages → length messages ≤ file_limit
few_messages messages is =
    let r = is.2 in
    omega (arith, is.1, each_message r.header r.body messages r.each, ap (length {A = ℕ}) r.whole, length-append r.header (r.body ++ r.rest), length-append r.body r.rest)
