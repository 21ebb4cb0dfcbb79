-- Any bytes read as the messages of a packet, or have a first fault; and so do those of a reply packet.
use Rattle.std.proofs.Common.{◌≡◌, ◌⊎◌, inl, inr, ℕ, zero, suc, ◌+◌, ◌-◌, ◌*◌, ◌<◌, ◌≤◌, List, [], ◌∷◌, ◌++◌, length, take, drop, refl, ap, subst, arith, length-append, length-take}
use Rattle.std.proofs.lemmas.Bool.{cases_lt}
use Rattle.std.proofs.lemmas.List.{length-drop, length-take-le, take_all}
use Rattle.qwk_blocks.proofs.Exists.{pad_or_not, some_message}
use Rattle.qwk_blocks.proofs.First.{count_of_front, goes_on, no_count, notice_alone, past_end, too_short}
use Rattle.qwk_blocks.proofs.Messages.{longest}
use Rattle.qwk_blocks.specs.Header.{BlockCountReads, IsPad, field}
use Rattle.qwk_blocks.specs.Packet.{FirstFault, MessageReads, PacketAt, PacketReads, StopsWith}
use Rattle.qwk_blocks.specs.declared.fault.QwkFault.{QwkFault}
use Rattle.qwk_blocks.specs.declared.fault.QwkFault.TheVariants.{Truncated, BadBlocks}
use Rattle.qwk_blocks.specs.declared.message.QwkMessage.{QwkMessage}
use Rattle.text_fields.proofs.Fields.{number_or_none, some_trimmed_end}
use Rattle.rep_packet.proofs.Once.{not_cut}
use Rattle.text_fields.proofs.Numbers.{number_unique}
use Rattle.text_fields.proofs.Trimming.{trimmed_end_unique}
use Rattle.text_fields.specs.Number.{Number}
use Rattle.text_fields.specs.Trim.{TrimmedEnd}
use Rattle.rep_packet.specs.Rep.{HasBoardId, RepReads, RepFault}
use Rattle.rep_packet.specs.declared.fault.RepError.{RepError}
use Rattle.rep_packet.specs.declared.fault.RepError.TheVariants.{Fault, NoBoardId}
use Rattle.rep_packet.specs.declared.rep.Rep.{Rep}

-- ---- packets
abbrev IsPacket : List ℕ → Type 0
IsPacket bytes = ((messages : List QwkMessage) × PacketReads bytes messages) ⊎ ((fault : QwkFault) × FirstFault bytes fault)

count_or_none : (rest : List ℕ) → ((count : ℕ) × BlockCountReads rest count) ⊎ ((count : ℕ) → BlockCountReads rest count → ⊥)
count_or_none rest = elim (number_or_none IsPad pad_or_not 6 (field 117 6 rest)) [
  | inl v ↦ elim (cases_lt 0 v.0) [
    | inl some ↦ inl (v.0, record { number = v.1; positive = omega (arith, some) })
    | inr none ↦ inr (λ count c. one_count v.0 count v.1 none c)
  ]
  | inr none ↦ inr (λ count c. none count c.number)
]
  where
    one_count : (n count : ℕ) → Number IsPad 6 (field 117 6 rest) n → n ≤ 0 → BlockCountReads rest count → ⊥
    one_count n count x none c = omega (arith, number_unique IsPad 6 6 (field 117 6 rest) n count x c.number, c.positive, none)

module _ (bytes : List ℕ) where
  -- no message begins behind a front that is a packet
  stops : (at : ℕ) (messages : List QwkMessage) (fault : QwkFault) → at < length bytes → PacketReads (take at bytes) messages
      → ((n : ℕ) (m : QwkMessage) → n ≤ length (drop at bytes) → MessageReads (take n (drop at bytes)) m → ⊥) → StopsWith at (drop at bytes) fault → IsPacket bytes
  stops at messages fault below reads none stop =
      let within : at ≤ length bytes = omega (arith, below) in
      inr (fault, inr (at, (within, (messages, reads)), longest bytes at messages within reads none, below, stop))

  -- what is said of each front that is a packet, where so many bytes are left at most
  abbrev Walks : ℕ → Type 0
  Walks left = (at : ℕ) (messages : List QwkMessage) → at ≤ length bytes → length bytes - at ≤ left → PacketReads (take at bytes) messages → IsPacket bytes

  message_at : (left at : ℕ) (messages : List QwkMessage) → Walks left → at < length bytes → length bytes - at ≤ suc left → PacketReads (take at bytes) messages
      → (count : ℕ) → BlockCountReads (drop at bytes) count → IsPacket bytes
  message_at left at messages on below few reads count counts = elim (cases_lt (length (drop at bytes)) (128 * count)) [
    | inl short ↦ stops at messages (Truncated at) below reads (past_end (drop at bytes) count counts short) (refl, inr (count, counts))
    | inr long ↦
        let size : ℕ = 128 * count in
        let front : List ℕ = take size (drop at bytes) in
        let big : 128 ≤ size = omega (arith, counts.positive) in
        let one : (m : QwkMessage) × MessageReads front m = some_message front count (count_of_front size (drop at bytes) count big counts) (length-take-le size (drop at bytes) long) in
        let whole : PacketReads (take (at + size) bytes) (messages ++ one.0 ∷ []) = goes_on bytes at size messages (messages ++ one.0 ∷ []) one.0 reads one.1 refl in
        on (at + size) (messages ++ one.0 ∷ []) (omega (arith, long, length-drop at bytes, below)) (omega (arith, few, big, below)) whole
  ]

  begins_or_stops : (left at : ℕ) (messages : List QwkMessage) → Walks left → at < length bytes → length bytes - at ≤ suc left → PacketReads (take at bytes) messages → IsPacket bytes
  begins_or_stops left at messages on below few reads = elim (cases_lt (length (drop at bytes)) 128) [
    | inl short ↦ stops at messages (Truncated at) below reads (too_short (drop at bytes) short) (refl, inl short)
    | inr long ↦ elim (count_or_none (drop at bytes)) [
      | inl counts ↦ message_at left at messages on below few reads counts.0 counts.1
      | inr none ↦ stops at messages (BadBlocks at) below reads (no_count (drop at bytes) none) (refl, long, none)
    ]
  ]

  all_read : (at : ℕ) (messages : List QwkMessage) → length bytes ≤ at → PacketReads (take at bytes) messages → IsPacket bytes
  all_read at messages past reads = inl (messages, subst (λ (front : List ℕ). PacketReads front messages) (take_all at bytes past) reads)

  walks : (left : ℕ) → Walks left
  walks zero at messages within few reads = all_read at messages (omega (arith, few)) reads
  walks (suc left) at messages within few reads = elim (cases_lt at (length bytes)) [
    | inl below ↦ begins_or_stops left at messages (walks left) below few reads
    | inr past ↦ all_read at messages past reads
  ]

  no_notice : length bytes < 128 → (n : ℕ) → PacketAt bytes n → ⊥
  no_notice short n at =
      let reads : PacketReads (take n bytes) at.1.0 = at.1.1 in
      omega (arith, short, at.0, ap length reads.whole, length-append reads.notice reads.rest, reads.size, length-take n bytes)

pub packet_or_fault : (bytes : List ℕ) → IsPacket bytes
packet_or_fault bytes = elim (cases_lt (length bytes) 128) [
  | inl short ↦ inr (Truncated 0, inl (no_notice bytes short, refl))
  | inr long ↦ walks bytes (length bytes) 128 [] long (omega arith) (notice_alone bytes [] long refl)
]

-- ---- reply packets
abbrev IsRep : List ℕ → Type 0
IsRep bytes = ((rep : Rep) × RepReads bytes rep) ⊎ ((fault : RepError) × RepFault bytes fault)

id_or_none : (bytes : List ℕ) → ((bbsid : List ℕ) × HasBoardId bytes bbsid) ⊎ ((bbsid : List ℕ) → HasBoardId bytes bbsid → ⊥)
id_or_none bytes =
    let t : (text : List ℕ) × TrimmedEnd IsPad (field 1 8 bytes) text = some_trimmed_end IsPad pad_or_not (field 1 8 bytes) in
    elim (cases_lt 0 (length t.0)) [
      | inl some ↦ inl (t.0, record { text = t.1; some = omega (arith, some) })
      | inr none ↦ inr (λ bbsid x.
          let same : bbsid ≡ t.0 = trimmed_end_unique IsPad (field 1 8 bytes) bbsid t.0 x.text t.1 in
          omega (arith, ap length same, x.some, none))
    ]

-- what is wrong with the blocks, and then with the id
rep_fault : (bytes : List ℕ) (fault : QwkFault) → FirstFault bytes fault → 128 ≤ length bytes → IsRep bytes
rep_fault bytes fault first long = elim (id_or_none bytes) [
  | inl id ↦ inr (Fault fault, (first, inr id))
  | inr none ↦ inr (NoBoardId, (not_cut bytes long, none))
]

rep_packet : (bytes : List ℕ) → 128 ≤ length bytes → IsPacket bytes → IsRep bytes
rep_packet bytes long (inr first) = rep_fault bytes first.0 first.1 long
rep_packet bytes long (inl packet) = elim (id_or_none bytes) [
  | inl id ↦ inl (record { bbsid = id.0; messages = packet.0 }, record { packet = packet.1; bbsid = id.1 })
  | inr none ↦ inr (NoBoardId, (not_cut bytes long, none))
]

pub rep_or_fault : (bytes : List ℕ) → IsRep bytes
rep_or_fault bytes = elim (cases_lt (length bytes) 128) [
  | inl short ↦ inr (Fault (Truncated 0), (inl (no_notice bytes short, refl), inl refl))
  | inr long ↦ rep_packet bytes long (packet_or_fault bytes)
]
