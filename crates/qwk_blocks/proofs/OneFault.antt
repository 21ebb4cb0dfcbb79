-- Bytes have one first fault at most, and none where they read as messages.
use Rattle.std.proofs.Common.{◌≡◌, inl, inr, ⊎_elim, ℕ, List, length, drop, sym, ◌∙◌, ap, subst, arith}
use Rattle.std.proofs.Math.Seq.{take-length}
use Rattle.qwk_blocks.specs.Packet.{PacketReads, PacketAt, StopsWith, FirstFault}
use Rattle.qwk_blocks.specs.declared.fault.QwkFault.{QwkFault}
use Rattle.qwk_blocks.specs.declared.fault.QwkFault.TheVariants.{Truncated, BadBlocks}
use Rattle.qwk_blocks.specs.declared.message.QwkMessage.{QwkMessage}

-- what is wrong at a place is one fault
one_stop : (place : ℕ) (rest : List ℕ) (a b : QwkFault) → StopsWith place rest a → StopsWith place rest b → a ≡ b
one_stop place rest (Truncated m) (Truncated n) a b = ap Truncated (a.0 ∙ sym b.0)
one_stop place rest (Truncated m) (BadBlocks n) a b = ⊎_elim (λ short. absurd (omega (arith, short, b.1))) (λ counted. absurd (b.2 counted.0 counted.1)) a.1
one_stop place rest (BadBlocks m) (Truncated n) a b = ⊎_elim (λ short. absurd (omega (arith, short, a.1))) (λ counted. absurd (a.2 counted.0 counted.1)) b.1
one_stop place rest (BadBlocks m) (BadBlocks n) a b = ap BadBlocks (a.0 ∙ sym b.0)

pub fault_unique : (bytes : List ℕ) (a b : QwkFault) → FirstFault bytes a → FirstFault bytes b → a ≡ b
fault_unique bytes a b (inl none) (inl other) = none.1 ∙ sym other.1
fault_unique bytes a b (inl none) (inr some) = absurd (none.0 some.0 some.1)
fault_unique bytes a b (inr some) (inl none) = absurd (none.0 some.0 some.1)
fault_unique bytes a b (inr one) (inr other) = one_stop one.0 (drop one.0 bytes) a b one.4 (subst (λ (end : ℕ). StopsWith end (drop end bytes) b) same other.4)
  where
    same : other.0 ≡ one.0
    same = omega (arith, one.2 other.0 other.1, other.2 one.0 one.1)

-- the whole of the bytes is a front that is a packet
all_of : (bytes : List ℕ) (messages : List QwkMessage) → PacketReads bytes messages → PacketAt bytes (length bytes)
all_of bytes messages reads = (omega arith, (messages, subst (λ (l : List ℕ). PacketReads l messages) (sym (take-length bytes)) reads))

pub no_fault : (bytes : List ℕ) (messages : List QwkMessage) (fault : QwkFault) → PacketReads bytes messages → FirstFault bytes fault → ⊥
no_fault bytes messages fault reads (inl none) = none.0 (length bytes) (all_of bytes messages reads)
no_fault bytes messages fault reads (inr some) = omega (arith, some.2 (length bytes) (all_of bytes messages reads), some.3)
