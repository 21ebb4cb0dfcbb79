-- Bytes read as one reply packet at most, or have one fault, and never both.
use Rattle.std.proofs.Common.{◌≡◌, ℕ, ◌≤◌, List, [], length, take, refl, sym, ap, subst, inl, inr, ⊎_elim, arith, length-append, length-take}
use Rattle.std.proofs.lemmas.List.{append-nil, length-take-le}
use Rattle.text_fields.proofs.Trimming.{trimmed_end_unique}
use Rattle.qwk_blocks.specs.Header.{IsPad, field}
use Rattle.qwk_blocks.specs.Packet.{PacketReads, PacketAt, FirstFault}
use Rattle.qwk_blocks.specs.declared.fault.QwkFault.TheVariants.{Truncated}
use Rattle.qwk_blocks.proofs.Messages.{packet_unique}
use Rattle.qwk_blocks.proofs.OneFault as packet
use Rattle.rep_packet.specs.Rep.{HasBoardId, RepReads, RepFault}
use Rattle.rep_packet.specs.declared.rep.Rep.{Rep}
use Rattle.rep_packet.specs.declared.fault.RepError.{RepError}
use Rattle.rep_packet.specs.declared.fault.RepError.TheVariants.{Fault, NoBoardId, OutOfMemory}

-- a packet has its first block
has_block : (bytes : List ℕ) (n : ℕ) → PacketAt bytes n → 128 ≤ n
has_block bytes n p =
    let reads : PacketReads (take n bytes) p.1.0 = p.1.1 in
    omega (arith, ap length reads.whole, length-append reads.notice reads.rest, reads.size, length-take n bytes)

-- where the first block is there, the bytes aren't truncated at 0
pub not_cut : (bytes : List ℕ) → 128 ≤ length bytes → FirstFault bytes (Truncated 0) → ⊥
not_cut bytes le (inl none) = none.0 128 (le, ([], record { notice = take 128 bytes; rest = []; whole = sym (append-nil (take 128 bytes)); size = length-take-le 128 bytes le; each = refl }))
not_cut bytes le (inr some) = omega (arith, some.4.0, has_block bytes some.0 some.1)

pub board_unique : (bytes a b : List ℕ) → HasBoardId bytes a → HasBoardId bytes b → a ≡ b
board_unique bytes a b x y = trimmed_end_unique IsPad (field 1 8 bytes) a b x.text y.text

pub rep_unique : (bytes : List ℕ) (a b : Rep) → RepReads bytes a → RepReads bytes b → a ≡ b
rep_unique bytes a b x y =
    let bbsid : a.bbsid ≡ b.bbsid = board_unique bytes a.bbsid b.bbsid x.bbsid y.bbsid in
    let messages : a.messages ≡ b.messages = packet_unique bytes a.messages b.messages x.packet y.packet in
    λ i. record { bbsid = bbsid i; messages = messages i }

pub fault_unique : (bytes : List ℕ) (a b : RepError) → RepFault bytes a → RepFault bytes b → a ≡ b
fault_unique bytes (Fault f) (Fault g) x y = ap Fault (packet.fault_unique bytes f g x.0 y.0)
fault_unique bytes (Fault f) NoBoardId x y = absurd (⊎_elim (λ cut. y.0 (subst (FirstFault bytes) cut x.0)) (λ id. y.1 id.0 id.1) x.1)
fault_unique bytes (Fault f) OutOfMemory x y = absurd y
fault_unique bytes NoBoardId (Fault g) x y = absurd (⊎_elim (λ cut. x.0 (subst (FirstFault bytes) cut y.0)) (λ id. x.1 id.0 id.1) y.1)
fault_unique bytes NoBoardId NoBoardId x y = refl
fault_unique bytes NoBoardId OutOfMemory x y = absurd y
fault_unique bytes OutOfMemory b x y = absurd x

pub no_fault : (bytes : List ℕ) (rep : Rep) (fault : RepError) → RepReads bytes rep → RepFault bytes fault → ⊥
no_fault bytes rep (Fault f) reads x = packet.no_fault bytes rep.messages f reads.packet x.0
no_fault bytes rep NoBoardId reads x = x.1 rep.bbsid reads.bbsid
no_fault bytes rep OutOfMemory reads x = x
