-- What a stream is, by how far its reader has come: messages and nothing else, or its first fault.
use Rattle.std.proofs.Common.{◌≡◌, Result, Ok, Err, ◌∙◌, ℕ, ◌<◌, ◌≤◌, List, length, take, drop, refl, sym, subst, inl, inr, arith, ap, length-append, length-take}
use Rattle.std.proofs.lemmas.List.{take_all, length-drop}
use Rattle.qwk_blocks.specs.Packet.{MessageReads, PacketReads, PacketAt, StopsWith, FirstFault}
use Rattle.qwk_blocks.specs.Reader.{CountsMessages, PacketBefore, Awaits, IsProgress}
use Rattle.qwk_blocks.specs.declared.fault.QwkFault.{QwkFault}
use Rattle.qwk_blocks.specs.declared.fault.QwkFault.TheVariants.{Truncated, BadBlocks}
use Rattle.qwk_blocks.specs.declared.message.QwkMessage.{QwkMessage}
use Rattle.qwk_blocks.specs.declared.progress.Awaited.{Awaited}
use Rattle.qwk_blocks.specs.declared.progress.Awaited.TheVariants.{Notice, Header, Text, Nothing}
use Rattle.qwk_blocks.specs.declared.progress.Progress.{Progress}
use Rattle.qwk_blocks.proofs.First.{too_short, no_count, past_end}
use Rattle.std.specs.Result.{MatchResult}
use Rattle.qwk_blocks.proofs.OneFault.{fault_unique, no_fault}
use Rattle.qwk_blocks.proofs.Messages.{longest, packet_unique}

-- what is awaited, where that is known
pub awaits_known : (p : Progress) (a : Awaited) (g : ℕ) (s : List ℕ) → p.awaited ≡ a → IsProgress p g s → Awaits a p.front p.messages g s
awaits_known p a g s is h = subst (λ (k : Awaited). Awaits k p.front p.messages g s) is h

no_notice : (s : List ℕ) → length s < 128 → (n : ℕ) → PacketAt s n → ⊥
no_notice s short n (le, (ms, reads)) = omega (arith, ap length reads.whole, length-append reads.notice reads.rest, reads.size, length-take n s)

-- a fault at the front, where no message begins
stops : (s : List ℕ) (front messages : ℕ) (fault : QwkFault) → PacketBefore front messages s → front < length s
    → ((n : ℕ) (m : QwkMessage) → n ≤ length (drop front s) → MessageReads (take n (drop front s)) m → ⊥) → StopsWith front (drop front s) fault → FirstFault s fault
stops s front messages fault p lt none stop = inr (front, (p.0, (p.1.0, p.1.1)), longest s front p.1.0 p.0 p.1.1 none, lt, stop)

pub header_whole : (front messages g : ℕ) (s : List ℕ) → Awaits Header front messages g s → length s ≤ front → CountsMessages s messages
header_whole front messages g s h whole = (h.0.1.0, subst (λ (l : List ℕ). PacketReads l h.0.1.0) (take_all front s (omega arith)) h.0.1.1, h.0.1.2)

pub header_cut : (front messages g : ℕ) (s : List ℕ) → g < 128 → Awaits Header front messages g s → front < length s → FirstFault s (Truncated front)
header_cut front messages g s short h more =
    let lt : length (drop front s) < 128 = omega (arith, h.1, length-drop front s) in
    stops s front messages (Truncated front) h.0 more (too_short (drop front s) lt) (refl, inl lt)

pub notice_cut : (front messages g : ℕ) (s : List ℕ) → g < 128 → Awaits Notice front messages g s → FirstFault s (Truncated front)
notice_cut front messages g s short h = inl (no_notice s (omega (arith, h.0)), ap Truncated h.1)

pub text_cut : (front messages g left : ℕ) (s : List ℕ) → g < 128 → Awaits (Text left) front messages g s → FirstFault s (Truncated front)
text_cut front messages g left s short h =
    stops s front messages (Truncated front) h.0 (omega (arith, h.1.2, h.1.3))
    (past_end (drop front s) h.1.0 h.1.1 (omega (arith, h.1.3, length-drop front s)))
    (refl, inr (h.1.0, h.1.1))

pub bad_count : (front messages g : ℕ) (s : List ℕ) → Awaits Nothing front messages g s → FirstFault s (BadBlocks front)
bad_count front messages g s h = stops s front messages (BadBlocks front) h.0 (omega (arith, h.1)) (no_count (drop front s) h.3) (refl, omega (arith, h.1, length-drop front s), h.3)

-- what an end answers is exact, since there is one value or one fault
pub exact_count : (s : List ℕ) (r : Result ℕ QwkFault) (n : ℕ) → MatchResult r (CountsMessages s) (FirstFault s) → (r ≡ Ok n → CountsMessages s n) × (CountsMessages s n → r ≡ Ok n)
exact_count s (Ok m) n h = ((λ e. let is : m ≡ n = cc in subst (CountsMessages s) is h), λ x. ap Ok (sym h.2 ∙ (ap length (packet_unique s h.0 x.0 h.1 x.1) ∙ x.2)))
exact_count s (Err f) n h = ((λ e. cc), λ x. absurd (no_fault s x.0 f x.1 h))

pub exact_fault : (s : List ℕ) (r : Result ℕ QwkFault) (f : QwkFault) → MatchResult r (CountsMessages s) (FirstFault s) → (r ≡ Err f → FirstFault s f) × (FirstFault s f → r ≡ Err f)
exact_fault s (Ok m) f h = ((λ e. cc), λ x. absurd (no_fault s h.0 f h.1 x))
exact_fault s (Err g) f h = ((λ e. let is : g ≡ f = cc in subst (FirstFault s) is h), λ x. ap Err (fault_unique s g f h x))
