-- How far a reader has come with one more full block.
use Rattle.std.proofs.Common.{◌≡◌, ℕ, ◌+◌, ◌-◌, ◌*◌, ◌≤◌, List, [], ◌∷◌, ◌++◌, length, take, drop, refl, sym, ◌∙◌, ap, subst, inl, inr, arith, length-append, Some, None}
use Rattle.std.proofs.lemmas.List.{take_all, length-drop}
use Rattle.qwk_blocks.specs.Header.{BlockCountReads}
use Rattle.qwk_blocks.specs.Packet.{MessageReads, PacketReads, PacketAt}
use Rattle.qwk_blocks.specs.Reader.{PacketBefore, Awaits, AwaitsText, IsProgress, FollowsBlock}
use Rattle.qwk_blocks.specs.declared.event.Event.TheVariants as event
use Rattle.qwk_blocks.specs.declared.message.QwkMessage.{QwkMessage}
use Rattle.qwk_blocks.specs.declared.progress.Awaited.TheVariants.{Notice, Header, Text, Nothing}
use Rattle.qwk_blocks.specs.declared.progress.Progress.{Progress}
use Rattle.qwk_blocks.proofs.Exists.{some_message}
use Rattle.qwk_blocks.proofs.First.{goes_on, notice_alone}

-- a message that ends the stream makes the packet longer
whole_message : (front messages count : ℕ) (s : List ℕ) → PacketBefore front messages s → BlockCountReads (drop front s) count → length s ≡ front + 128 * count → PacketBefore (length s) (messages + 1) s
whole_message front messages count s p c len =
    let m : (m : QwkMessage) × MessageReads (drop front s) m = some_message (drop front s) count c (omega (arith, length-drop front s)) in
    let first : MessageReads (take (128 * count) (drop front s)) m.0 = subst (λ (l : List ℕ). MessageReads l m.0) (sym (take_all (128 * count) (drop front s) (omega (arith, length-drop front s)))) m.1 in
    let all : List QwkMessage = p.1.0 ++ m.0 ∷ [] in
    let reads : PacketReads (take (front + 128 * count) s) all = goes_on s front (128 * count) p.1.0 all m.0 p.1.1 first refl in
    (omega arith, (all, subst (λ (n : ℕ). PacketReads (take n s) all) (sym len) reads, omega (arith, length-append p.1.0 (m.0 ∷ []), p.1.2)))

text_on : (old new : Progress) (blocks end count : ℕ) (s : List ℕ) → PacketBefore old.front old.messages s → BlockCountReads (drop old.front s) count → blocks + 1 ≤ count
    → length s ≡ end → length s + 128 * blocks ≡ old.front + 128 * count → AwaitsText old blocks end new → IsProgress new 0 s
text_on old new blocks end count s p c fewer is len (inl (zero, made)) =
    let whole : PacketBefore (length s) (old.messages + 1) s = whole_message old.front old.messages count s p c (omega arith) in
    subst (λ (k : Progress). IsProgress k 0 s) (sym made) (subst (λ (n : ℕ). PacketBefore n (old.messages + 1) s) is whole, omega arith)
text_on old new blocks end count s p c fewer is len (inr (left, more, made)) =
    subst (λ (k : Progress). IsProgress k 0 s) (sym made) (p, (count, c, omega arith, omega arith))

awaits_some : (old new : Progress) (blocks end : ℕ) → AwaitsText old blocks end new → new.awaited ≡ Nothing → ⊥
awaits_some old new blocks end (inl (zero, made)) e = let h : Header ≡ Nothing = sym (ap (λ (k : Progress). k.awaited) made) ∙ e in cc
awaits_some old new blocks end (inr (left, more, made)) e = let h : Text left ≡ Nothing = sym (ap (λ (k : Progress). k.awaited) made) ∙ e in cc

packet_at : (front messages : ℕ) (s : List ℕ) → PacketBefore front messages s → PacketAt s front
packet_at front messages s p = (p.0, (p.1.0, p.1.1))

pub after_notice : (old : Progress) (end : ℕ) (s : List ℕ) → length s ≡ end → Awaits Notice old.front old.messages 128 s
    → FollowsBlock old s (Some (record { front = end; messages = old.messages; awaited = Header }, event.Notice))
after_notice old end s is h =
    let e : 128 ≡ end = omega (arith, h.0) in
    let reads : PacketReads (take end s) [] = subst (λ (n : ℕ). PacketReads (take n s) []) e (notice_alone s [] (omega (arith, h.0)) refl) in
    (((omega arith, ([], reads, sym h.2)), omega arith), (λ e. cc), h.0)

-- the block that ends the stream, where it begins at the front
front_block : (old : Progress) (end : ℕ) (s block : List ℕ) → length s ≡ end → drop (end - 128) s ≡ block → length s ≡ old.front + 128 → drop old.front s ≡ block
front_block old end s block is at len = let e : old.front ≡ end - 128 = omega arith in ap (λ n. drop n s) e ∙ at

pub after_header : (old new : Progress) (blocks end : ℕ) (s block : List ℕ) → length s ≡ end → drop (end - 128) s ≡ block → Awaits Header old.front old.messages 128 s
    → BlockCountReads block blocks → AwaitsText old (blocks - 1) end new → FollowsBlock old s (Some (new, event.Head blocks))
after_header old new blocks end s block is at h c more =
    let c' : BlockCountReads (drop old.front s) blocks = subst (λ (l : List ℕ). BlockCountReads l blocks) (sym (front_block old end s block is at h.1)) c in
    (text_on old new (blocks - 1) end blocks s h.0 c' (omega (arith, c.positive)) is (omega (arith, c.positive, h.1)) more, awaits_some old new (blocks - 1) end more, (packet_at old.front old.messages s h.0, h.1, c'))

pub after_text : (old new : Progress) (left end : ℕ) (s : List ℕ) → length s ≡ end → Awaits (Text left) old.front old.messages 128 s
    → AwaitsText old left end new → FollowsBlock old s (Some (new, event.Text left))
after_text old new left end s is h more =
    let len : length s + 128 * left ≡ old.front + 128 * h.1.0 = omega (arith, h.1.3) in
    (text_on old new left end h.1.0 s h.0 h.1.1 (omega (arith, h.1.2)) is len more, awaits_some old new left end more, (packet_at old.front old.messages s h.0, omega (arith, h.1.2), (h.1.0, h.1.1, len)))

pub after_bad : (old : Progress) (end : ℕ) (s block : List ℕ) → length s ≡ end → drop (end - 128) s ≡ block → Awaits Header old.front old.messages 128 s
    → ((n : ℕ) → BlockCountReads block n → ⊥) → FollowsBlock old s None
after_bad old end s block is at h none =
    (h.0, h.1, refl, λ n c. none n (subst (λ (l : List ℕ). BlockCountReads l n) (front_block old end s block is at h.1) c))
