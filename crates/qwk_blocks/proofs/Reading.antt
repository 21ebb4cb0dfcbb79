-- The messages that are read from blocks, and how a loop over a file goes on.
use Rattle.std.proofs.Common.{◌≡◌, ⊎_elim, ℕ, ◌+◌, ◌-◌, ◌*◌, ◌%◌, ◌<◌, ◌≤◌, List, [], ◌∷◌, ◌++◌, length, take, drop, Result, Ok, Err, sym, ◌∙◌, ap, subst, inl, inr, arith, length-append, length-take}
use Rattle.std.proofs.Math.Seq.{take-add}
use Rattle.std.proofs.lemmas.Bool.{cases_lt}
use Rattle.std.proofs.lemmas.List.{append_assoc, take-append-drop, take_all, take-take, take-append-le, drop-append-le, length-drop}
use Rattle.qwk_blocks.specs.Header.{BlockCountReads}
use Rattle.qwk_blocks.specs.Packet.{MessageReads, PacketReads, FirstFault}
use Rattle.qwk_blocks.specs.Answer.{HasRead}
use Rattle.qwk_blocks.specs.Reader.{CountsMessages, EndsMessage, IsEvent, Awaits, ReaderState, HoldsStream, next_bytes}
use Rattle.qwk_blocks.specs.declared.event.Event.{Event}
use Rattle.qwk_blocks.specs.declared.event.Event.TheVariants as event
use Rattle.qwk_blocks.specs.declared.event.Fed.{Fed}
use Rattle.qwk_blocks.specs.declared.fault.BlocksFault.{BlocksFault}
use Rattle.qwk_blocks.specs.declared.fault.QwkFault.TheVariants.{Truncated, BadBlocks}
use Rattle.qwk_blocks.specs.declared.message.QwkMessage.{QwkMessage}
use Rattle.qwk_blocks.specs.declared.progress.Awaited.{Awaited}
use Rattle.qwk_blocks.specs.declared.progress.Awaited.TheVariants.{Notice, Header, Text, Nothing}
use Rattle.qwk_blocks.proofs.First.{count_of_front, count_of_whole, goes_on, no_count, notice_alone}
use Rattle.qwk_blocks.proofs.Messages.{longest}
use Rattle.qwk_blocks.proofs.OneFault.{no_fault}
use Rattle.qwk_blocks.proofs.Stream.{header_cut, notice_cut, text_cut, bad_count}

-- no packet is shorter than its notice
packet_long : (s : List ℕ) (ms : List QwkMessage) → PacketReads s ms → 128 ≤ length s
packet_long s ms p = omega (arith, ap length p.whole, length-append p.notice p.rest, p.size)

-- a message that ends has the length that its count says
pub ended_size : (front : ℕ) (s : List ℕ) (e : Event) → IsEvent front s e → EndsMessage e → (count : ℕ) × BlockCountReads (drop front s) count × (length s ≡ front + 128 * count)
ended_size front s event.Notice h ends = absurd ends
ended_size front s (event.Head blocks) h ends = (blocks, h.2, omega (arith, h.1))
ended_size front s (event.Text left) h ends = (h.2.0, h.2.1, omega (arith, h.2.2))

event_front : (front : ℕ) (s : List ℕ) (e : Event) → IsEvent front s e → EndsMessage e → 128 ≤ front
event_front front s event.Notice h ends = absurd ends
event_front front s (event.Head blocks) h ends = omega (arith, packet_long (take front s) h.0.1.0 h.0.1.1, length-take front s)
event_front front s (event.Text left) h ends = omega (arith, packet_long (take front s) h.0.1.0 h.0.1.1, length-take front s)

-- the message that ends with the stream
pub reads_ended : (front : ℕ) (s : List ℕ) (e : Event) (ms new : List QwkMessage) (m : QwkMessage) → IsEvent front s e → EndsMessage e
    → ((count : ℕ) → BlockCountReads (drop front s) count → length (drop front s) ≡ 128 * count → MessageReads (drop front s) m) → new ≡ ms ++ m ∷ [] → HasRead front s ms → HasRead (length s) s new
reads_ended front s e ms new m h ends reads made (inl (zero, none)) = absurd (omega (arith, event_front front s e h ends))
reads_ended front s e ms new m h ends reads made (inr packet) =
    let c : (count : ℕ) × BlockCountReads (drop front s) count × (length s ≡ front + 128 * count) = ended_size front s e h ends in
    let message : MessageReads (drop front s) m = reads c.0 c.1 (omega (arith, c.2, length-drop front s)) in
    let first : MessageReads (take (128 * c.0) (drop front s)) m = subst (λ (l : List ℕ). MessageReads l m) (sym (take_all (128 * c.0) (drop front s) (omega (arith, c.2, length-drop front s)))) message in
    inr (subst (λ (n : ℕ). PacketReads (take n s) new) (sym c.2) (goes_on s front (128 * c.0) ms new m packet first made))

pub reads_notice : (front : ℕ) (s : List ℕ) (ms : List QwkMessage) → length s ≡ 128 → HasRead front s ms → HasRead (length s) s ms
reads_notice front s ms len (inl (zero, none)) = inr (subst (λ (n : ℕ). PacketReads (take n s) ms) (sym len) (notice_alone s ms (omega arith) none))
reads_notice front s ms len (inr packet) =
    let far : length s ≤ front = omega (arith, packet_long (take front s) ms packet, length-take front s) in
    inr (subst (λ (l : List ℕ). PacketReads l ms) (take_all front s far ∙ sym (take_all (length s) s (omega arith))) packet)

-- a bad count stays one, whatever follows
count_less : (xs ys : List ℕ) (count : ℕ) → 128 ≤ length xs → BlockCountReads (xs ++ ys) count → BlockCountReads xs count
count_less xs ys count big c =
    count_of_whole 128 xs count (omega arith) (subst (λ (l : List ℕ). BlockCountReads l count) (take-append-le 128 xs ys big) (count_of_front 128 (xs ++ ys) count (omega arith) c))

pub fault_stays : (s t : List ℕ) (at : ℕ) → FirstFault s (BadBlocks at) → FirstFault (s ++ t) (BadBlocks at)
fault_stays s t at (inl (none, e)) = cc
fault_stays s t at (inr (end, packet, most, lt, stop)) =
    let here : drop end (s ++ t) ≡ drop end s ++ t = drop-append-le end s t packet.0 in
    let none : (n : ℕ) → BlockCountReads (drop end (s ++ t)) n → ⊥ = λ n c. stop.2 n (count_less (drop end s) t n stop.1 (subst (λ (l : List ℕ). BlockCountReads l n) here c)) in
    let reads : PacketReads (take end (s ++ t)) packet.1.0 = subst (λ (l : List ℕ). PacketReads l packet.1.0) (sym (take-append-le end s t packet.0)) packet.1.1 in
    let within : end ≤ length (s ++ t) = omega (arith, packet.0, length-append s t) in
    inr (
      end,
      (within, (packet.1.0, reads)),
      longest (s ++ t) end packet.1.0 within reads (no_count (drop end (s ++ t)) none),
      omega (arith, length-append s t),
      (stop.0, omega (arith, stop.1, length-drop end s, length-drop end (s ++ t), length-append s t), none),
    )

-- where the bytes are messages, the front is their end
front_is_end : (a : Awaited) (front messages g : ℕ) (s : List ℕ) (ms : List QwkMessage) → g < 128 → Awaits a front messages g s → PacketReads s ms → front ≡ length s
front_is_end Notice front messages g s ms short h reads = absurd (no_fault s ms (Truncated front) reads (notice_cut front messages g s short h))
front_is_end Header front messages g s ms short h reads = elim (cases_lt front (length s)) [
  | inl lt ↦ absurd (no_fault s ms (Truncated front) reads (header_cut front messages g s short h lt))
  | inr ge ↦ omega (arith, h.0.0)
]
front_is_end (Text left) front messages g s ms short h reads = absurd (no_fault s ms (Truncated front) reads (text_cut front messages g left s short h))
front_is_end Nothing front messages g s ms short h reads = absurd (no_fault s ms (BadBlocks front) reads (bad_count front messages g s h))

-- where the end counts messages, those that were read are all
pub all_read : (r : ReaderState) (s : List ℕ) (n start : ℕ) (ms : List QwkMessage) → HoldsStream r s → start ≡ r.progress.front → CountsMessages s n → HasRead start s ms → PacketReads s ms
all_read r s n start ms h here counts read =
    let e : r.progress.front ≡ length s = front_is_end r.progress.awaited r.progress.front r.progress.messages (length r.part) s counts.0 h.short h.progress counts.1 in
    ⊎_elim (λ none. absurd (omega (arith, none.0, packet_long s counts.0 counts.1)))
    (λ packet. subst (λ (l : List ℕ). PacketReads l ms) (take_all start s (omega arith)) packet) read

-- the front lies in the stream
awaits_front : (a : Awaited) (front messages g : ℕ) (s : List ℕ) → Awaits a front messages g s → front ≤ length s
awaits_front Notice front messages g s h = omega (arith, h.1)
awaits_front Header front messages g s h = h.0.0
awaits_front (Text left) front messages g s h = h.0.0
awaits_front Nothing front messages g s h = h.0.0

pub holds_front : (r : ReaderState) (s : List ℕ) → HoldsStream r s → r.progress.front ≤ length s
holds_front r s h = awaits_front r.progress.awaited r.progress.front r.progress.messages (length r.part) s h.progress

-- more of the file
pub has_read_more : (front at more : ℕ) (bytes : List ℕ) (ms : List QwkMessage) → front ≤ at → at ≤ more → HasRead front (take at bytes) ms → HasRead front (take more bytes) ms
has_read_more front at more bytes ms le further (inl none) = inl none
has_read_more front at more bytes ms le further (inr packet) =
    inr (subst (λ (l : List ℕ). PacketReads l ms) (take-take front at bytes le ∙ sym (take-take front more bytes (omega arith))) packet)

-- some of what is left is taken
pub some_used : (s rest : List ℕ) (used : ℕ) → 0 < length rest → used ≡ length (next_bytes s rest) → 1 ≤ used
some_used s rest used some is = omega (arith, length-take (128 - length s % 128) rest)

-- what is taken of the rest of a file
pub next_is : (at used : ℕ) (bytes : List ℕ) → used ≡ length (next_bytes (take at bytes) (drop at bytes)) → take at bytes ++ next_bytes (take at bytes) (drop at bytes) ≡ take (at + used) bytes
next_is at used bytes is =
    let n : ℕ = 128 - length (take at bytes) % 128 in
    let e : take n (drop at bytes) ≡ take used (drop at bytes) = elim (cases_lt n (length (drop at bytes))) [
      | inl lt ↦ (let same : n ≡ used = omega (arith, length-take n (drop at bytes)) in ap (λ k. take k (drop at bytes)) same)
      | inr ge ↦ take_all n (drop at bytes) ge ∙ sym (take_all used (drop at bytes) (omega (arith, length-take n (drop at bytes))))
    ] in
    ap (λ l. take at bytes ++ l) e ∙ sym (take-add at used bytes)

-- a bad count in a front of the file is that of the file
pub fault_in_front : (at : ℕ) (bytes : List ℕ) (place : ℕ) → FirstFault (take at bytes ++ next_bytes (take at bytes) (drop at bytes)) (BadBlocks place) → FirstFault bytes (BadBlocks place)
fault_in_front at bytes place f =
    let n : ℕ = 128 - length (take at bytes) % 128 in
    let whole : (take at bytes ++ take n (drop at bytes)) ++ drop n (drop at bytes) ≡ bytes = append_assoc (take at bytes) (take n (drop at bytes)) (drop n (drop at bytes)) ∙ (ap (λ l. take at bytes ++ l) (take-append-drop n (drop at bytes)) ∙ take-append-drop at bytes) in
    subst (λ (l : List ℕ). FirstFault l (BadBlocks place)) whole (fault_stays _ (drop n (drop at bytes)) place f)

-- an answer is no fault
pub ok_no_fault : (fed : Fed) (at : ℕ) → ◌≡◌ {A = Result Fed BlocksFault} (Ok fed) (Err record { at = at }) → ⊥
ok_no_fault fed at e = cc
