-- What a reader holds after a feed, and what the feed answers.
use Rattle.std.proofs.Common.{◌≡◌, ℕ, ◌+◌, ◌-◌, ◌*◌, ◌/◌, ◌%◌, ◌<◌, ◌≤◌, min, List, [], ◌++◌, length, take, drop, refl, sym, ◌∙◌, ap, subst, Bool, true, false, IsTrue, Result, Ok, Err, inl, inr, arith, length-append}
use borrow.Rule.Slice.PartMut.{put_mid}
use Rattle.std.proofs.lemmas.Bool.{cases_lt}
use Rattle.std.proofs.lemmas.Slice.{take-put_mid}
use Rattle.std.proofs.lemmas.List.{take_all, drop_all, take-append-le, drop-append-le, length-drop, length-take-le, append-nil, drop-drop}
use Rattle.qwk_blocks.specs.Header.{BlockCountReads}
use Rattle.qwk_blocks.specs.Packet.{FirstFault}
use Rattle.qwk_blocks.specs.Reader.{CountsMessages, IsLastBlock, PacketBefore, Awaits, IsProgress, ReaderState, HoldsStream, next_bytes}
use Rattle.qwk_blocks.specs.declared.event.Fed.{Fed}
use Rattle.qwk_blocks.specs.declared.fault.BlocksFault.{BlocksFault}
use Rattle.qwk_blocks.specs.declared.fault.QwkFault.TheVariants.{Truncated, BadBlocks}
use Rattle.qwk_blocks.specs.declared.progress.Awaited.{Awaited}
use Rattle.qwk_blocks.specs.declared.progress.Awaited.TheVariants.{Notice, Header, Text, Nothing}
use Rattle.qwk_blocks.specs.declared.progress.Progress.{Progress}
use Rattle.qwk_blocks.proofs.First.{count_of_front, count_of_whole}
use Rattle.qwk_blocks.proofs.OneFault.{fault_unique, no_fault}
use Rattle.qwk_blocks.proofs.Stream.{awaits_known, header_whole, header_cut, notice_cut, text_cut, bad_count}

-- a count stands in the first block, whatever follows
count_more : (xs ys : List ℕ) (count : ℕ) → 128 ≤ length xs → BlockCountReads xs count → BlockCountReads (xs ++ ys) count
count_more xs ys count big c =
    count_of_whole 128 (xs ++ ys) count (omega arith) (subst (λ (l : List ℕ). BlockCountReads l count) (sym (take-append-le 128 xs ys big)) (count_of_front 128 xs count (omega arith) c))

packet_more : (front messages : ℕ) (s t : List ℕ) → PacketBefore front messages s → PacketBefore front messages (s ++ t)
packet_more front messages s t p =
    (omega (arith, p.0, length-append s t), subst (λ (l : List ℕ). CountsMessages l messages) (sym (take-append-le front s t p.0)) p.1)

-- more bytes of the block that is awaited
awaits_more : (a : Awaited) (front messages g : ℕ) (s t : List ℕ) → (a ≡ Nothing → ⊥) → Awaits a front messages g s → Awaits a front messages (g + length t) (s ++ t)
awaits_more Notice front messages g s t some h = (omega (arith, h.0, length-append s t), h.1, h.2)
awaits_more Header front messages g s t some h = (packet_more front messages s t h.0, omega (arith, h.1, length-append s t))
awaits_more (Text left) front messages g s t some h =
    let big : 128 ≤ length (drop front s) = omega (arith, h.1.2, h.1.3, length-drop front s) in
    let c : BlockCountReads (drop front (s ++ t)) h.1.0 = subst (λ (l : List ℕ). BlockCountReads l h.1.0) (sym (drop-append-le front s t h.0.0)) (count_more (drop front s) t h.1.0 big h.1.1) in
    (packet_more front messages s t h.0, (h.1.0, c, h.1.2, omega (arith, h.1.3, length-append s t)))
awaits_more Nothing front messages g s t some h = absurd (some refl)

pub progress_more : (p : Progress) (g : ℕ) (s t : List ℕ) → (p.awaited ≡ Nothing → ⊥) → IsProgress p g s → IsProgress p (g + length t) (s ++ t)
progress_more p g s t some h = awaits_more p.awaited p.front p.messages g s t some h

-- no bad count was found
sound : (a : Awaited) (front messages g : ℕ) (s : List ℕ) → g < 128 → (a ≡ Nothing → ⊥) → Awaits a front messages g s → (at : ℕ) → FirstFault s (BadBlocks at) → ⊥
sound Notice front messages g s short some h at f = let e : Truncated front ≡ BadBlocks at = fault_unique s (Truncated front) (BadBlocks at) (notice_cut front messages g s short h) f in cc
sound Header front messages g s short some h at f = elim (cases_lt front (length s)) [
  | inl lt ↦ (let e : Truncated front ≡ BadBlocks at = fault_unique s (Truncated front) (BadBlocks at) (header_cut front messages g s short h lt) f in cc)
  | inr ge ↦ (let m : CountsMessages s messages = header_whole front messages g s h ge in no_fault s m.0 (BadBlocks at) m.1 f)
]
sound (Text left) front messages g s short some h at f = let e : Truncated front ≡ BadBlocks at = fault_unique s (Truncated front) (BadBlocks at) (text_cut front messages g left s short h) f in cc
sound Nothing front messages g s short some h at f = absurd (some refl)

pub progress_sound : (p : Progress) (g : ℕ) (s : List ℕ) → g < 128 → (p.awaited ≡ Nothing → ⊥) → IsProgress p g s → (at : ℕ) → FirstFault s (BadBlocks at) → ⊥
progress_sound p g s short some h at f = sound p.awaited p.front p.messages g s short some h at f

pub progress_bad : (p : Progress) (g : ℕ) (s : List ℕ) → p.awaited ≡ Nothing → IsProgress p g s → FirstFault s (BadBlocks p.front)
progress_bad p g s is h = bad_count p.front p.messages g s (awaits_known p Nothing g s is h)

-- the place of a bad count is one
pub one_place : (s : List ℕ) (m n : ℕ) → FirstFault s (BadBlocks m) → FirstFault s (BadBlocks n) → m ≡ n
one_place s m n x y = let e : BadBlocks m ≡ BadBlocks n = fault_unique s (BadBlocks m) (BadBlocks n) x y in cc

-- what is taken, where the block at hand has so many bytes
pub taken_is : (s piece : List ℕ) (blocks count used : ℕ) → length s ≡ 128 * blocks + count → count < 128 → used ≡ min (length piece) (128 - count) → next_bytes s piece ≡ take used piece
taken_is s piece blocks count used size short is =
    let room : 128 - length s % 128 ≡ 128 - count = omega arith in
    elim (cases_lt (128 - count) (length piece)) [
      | inl lt ↦ (let e : 128 - length s % 128 ≡ used = omega arith in ap (λ k. take k piece) e)
      | inr ge ↦ take_all (128 - length s % 128) piece (omega arith) ∙ sym (take_all used piece (omega arith))
    ]

-- the last block stays while another one is gathered
last_stays : (s t block : List ℕ) (blocks count : ℕ) → length s ≡ 128 * blocks + count → count + length t < 128 → IsLastBlock s block → IsLastBlock (s ++ t) block
last_stays s t block blocks count size short (inl (few, is)) = inl (omega (arith, length-append s t), is)
last_stays s t block blocks count size short (inr (some, is)) =
    let k : ℕ = 128 * (length s / 128 - 1) in
    let same : 128 * (length (s ++ t) / 128 - 1) ≡ k = omega (arith, length-append s t) in
    let front : drop (128 * (length (s ++ t) / 128 - 1)) (s ++ t) ≡ drop k s ++ t = ap (λ n. drop n (s ++ t)) same ∙ drop-append-le k s t (omega arith) in
    inr (omega (arith, length-append s t), is ∙ (sym (take-append-le 128 (drop k s) t (omega (arith, length-drop k s))) ∙ ap (take 128) (sym front)))

-- the bytes behind the last full block, and more
part_more : (s t part : List ℕ) (blocks : ℕ) → length s ≡ 128 * blocks + length part → part ≡ drop (128 * blocks) s → part ++ t ≡ drop (128 * blocks) (s ++ t)
part_more s t part blocks size is = ap (λ l. l ++ t) is ∙ sym (drop-append-le (128 * blocks) s t (omega arith))

-- a feed that makes no block full
pub holds_part : (old new : ReaderState) (s t : List ℕ) → HoldsStream old s → (old.progress.awaited ≡ Nothing → ⊥) → length old.part + length t < 128
    → new.block ≡ old.block → new.part ≡ old.part ++ t → new.taken ≡ old.taken + length t → new.progress ≡ old.progress → HoldsStream new (s ++ t)
holds_part old new s t h some short block part taken progress =
    let len : length new.part ≡ length old.part + length t = ap length part ∙ length-append old.part t in
    let more : IsProgress old.progress (length old.part + length t) (s ++ t) = progress_more old.progress (length old.part) s t some h.progress in
    record {
      blocks = h.blocks;
      taken = omega (arith, h.taken, length-append s t);
      size = omega (arith, h.size, length-append s t);
      short = omega arith;
      part = part ∙ part_more s t old.part h.blocks h.size h.part;
      block = subst (IsLastBlock (s ++ t)) (sym block) (last_stays s t old.block h.blocks (length old.part) h.size short h.block);
      progress = subst (λ (p : Progress). IsProgress p (length new.part) (s ++ t)) (sym progress) (subst (λ (n : ℕ). IsProgress old.progress n (s ++ t)) (sym len) more);
    }

-- the block that is full with these bytes ends the stream
pub full_block : (old : ReaderState) (s t : List ℕ) (end : ℕ) → HoldsStream old s → length old.part + length t ≡ 128 → end ≡ old.taken + length t
    → (length (s ++ t) ≡ end) × (drop (end - 128) (s ++ t) ≡ old.part ++ t)
full_block old s t end h full is =
    let e : end - 128 ≡ 128 * h.blocks = omega (arith, h.taken, h.size) in
    (omega (arith, h.taken, length-append s t), ap (λ n. drop n (s ++ t)) e ∙ sym (part_more s t old.part h.blocks h.size h.part))

-- a feed that makes a block full
pub holds_full : (old new : ReaderState) (s t : List ℕ) → HoldsStream old s → length old.part + length t ≡ 128
    → new.block ≡ old.part ++ t → new.part ≡ [] → new.taken ≡ old.taken + length t → IsProgress new.progress 0 (s ++ t) → HoldsStream new (s ++ t)
holds_full old new s t h full block part taken progress =
    let none : length new.part ≡ 0 = ap length part in
    let len : length (s ++ t) ≡ 128 * (h.blocks + 1) = omega (arith, h.size, length-append s t) in
    let k : 128 * (length (s ++ t) / 128 - 1) ≡ 128 * h.blocks = omega arith in
    let last : take 128 (drop (128 * (length (s ++ t) / 128 - 1)) (s ++ t)) ≡ old.part ++ t =
    ap (λ n. take 128 (drop n (s ++ t))) k ∙ (ap (take 128) (sym (part_more s t old.part h.blocks h.size h.part)) ∙ take_all 128 (old.part ++ t) (omega (arith, length-append old.part t))) in
    record {
      blocks = h.blocks + 1;
      taken = omega (arith, h.taken, length-append s t);
      size = omega arith;
      short = omega arith;
      part = part ∙ sym (drop_all (128 * (h.blocks + 1)) (s ++ t) (omega arith));
      block = inr (omega arith, block ∙ sym last);
      progress = subst (λ (n : ℕ). IsProgress new.progress n (s ++ t)) (sym none) progress;
    }

-- what contracts see of a reader, from its fields
abbrev pub state : List ℕ → List ℕ → ℕ → ℕ → Progress → ReaderState
state block gathered count taken progress = record { block = block; part = take count gathered; taken = taken; progress = progress }

-- the block at hand with so many bytes more
abbrev pub gathered_more : ℕ → ℕ → List ℕ → List ℕ → List ℕ
gathered_more count used gathered more = put_mid count (count + used - count) gathered more

took_length : (piece more : List ℕ) (count used : ℕ) → used ≡ min (length piece) (128 - count) → more ≡ take used piece → length more ≡ used
took_length piece more count used is took = ap length took ∙ length-take-le used piece (omega arith)

gathered_part : (gathered more : List ℕ) (count used : ℕ) → count ≤ length gathered → length more ≡ used → take (count + used) (gathered_more count used gathered more) ≡ take count gathered ++ more
gathered_part gathered more count used le len = take-put_mid count (count + used - count) gathered more (count + used) (omega arith) le

gathered_full : (gathered more : List ℕ) (count used : ℕ) → length gathered ≡ count + used → length more ≡ used → gathered_more count used gathered more ≡ take count gathered ++ more
gathered_full gathered more count used size len =
    let none : drop (count + used - count) (drop count gathered) ≡ [] = drop-drop (count + used - count) count gathered ∙ drop_all (count + (count + used - count)) gathered (omega arith) in
    ap (λ l. take count gathered ++ (more ++ l)) none ∙ ap (λ l. take count gathered ++ l) (append-nil more)

pub feed_part : (block gathered piece more s : List ℕ) (count used taken : ℕ) (p : Progress) → HoldsStream (state block gathered count taken p) s → length gathered ≡ 128 → (p.awaited ≡ Nothing → ⊥)
    → used ≡ min (length piece) (128 - count) → more ≡ take used piece → count + used < 128
    → HoldsStream (state block (gathered_more count used gathered more) (count + used) (taken + used) p) (s ++ next_bytes s piece)
feed_part block gathered piece more s count used taken p h size some is took short =
    let len : length more ≡ used = took_length piece more count used is took in
    let here : length (take count gathered) ≡ count = length-take-le count gathered (omega arith) in
    let next : next_bytes s piece ≡ more = taken_is s piece h.blocks count used (omega (arith, h.size)) (omega arith) is ∙ sym took in
    subst (λ (l : List ℕ). HoldsStream (state block (gathered_more count used gathered more) (count + used) (taken + used) p) (s ++ l)) (sym next)
    (holds_part _ _ s more h some (omega arith) refl (gathered_part gathered more count used (omega arith) len) (ap (λ n. taken + n) (sym len)) refl)

-- what the next progress is asked for
pub feed_ready : (block gathered piece more s : List ℕ) (count used taken : ℕ) (p : Progress) → HoldsStream (state block gathered count taken p) s → length gathered ≡ 128 → (p.awaited ≡ Nothing → ⊥)
    → used ≡ min (length piece) (128 - count) → more ≡ take used piece → count < 128 → 128 ≤ count + used
    → (length (s ++ next_bytes s piece) ≡ taken + used) × (drop (taken + used - 128) (s ++ next_bytes s piece) ≡ gathered_more count used gathered more) × IsProgress p 128 (s ++ next_bytes s piece)
feed_ready block gathered piece more s count used taken p h size some is took short full =
    let len : length more ≡ used = took_length piece more count used is took in
    let here : length (take count gathered) ≡ count = length-take-le count gathered (omega arith) in
    let next : next_bytes s piece ≡ more = taken_is s piece h.blocks count used (omega (arith, h.size)) short is ∙ sym took in
    let e : taken + length more ≡ taken + used = ap (λ n. taken + n) len in
    let b : (length (s ++ more) ≡ taken + used) × (drop (taken + used - 128) (s ++ more) ≡ take count gathered ++ more) = full_block _ s more (taken + used) h (omega arith) (sym e) in
    let whole : gathered_more count used gathered more ≡ take count gathered ++ more = gathered_full gathered more count used (omega arith) len in
    let all : length (take count gathered) + length more ≡ 128 = omega arith in
    let ready : IsProgress p 128 (s ++ more) = subst (λ (n : ℕ). IsProgress p n (s ++ more)) all (progress_more p (length (take count gathered)) s more some h.progress) in
    subst (λ (l : List ℕ). (length (s ++ l) ≡ taken + used) × (drop (taken + used - 128) (s ++ l) ≡ gathered_more count used gathered more) × IsProgress p 128 (s ++ l)) (sym next)
    (b.0, b.1 ∙ sym whole, ready)

pub feed_full : (block gathered piece more s : List ℕ) (count used taken : ℕ) (p new : Progress) → HoldsStream (state block gathered count taken p) s → length gathered ≡ 128
    → used ≡ min (length piece) (128 - count) → more ≡ take used piece → count < 128 → 128 ≤ count + used → IsProgress new 0 (s ++ next_bytes s piece)
    → HoldsStream (state (gathered_more count used gathered more) (gathered_more count used gathered more) 0 (taken + used) new) (s ++ next_bytes s piece)
feed_full block gathered piece more s count used taken p new h size is took short full progress =
    let len : length more ≡ used = took_length piece more count used is took in
    let here : length (take count gathered) ≡ count = length-take-le count gathered (omega arith) in
    let next : next_bytes s piece ≡ more = taken_is s piece h.blocks count used (omega (arith, h.size)) short is ∙ sym took in
    subst (λ (l : List ℕ). HoldsStream (state (gathered_more count used gathered more) (gathered_more count used gathered more) 0 (taken + used) new) (s ++ l)) (sym next)
    (holds_full _ _ s more h (omega arith) (gathered_full gathered more count used (omega arith) len) refl (ap (λ n. taken + n) (sym len))
    (subst (λ (l : List ℕ). IsProgress new 0 (s ++ l)) next progress))

pub not_stopped : (stopped : Bool) (p : Progress) → stopped ≡ false → (IsTrue stopped → p.awaited ≡ Nothing) × (p.awaited ≡ Nothing → IsTrue stopped) → p.awaited ≡ Nothing → ⊥
not_stopped stopped p is iff e = let t : stopped ≡ true = iff.1 e in cc

-- the fault's place, which a feed answers
place_of : Result Fed BlocksFault → ℕ
place_of (Ok fed) = 0
place_of (Err fault) = fault.at

-- the answer is a fault at a place exactly where the stream's first one is there
abbrev pub FaultIs : List ℕ → Result Fed BlocksFault → ℕ → Type 0
FaultIs s answer at = (answer ≡ Err record { at = at } → FirstFault s (BadBlocks at)) × (FirstFault s (BadBlocks at) → answer ≡ Err record { at = at })

pub no_fault_exact : (s : List ℕ) (fed : Fed) → ((at : ℕ) → FirstFault s (BadBlocks at) → ⊥) → (at : ℕ) → FaultIs s (Ok fed) at
no_fault_exact s fed none at = ((λ e. cc), λ f. absurd (none at f))

pub fault_exact : (s : List ℕ) (front : ℕ) → FirstFault s (BadBlocks front) → (at : ℕ) → FaultIs s (Err record { at = front }) at
unfolding place_of
fault_exact s front f at = ((λ e. let is : front ≡ at = ap place_of e in subst (λ (n : ℕ). FirstFault s (BadBlocks n)) is f), λ x. ap (λ (n : ℕ). Err record { at = n }) (one_place s front at f x))
