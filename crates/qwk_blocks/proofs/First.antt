-- The message at the front of some bytes, and the packet with one more.
use Rattle.std.proofs.Common.{◌≡◌, ℕ, ◌+◌, ◌-◌, ◌*◌, ◌<◌, ◌≤◌, List, [], ◌∷◌, ◌++◌, length, take, drop, sym, ap, ◌∙◌, subst, arith, refl}
use Rattle.std.proofs.lemmas.List.{take_at, take-take, drop-take, length-take-le, length-drop, append-nil}
use Rattle.qwk_blocks.specs.Header.{field, BlockCountReads, HeaderReads}
use Rattle.qwk_blocks.specs.Text.{TextReads}
use Rattle.qwk_blocks.specs.Packet.{MessageReads, PacketReads}
use Rattle.qwk_blocks.specs.declared.message.Header.{Header}
use Rattle.qwk_blocks.specs.declared.message.QwkMessage.{QwkMessage}
use Rattle.qwk_blocks.proofs.Messages.{length_message, count_unique, packet_push, split_take}

-- the count field lies in the first block
count_field : (n : ℕ) (xs : List ℕ) → 128 ≤ n → field 117 6 (take n xs) ≡ field 117 6 xs
count_field n xs le =
    let e : 116 + (n - 116) ≡ n = omega arith in
    ap (take 6) (ap (λ k. drop 116 (take k xs)) (sym e) ∙ drop-take 116 (n - 116) xs) ∙ take-take 6 (n - 116) (drop 116 xs) (omega arith)

pub count_of_front : (n : ℕ) (xs : List ℕ) (count : ℕ) → 128 ≤ n → BlockCountReads xs count → BlockCountReads (take n xs) count
count_of_front n xs count le x = record {
  number = rw (count_field n xs le) x.number;
  positive = x.positive;
}

pub count_of_whole : (n : ℕ) (xs : List ℕ) (count : ℕ) → 128 ≤ n → BlockCountReads (take n xs) count → BlockCountReads xs count
count_of_whole n xs count le x = record {
  number = rw (sym (count_field n xs le)) x.number;
  positive = x.positive;
}

-- a message that is a front of the bytes is as long as its count says
pub message_size : (rest : List ℕ) (n : ℕ) (m : QwkMessage) → n ≤ length rest → MessageReads (take n rest) m → (count : ℕ) × BlockCountReads rest count × (n ≡ 128 * count)
message_size rest n m le x =
    let len : n ≡ 128 * x.count = sym (length-take-le n rest le) ∙ length_message (take n rest) m x in
    let big : 128 ≤ n = omega (arith, x.header.blocks.positive) in
    let block : take 128 rest ≡ x.block = sym (take-take 128 n rest big) ∙ (ap (take 128) x.whole ∙ take_at x.block x.text 128 x.header.size) in
    (x.count, count_of_whole 128 rest x.count (omega arith) (subst (λ (k : List ℕ). BlockCountReads k x.count) (sym block) x.header.blocks), len)

pub too_short : (rest : List ℕ) → length rest < 128 → (n : ℕ) (m : QwkMessage) → n ≤ length rest → MessageReads (take n rest) m → ⊥
too_short rest lt n m le x =
    let s : (count : ℕ) × BlockCountReads rest count × (n ≡ 128 * count) = message_size rest n m le x in
    omega (arith, s.1.positive, s.2)

pub no_count : (rest : List ℕ) → ((count : ℕ) → BlockCountReads rest count → ⊥) → (n : ℕ) (m : QwkMessage) → n ≤ length rest → MessageReads (take n rest) m → ⊥
no_count rest none n m le x =
    let s : (count : ℕ) × BlockCountReads rest count × (n ≡ 128 * count) = message_size rest n m le x in
    none s.0 s.1

pub past_end : (rest : List ℕ) (count : ℕ) → BlockCountReads rest count → length rest < 128 * count → (n : ℕ) (m : QwkMessage) → n ≤ length rest → MessageReads (take n rest) m → ⊥
past_end rest count c lt n m le x =
    let s : (k : ℕ) × BlockCountReads rest k × (n ≡ 128 * k) = message_size rest n m le x in
    let e : s.0 ≡ count = count_unique rest s.0 count s.1 c in
    omega (arith, s.2)

pub first_message : (rest : List ℕ) (count : ℕ) (header : Header) (lines : List (List ℕ)) → 128 * count ≤ length rest → 1 ≤ count
    → HeaderReads (take 128 rest) header count → TextReads (take (128 * count - 128) (drop 128 rest)) lines
    → MessageReads (take (128 * count) rest) record { header = header; lines = lines }
first_message rest count header lines le some h t = record {
  block = take 128 rest;
  text = take (128 * count - 128) (drop 128 rest);
  count = count;
  whole = split_take 128 (128 * count) rest (omega arith);
  header = h;
  size = length-take-le (128 * count - 128) (drop 128 rest) (omega (arith, length-drop 128 rest)) ∙ omega arith;
  lines = t;
}

-- the notice alone
pub notice_alone : (bytes : List ℕ) (ms : List QwkMessage) → 128 ≤ length bytes → ms ≡ [] → PacketReads (take 128 bytes) ms
notice_alone bytes ms le e = subst (PacketReads (take 128 bytes)) (sym e) record {
  notice = take 128 bytes;
  rest = [];
  whole = sym (append-nil (take 128 bytes));
  size = length-take-le 128 bytes le;
  each = refl;
}

pub size_some : (rest : List ℕ) (n : ℕ) (m : QwkMessage) → n ≤ length rest → MessageReads (take n rest) m → 0 < n
size_some rest n m le x =
    let s : (count : ℕ) × BlockCountReads rest count × (n ≡ 128 * count) = message_size rest n m le x in
    omega (arith, s.1.positive, s.2)

pub goes_on : (bytes : List ℕ) (at size : ℕ) (ms new : List QwkMessage) (m : QwkMessage) → PacketReads (take at bytes) ms → MessageReads (take size (drop at bytes)) m → new ≡ ms ++ m ∷ [] → PacketReads (take (at + size) bytes) new
goes_on bytes at size ms new m p x e =
    let k : at + size - at ≡ size = omega arith in
    let s : take (at + size) bytes ≡ take at bytes ++ take size (drop at bytes) = split_take at (at + size) bytes (omega arith) ∙ ap (λ n. take at bytes ++ take n (drop at bytes)) k in
    rw (s, e) (packet_push (take at bytes) (take size (drop at bytes)) ms m p x)
