-- A generated msgid is one that a message may have.
use Rattle.std.proofs.Common.{◌≡◌, ⊎_elim, ℕ, ◌+◌, ◌^◌, ◌<◌, ◌≤◌, ◌%◌, true, ◌&&◌, ◌||◌, leb, List, [], ◌∷◌, ◌++◌, length, refl, arith, length-append}
use Rattle.std.specs.Prelude.{All, decimal}
use Rattle.std.specs.List.{list_all}
use Rattle.std.proofs.lemmas.Bool.{and_from, and_parts, leb-true, le-leb, or_cases}
use Rattle.std.proofs.lemmas.Fmt.{decimal_by_steps, length-decimal-le}
use Rattle.std.proofs.lemmas.List.Elements.{All-append, All-cons, All-head, All-nil, All-push, All-tail, All-weaker}
use Rattle.std.proofs.lemmas.Nat.{mod_below}
use Rattle.byte_lists.specs.Byte.{IsByte}
use Rattle.jam_layout.specs.Fields.{is_text}
use Rattle.board_ledger.specs.setup_file.Texts.{is_bbsid, is_letter_or_digit}
use Rattle.jam_records.specs.declared.message.Message.{Message}
use Rattle.slot_changes.specs.Msgids.{IsMsgid, all_identified, generated}

-- a byte that isn't below 20h
IsPlain : ℕ → Type 0
IsPlain b = (0x20 ≤ b) × (b < 256)

digit_plain : (d : ℕ) → d < 10 → IsPlain (48 + d)
unfolding IsPlain
digit_plain d small = (omega (arith, small), omega (arith, small))

decimal_plain : (n : ℕ) → n < 2 ^ 64 → All IsPlain (decimal n)
decimal_plain n small =
    decimal_by_steps (λ m ds. All IsPlain ds) (λ m digit. All-cons IsPlain (48 + m) [] (digit_plain m digit) (All-nil IsPlain))
    (λ m ds more so_far. All-push IsPlain ds (48 + m % 10) so_far (digit_plain (m % 10) (mod_below m 10 (omega arith)))) n small

between : (low high b : ℕ) → 0x20 ≤ low → high < 256 → (leb low b && leb b high) ≡ true → IsPlain b
unfolding IsPlain
between low high b from to is =
    let parts = and_parts (leb low b) (leb b high) is in
    (omega (arith, from, leb-true low b parts.0), omega (arith, to, leb-true b high parts.1))

letter_plain : (b : ℕ) → is_letter_or_digit b ≡ true → IsPlain b
letter_plain b is =
    ⊎_elim
    (λ letter. ⊎_elim (between 0x41 0x5A b (omega arith) (omega arith)) (between 0x61 0x7A b (omega arith) (omega arith)) (or_cases (leb 0x41 b && leb b 0x5A) (leb 0x61 b && leb b 0x7A) letter))
    (between 0x30 0x39 b (omega arith) (omega arith))
    (or_cases ((leb 0x41 b && leb b 0x5A) || (leb 0x61 b && leb b 0x7A)) (leb 0x30 b && leb b 0x39) is)

letters_plain : (text : List ℕ) → list_all is_letter_or_digit text ≡ true → All IsPlain text
letters_plain [] all = All-nil IsPlain
letters_plain (b ∷ text) all =
    let parts = and_parts (is_letter_or_digit b) (list_all is_letter_or_digit text) all in
    All-cons IsPlain b text (letter_plain b parts.0) (letters_plain text parts.1)

tested : (text : List ℕ) → All IsPlain text → list_all (λ b. leb 0x20 b) text ≡ true
unfolding IsPlain
tested [] all = refl
tested (b ∷ text) all = and_from (leb 0x20 b) (list_all (λ c. leb 0x20 c) text) (le-leb 0x20 b (All-head IsPlain b text all).0) (tested text (All-tail IsPlain b text all))

bytes_of : (text : List ℕ) → All IsPlain text → All IsByte text
unfolding IsPlain
bytes_of text all = All-weaker IsPlain IsByte (λ b plain. plain.1) text all

plain_msgid : (text : List ℕ) → All IsPlain text → 1 ≤ length text → length text ≤ 80 → IsMsgid text
unfolding is_text
plain_msgid text all some short = record {
  bytes = bytes_of text all;
  text = and_from (leb 1 (length text) && leb (length text) 80) (list_all (λ b. leb 0x20 b) text) (and_from (leb 1 (length text)) (leb (length text) 80) (le-leb 1 (length text) some) (le-leb (length text) 80 short)) (tested text all);
}

-- the mark between two parts
mark_plain : IsPlain 46
unfolding IsPlain
mark_plain = (omega arith, omega arith)

bbsid_plain : (bbsid : List ℕ) → is_bbsid bbsid ≡ true → All IsPlain bbsid
unfolding is_bbsid
bbsid_plain bbsid is = letters_plain bbsid (and_parts (leb 1 (length bbsid) && leb (length bbsid) 8) (list_all is_letter_or_digit bbsid) is).1

bbsid_short : (bbsid : List ℕ) → is_bbsid bbsid ≡ true → length bbsid ≤ 8
unfolding is_bbsid
bbsid_short bbsid is =
    let size = (and_parts (leb 1 (length bbsid) && leb (length bbsid) 8) (list_all is_letter_or_digit bbsid) is).0 in
    leb-true (length bbsid) 8 (and_parts (leb 1 (length bbsid)) (leb (length bbsid) 8) size).1

pub generated_is : (conference : ℕ) (bbsid : List ℕ) (number : ℕ) → conference < 2 ^ 16 → is_bbsid bbsid ≡ true → number < 10 ^ 5 → IsMsgid (generated conference bbsid number)
generated_is conference bbsid number small is few =
    let behind : List ℕ = 46 ∷ bbsid in
    let rest : List ℕ = decimal number ++ behind in
    let plain_rest : All IsPlain rest = All-append IsPlain (decimal number) behind (decimal_plain number (omega (arith, few))) (All-cons IsPlain 46 bbsid mark_plain (bbsid_plain bbsid is)) in
    let plain : All IsPlain (generated conference bbsid number) = All-append IsPlain (decimal conference) (46 ∷ rest) (decimal_plain conference (omega (arith, small))) (All-cons IsPlain 46 rest mark_plain plain_rest) in
    let first = length-decimal-le 5 conference (omega arith) (omega (arith, small)) (omega (arith, small)) in
    let second = length-decimal-le 5 number (omega arith) few (omega (arith, few)) in
    let whole = length-append (decimal conference) (46 ∷ rest) in
    let inner = length-append (decimal number) behind in
    plain_msgid (generated conference bbsid number) plain (omega (arith, whole)) (omega (arith, whole, inner, first, second, bbsid_short bbsid is))

pub identified_count : (msgid : ℕ → List ℕ) (number : ℕ) (messages : List Message) → length (all_identified msgid number messages) ≡ length messages
identified_count msgid number [] = refl
identified_count msgid number (m ∷ messages) = omega (arith, identified_count msgid (number + 1) messages)
