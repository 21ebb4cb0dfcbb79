-- How long written forms are, and sums that stop at the greatest number.
use Rattle.std.proofs.Common.{◌≡◌, ℕ, ◌+◌, ◌-◌, ◌*◌, ◌^◌, List, [], ◌∷◌, ◌++◌, length, min, max, replicate, ap, ◌∙◌, inl, inr, arith, length-append}
use Rattle.std.proofs.lemmas.Bool.{cases_lt}
use Rattle.std.proofs.lemmas.List.{length-replicate}
use Rattle.std.specs.Fmt.{decimal}
use Rattle.qwk_blocks.specs.Text.{joined_lines}
use Rattle.qwk_blocks.specs.Written.{padded, number_text, low_first, header_block, message_text, blocks_of}
use Rattle.qwk_blocks.specs.declared.message.Header.{Header}
use Rattle.qwk_blocks.specs.declared.message.QwkMessage.{QwkMessage}

pub length_padded_max : (width : ℕ) (text : List ℕ) → length (padded width text) ≡ max width (length text)
length_padded_max width text = omega (arith, length-append text (replicate (width - length text) 32), length-replicate {A = ℕ} (width - length text) 32)

-- one part more of a sum that stops at m
pub min_of_sum : (m r a b s : ℕ) → r ≡ min a m → s ≡ min (r + b) m → s ≡ min (a + b) m
min_of_sum m r a b s e f = omega arith

pub header_length : (h : Header) (count : ℕ) → length (header_block h count)
    ≡ 7 + (length h.date + length h.time) + length (padded 7 (number_text h.number)) + length (padded 25 h.to) + length (padded 25 h.from) + length (padded 25 h.subject)
    + length (padded 12 h.password) + length (padded 8 (number_text h.reference)) + length (padded 6 (decimal count))
unfolding header_block
header_length h count =
    let p7 : List ℕ = padded 7 (number_text h.number) in
    let to : List ℕ = padded 25 h.to in
    let from : List ℕ = padded 25 h.from in
    let subject : List ℕ = padded 25 h.subject in
    let password : List ℕ = padded 12 h.password in
    let p8 : List ℕ = padded 8 (number_text h.reference) in
    let p6 : List ℕ = padded 6 (decimal count) in
    let tail : List ℕ = (h.activity ∷ []) ++ (low_first h.conference ++ (low_first h.logical ++ (h.tag ∷ []))) in
    omega (
      arith,
      length-append p7 (h.date ++ (h.time ++ (to ++ (from ++ (subject ++ (password ++ (p8 ++ (p6 ++ tail)))))))),
      length-append h.date (h.time ++ (to ++ (from ++ (subject ++ (password ++ (p8 ++ (p6 ++ tail))))))),
      length-append h.time (to ++ (from ++ (subject ++ (password ++ (p8 ++ (p6 ++ tail)))))),
      length-append to (from ++ (subject ++ (password ++ (p8 ++ (p6 ++ tail))))),
      length-append from (subject ++ (password ++ (p8 ++ (p6 ++ tail)))),
      length-append subject (password ++ (p8 ++ (p6 ++ tail))),
      length-append password (p8 ++ (p6 ++ tail)),
      length-append p8 (p6 ++ tail),
      length-append p6 tail,
    )

-- a text takes as many bytes as its blocks
blocks_length : (text : List ℕ) → length (padded (128 * blocks_of (length text)) text) ≡ 128 * blocks_of (length text)
blocks_length text = length_padded_max (128 * blocks_of (length text)) text ∙ omega arith

pub message_length : (m : QwkMessage) → length (message_text m) ≡ length (header_block m.header (1 + blocks_of (length (joined_lines m.lines)))) + 128 * blocks_of (length (joined_lines m.lines))
unfolding message_text
message_length m =
    let text : List ℕ = joined_lines m.lines in
    length-append (header_block m.header (1 + blocks_of (length text))) (padded (128 * blocks_of (length text)) text)
    ∙ ap (λ n. length (header_block m.header (1 + blocks_of (length text))) + n) (blocks_length text)

-- The size of a message, where h is that of its header with a count of blocks, n that of its lines, and k what is known of n.
pub whole_size : (h : ℕ → ℕ) (n k size : ℕ) → k ≡ min n (2 ^ 64 - 1) → size ≡ min (min (h (1 + blocks_of k)) (2 ^ 64 - 1) + min (blocks_of k * 128) (2 ^ 64 - 1)) (2 ^ 64 - 1)
    → size ≡ min (h (1 + blocks_of n) + 128 * blocks_of n) (2 ^ 64 - 1)
whole_size h n k size e f = elim (cases_lt n (2 ^ 64)) [
  | inl lt ↦ let same : k ≡ n = omega arith in let g : h (1 + blocks_of k) ≡ h (1 + blocks_of n) = ap (λ i. h (1 + blocks_of i)) same in omega arith
  | inr ge ↦ let last : k ≡ 2 ^ 64 - 1 = omega arith in omega arith
]
