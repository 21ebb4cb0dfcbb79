-- Bytes that are long enough begin with the record that is read of them.
use Rattle.std.proofs.Common.{◌≡◌, ℕ, ◌≤◌, List, ◌++◌, length, take, drop, sym, ap, ◌∙◌, arith}
use Rattle.std.specs.Prelude.{All}
use Rattle.std.proofs.lemmas.List.{take-append-drop}
use Rattle.jam_records.specs.byte_lists.Byte.{IsByte}
use Rattle.jam_records.specs.record_numbers.Numbers.{u16_at, u16_text, u32s_text}
use Rattle.jam_records.proofs.record_numbers.NumberFronts.{u16_front, numbers_front}
use Rattle.jam_records.specs.Signature.{signature}
use Rattle.jam_records.specs.MessageHeaders.{message_header_at, message_fields, header_text}
use Rattle.jam_records.specs.IndexRecords.{index_at, index_text}
use Rattle.jam_records.specs.LastReads.{last_read_at, last_text}

pub index_front : (bytes : List ℕ) → All IsByte bytes → 8 ≤ length bytes → bytes ≡ index_text (index_at bytes) ++ drop 8 bytes
unfolding index_text
index_front bytes all long = numbers_front 0 2 bytes all long

pub last_front : (bytes : List ℕ) → All IsByte bytes → 16 ≤ length bytes → bytes ≡ last_text (last_read_at bytes) ++ drop 16 bytes
unfolding last_text
last_front bytes all long = numbers_front 0 4 bytes all long

pub header_front : (bytes : List ℕ) → All IsByte bytes → 76 ≤ length bytes → take 4 bytes ≡ signature → u16_at 4 bytes ≡ 1 → u16_at 6 bytes ≡ 0 → bytes ≡ header_text (message_header_at bytes) ++ drop 76 bytes
unfolding header_text
header_front bytes all long signed revision reserved =
    let fields : drop 8 bytes ≡ u32s_text (message_fields (message_header_at bytes)) ++ drop 76 bytes = numbers_front 8 17 bytes all (omega arith) in
    let a : drop 4 bytes ≡ u16_text 1 ++ drop 6 bytes = u16_front 4 bytes all (omega arith) ∙ ap (λ n. u16_text n ++ drop 6 bytes) revision in
    let b : drop 6 bytes ≡ u16_text 0 ++ drop 8 bytes = u16_front 6 bytes all (omega arith) ∙ ap (λ n. u16_text n ++ drop 8 bytes) reserved in
    sym (take-append-drop 4 bytes) ∙ (ap (λ xs. xs ++ drop 4 bytes) signed
    ∙ ap (λ xs. signature ++ xs) (a ∙ ap (λ xs. u16_text 1 ++ xs) (b ∙ ap (λ xs. u16_text 0 ++ xs) fields)))
