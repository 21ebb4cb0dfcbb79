-- What is left of a value without the spaces at its end.
use Rattle.std.proofs.Common.{◌≡◌, ℕ, ◌+◌, ◌-◌, ◌<◌, ◌≤◌, min, true, false, List, [], ◌∷◌, length, get_or, take, drop, reverse, sym, ap, ◌∙◌, subst, arith, length-append}
use Rattle.std.specs.List.{prefix_len, suffix_len}
use Rattle.std.proofs.lemmas.Bool.{eqb-true, eqb-false}
use Rattle.std.proofs.lemmas.List.{length-take, length-reverse, length-drop, take-append-drop, get_or-drop, get_or-take, get_or-reverse, get_or_at, get_or_default, take_min}
use Rattle.std.proofs.lemmas.List.Sums.{prefix_len_passes, prefix_len_stops, suffix_len-le-length}
use Rattle.text_fields.specs.Blank.{IsBlank}
use Rattle.text_fields.specs.Trim.{EndsWithNone, TrimmedEnd}
use Rattle.text_fields.specs.declared.blank.Blank.TheVariants.{Spaces}
use Rattle.text_fields.proofs.Trimming.{trimmed_end_unique}
use Rattle.long_names.specs.Value.{is_space, without_spaces, short_form}

-- a text ends with no blank where its last byte is none
pub ends_from : (P : ℕ → Type 0) (text : List ℕ) → (0 < length text → P (get_or text (length text - 1) 0) → ⊥) → EndsWithNone P text
ends_from P text none front last e blank =
    let count : length text ≡ length front + 1 = ap length e ∙ length-append front (last ∷ []) in
    let place : length front ≡ length text - 1 = omega arith in
    let here : get_or text (length text - 1) 0 ≡ last = ap (λ xs. get_or xs (length text - 1) 0) e ∙ get_or_at front last [] 0 (length text - 1) place in
    none (omega arith) (subst P (sym here) blank)

-- how many bytes are left of a text without the spaces at its end
abbrev pub bare_len : List ℕ → ℕ
bare_len text = length text - suffix_len is_space text

space_behind : (text : List ℕ) (k : ℕ) → bare_len text ≤ k → k < length text → get_or text k 0 ≡ 32
space_behind text k from within =
    let back : length text - 1 - k < suffix_len is_space text = omega (arith, suffix_len-le-length is_space text) in
    let test : is_space (get_or (reverse text) (length text - 1 - k) 0) ≡ true = prefix_len_passes is_space (reverse text) (length text - 1 - k) 0 back in
    let turn : get_or (reverse text) (length text - 1 - k) 0 ≡ get_or text (length text - 1 - (length text - 1 - k)) 0 = get_or-reverse text (length text - 1 - k) 0 (omega arith) in
    let place : length text - 1 - (length text - 1 - k) ≡ k = omega arith in
    sym (turn ∙ ap (λ n. get_or text n 0) place) ∙ eqb-true (get_or (reverse text) (length text - 1 - k) 0) 32 test

none_before : (text : List ℕ) → 0 < bare_len text → get_or text (bare_len text - 1) 0 ≡ 32 → ⊥
none_before text some is =
    let less : prefix_len is_space (reverse text) < length (reverse text) = omega (arith, length-reverse text) in
    let test : is_space (get_or (reverse text) (suffix_len is_space text) 0) ≡ false = prefix_len_stops is_space (reverse text) 0 less in
    let turn : get_or (reverse text) (suffix_len is_space text) 0 ≡ get_or text (length text - 1 - suffix_len is_space text) 0 = get_or-reverse text (suffix_len is_space text) 0 (omega arith) in
    let place : length text - 1 - suffix_len is_space text ≡ bare_len text - 1 = omega arith in
    eqb-false (get_or (reverse text) (suffix_len is_space text) 0) 32 test (turn ∙ (ap (λ n. get_or text n 0) place ∙ is))

bare_length : (text : List ℕ) → length (without_spaces text) ≡ bare_len text
bare_length text = omega (arith, length-take (bare_len text) text)

pub bare_end : (text : List ℕ) → 0 < length (without_spaces text) → get_or (without_spaces text) (length (without_spaces text) - 1) 0 ≡ 32 → ⊥
bare_end text some is =
    let n : length (without_spaces text) ≡ bare_len text = bare_length text in
    let last : get_or (without_spaces text) (length (without_spaces text) - 1) 0 ≡ get_or text (bare_len text - 1) 0
    = ap (λ k. get_or (without_spaces text) (k - 1) 0) n ∙ get_or-take (bare_len text) text (bare_len text - 1) 0 (omega arith) in
    none_before text (omega arith) (sym last ∙ is)

pub without_trims : (text : List ℕ) → TrimmedEnd (IsBlank Spaces) text (without_spaces text)
without_trims text = record {
  pad = drop (bare_len text) text;
  whole = sym (take-append-drop (bare_len text) text);
  blank = λ k d lt.
      let within : bare_len text + k < length text = omega (arith, length-drop (bare_len text) text) in
      get_or-drop (bare_len text) text k d ∙ (get_or_default text (bare_len text + k) d 0 within ∙ space_behind text (bare_len text + k) (omega arith) within);
  ends = ends_from (IsBlank Spaces) (without_spaces text) (bare_end text);
}

-- what is trimmed of the first 25 bytes
pub trimmed_short : (text : List ℕ) (n : ℕ) (result : List ℕ) → n ≡ min (length text) 25 → TrimmedEnd (IsBlank Spaces) (take n text) result → result ≡ short_form text
trimmed_short text n result is t =
    let order : min (length text) 25 ≡ min 25 (length text) = omega arith in
    let same : take n text ≡ take 25 text = ap (λ k. take k text) (is ∙ order) ∙ take_min 25 text in
    trimmed_end_unique (IsBlank Spaces) (take 25 text) result (short_form text) (subst (λ (f : List ℕ). TrimmedEnd (IsBlank Spaces) f result) same t) (without_trims (take 25 text))
