-- Subfields and their bytes.
use Rattle.std.proofs.Common.{◌≡◌, ℕ, suc, ◌+◌, ◌-◌, ◌^◌, ◌<◌, ◌≤◌, List, [], ◌∷◌, ◌++◌, length, length-append, get_or, take, drop, refl, sym, ap, ◌∙◌, arith, append_assoc, append-nil, Result, Ok, Err, subst, ◌⊎◌, inl, inr}
use Rattle.std.specs.Prelude.{All, IfOk}
use Rattle.std.proofs.lemmas.List.{length-drop, length-take, take-append-drop, drop-drop, take_at, drop_at}
use Rattle.std.proofs.lemmas.List.Elements.{All-drop}
use Rattle.std.proofs.lemmas.List.Folds.{length-flat_map-take}
use Rattle.std.proofs.lemmas.Grind.{flat_map-append, common_steps}
use Rattle.byteorder.specs.Endian.{little_number, little_bytes}
use Rattle.record_numbers.specs.byte_lists.Byte.{IsByte}
use Rattle.record_numbers.specs.Numbers.{u16_at, u32_at, u16_text}
use Rattle.jam_records.specs.Subfields.{subfield_text, subfields_text, IsSubfield, SubfieldsRead, PassesEnd}
use Rattle.jam_records.specs.declared.subfield.Subfield.{Subfield}
use Rattle.jam_records.specs.declared.error.SubfieldError.{SubfieldError}
use Rattle.jam_records.specs.declared.error.SubfieldError.TheVariants.{SubfieldEnd, OutOfMemory}
use Rattle.record_numbers.proofs.NumberLemmas.{bytes_of_number, number_of_bytes}
use Rattle.record_numbers.proofs.NumberFronts.{u32_at-take}

-- bytes that hold one subfield are its text
pub subfield_of_bytes : (bytes : List ℕ) (lo hi : ℕ) (value : List ℕ) → All IsByte bytes → 8 ≤ length bytes → length bytes ≡ 8 + u32_at 4 bytes → lo ≡ u16_at 0 bytes → hi ≡ u16_at 2 bytes → value ≡ drop 8 bytes → bytes ≡ subfield_text (record { lo = lo; hi = hi; value = value })
unfolding subfield_text u16_at u32_at
subfield_of_bytes bytes lo hi value small long whole low high is =
    let behind = bytes_of_number 4 (drop 4 bytes) (All-drop IsByte 4 bytes small) (omega (arith, length-drop 4 bytes)) in
    let middle = bytes_of_number 2 (drop 2 bytes) (All-drop IsByte 2 bytes small) (omega (arith, length-drop 2 bytes)) in
    let front = bytes_of_number 2 bytes small (omega arith) in
    let size : length value ≡ little_number 4 (drop 4 bytes) = ap length is ∙ omega (arith, length-drop 8 bytes) in
    sym (take-append-drop 2 bytes)
    ∙ ap (λ rest. take 2 bytes ++ rest) (sym (take-append-drop 2 (drop 2 bytes)))
    ∙ ap (λ rest. take 2 bytes ++ (take 2 (drop 2 bytes) ++ rest)) (drop-drop 2 2 bytes ∙ sym (take-append-drop 4 (drop 4 bytes)))
    ∙ ap (λ rest. take 2 bytes ++ (take 2 (drop 2 bytes) ++ (take 4 (drop 4 bytes) ++ rest))) (drop-drop 4 4 bytes ∙ sym is)
    ∙ ap (λ word. word ++ (take 2 (drop 2 bytes) ++ (take 4 (drop 4 bytes) ++ value))) (sym front ∙ ap (little_bytes 2) (sym low))
    ∙ ap (λ word. u16_text lo ++ (word ++ (take 4 (drop 4 bytes) ++ value))) (sym middle ∙ ap (little_bytes 2) (sym high))
    ∙ ap (λ word. u16_text lo ++ (u16_text hi ++ (word ++ value))) (sym behind ∙ ap (little_bytes 4) (sym size))

-- ---- the parts of a subfield's text
pub lo_is : (s : Subfield) (rest : List ℕ) → s.lo < 2 ^ 16 → u16_at 0 (subfield_text s ++ rest) ≡ s.lo
unfolding u16_at subfield_text
lo_is s rest small = number_of_bytes 2 s.lo [] small

pub hi_is : (s : Subfield) (rest : List ℕ) → s.hi < 2 ^ 16 → u16_at 2 (subfield_text s ++ rest) ≡ s.hi
unfolding u16_at subfield_text
hi_is s rest small = number_of_bytes 2 s.hi [] small

pub size_is : (s : Subfield) (rest : List ℕ) → length s.value < 2 ^ 32 → u32_at 4 (subfield_text s ++ rest) ≡ length s.value
unfolding u32_at subfield_text
size_is s rest small = number_of_bytes 4 (length s.value) [] small

pub behind_head : (s : Subfield) (rest : List ℕ) → drop 8 (subfield_text s ++ rest) ≡ s.value ++ rest
unfolding subfield_text
behind_head s rest = refl

pub text_length : (s : Subfield) → length (subfield_text s) ≡ 8 + length s.value
unfolding subfield_text
text_length s = omega arith

-- one of many is no longer than all
pub one_fits : (subfields : List Subfield) (i : ℕ) (d : Subfield) → i < length subfields → length (subfields_text subfields) < 2 ^ 31 → length (get_or subfields i d).value < 2 ^ 31
one_fits subfields i d within small =
    omega (arith, length-flat_map-take subfield_text subfields i d within, text_length (get_or subfields i d))

-- one subfield more
pub one_more : (bytes : List ℕ) (subfields : List Subfield) (s : Subfield) (n : ℕ) (rest : List ℕ) → bytes ≡ subfields_text subfields ++ rest → take n rest ≡ subfield_text s → bytes ≡ subfields_text (subfields ++ s ∷ []) ++ drop n rest
one_more bytes subfields s n rest whole text =
    let one : subfields_text (s ∷ []) ≡ subfield_text s = append-nil (subfield_text s) in
    whole
    ∙ ap (λ r. subfields_text subfields ++ r) (sym (take-append-drop n rest) ∙ ap (λ t. t ++ drop n rest) (text ∙ sym one))
    ∙ sym (append_assoc (subfields_text subfields) (subfields_text (s ∷ [])) (drop n rest))
    ∙ ap (λ t. t ++ drop n rest) (sym (flat_map-append subfield_text subfields (s ∷ [])))

-- the bytes don't begin with a whole subfield
abbrev NotWhole : List ℕ → Type 0
NotWhole bytes = 8 ≤ length bytes → length bytes < 8 + u32_at 4 bytes

whole_front : (s : Subfield) (rest : List ℕ) → length (subfield_text s ++ rest) < 2 ^ 32 → ¬ NotWhole (subfield_text s ++ rest)
whole_front s rest small not_whole =
    let long : length (subfield_text s ++ rest) ≡ 8 + length s.value + length rest = length-append (subfield_text s) rest ∙ ap (λ n. n + length rest) (text_length s) in
    let size = size_is s rest (omega arith) in
    let short = not_whole (omega arith) in
    omega arith

tail_of : (s : Subfield) (subfields : List Subfield) → All IsSubfield (s ∷ subfields) → All IsSubfield subfields
tail_of s subfields all = λ k d within. all (suc k) d (omega arith)

record SameFront (xs ys : List Subfield) (r t : List ℕ) : Type 0 where
  subfields : xs ≡ ys
  rest : r ≡ t

record SameFirst (x y : Subfield) (r t : List ℕ) : Type 0 where
  first : x ≡ y
  behind : r ≡ t

same_first : (x y : Subfield) (r t : List ℕ) → IsSubfield x → IsSubfield y → length (subfield_text x ++ r) < 2 ^ 32 → subfield_text x ++ r ≡ subfield_text y ++ t → SameFirst x y r t
same_first x y r t ids_x ids_y small same =
    let long_x : length (subfield_text x ++ r) ≡ 8 + length x.value + length r = length-append (subfield_text x) r ∙ ap (λ n. n + length r) (text_length x) in
    let long_y : length (subfield_text y ++ t) ≡ 8 + length y.value + length t = length-append (subfield_text y) t ∙ ap (λ n. n + length t) (text_length y) in
    let lo : x.lo ≡ y.lo = sym (lo_is x r ids_x.0) ∙ ap (u16_at 0) same ∙ lo_is y t ids_y.0 in
    let hi : x.hi ≡ y.hi = sym (hi_is x r ids_x.1) ∙ ap (u16_at 2) same ∙ hi_is y t ids_y.1 in
    let total = ap length same in
    let len : length x.value ≡ length y.value = sym (size_is x r (omega arith)) ∙ ap (u32_at 4) same ∙ size_is y t (omega arith) in
    let values : x.value ++ r ≡ y.value ++ t = sym (behind_head x r) ∙ ap (drop 8) same ∙ behind_head y t in
    let value : x.value ≡ y.value = sym (take_at x.value r (length x.value) refl) ∙ ap (take (length x.value)) values ∙ take_at y.value t (length x.value) (sym len) in
    let behind : r ≡ t = sym (drop_at x.value r (length x.value) refl) ∙ ap (drop (length x.value)) values ∙ drop_at y.value t (length x.value) (sym len) in
    record { first = λ i. record { lo = lo i; hi = hi i; value = value i }; behind = behind }

-- bytes are subfields and what is no whole subfield in one way
same_front : (xs ys : List Subfield) (r t : List ℕ) → All IsSubfield xs → All IsSubfield ys → NotWhole r → NotWhole t → length (subfields_text xs ++ r) < 2 ^ 32 → subfields_text xs ++ r ≡ subfields_text ys ++ t → SameFront xs ys r t
same_front [] [] r t ids_x ids_y cut_r cut_t small same = record { subfields = refl; rest = same }
same_front [] (y ∷ ys) r t ids_x ids_y cut_r cut_t small same =
    let whole = same ∙ append_assoc (subfield_text y) (subfields_text ys) t in
    absurd (whole_front y (subfields_text ys ++ t) (subst (λ (b : List ℕ). length b < 2 ^ 32) whole small) (subst NotWhole whole cut_r))
same_front (x ∷ xs) [] r t ids_x ids_y cut_r cut_t small same =
    let whole = sym (append_assoc (subfield_text x) (subfields_text xs) r) in
    let tail = sym same ∙ sym whole in
    absurd (whole_front x (subfields_text xs ++ r) (subst (λ (b : List ℕ). length b < 2 ^ 32) (sym whole) small) (subst NotWhole tail cut_t))
same_front (x ∷ xs) (y ∷ ys) r t ids_x ids_y cut_r cut_t small same =
    let left = append_assoc (subfield_text x) (subfields_text xs) r in
    let right = append_assoc (subfield_text y) (subfields_text ys) t in
    let fits = subst (λ (b : List ℕ). length b < 2 ^ 32) left small in
    let head = same_first x y (subfields_text xs ++ r) (subfields_text ys ++ t) (ids_x 0 x (omega arith)) (ids_y 0 y (omega arith)) fits (sym left ∙ same ∙ right) in
    let others = same_front xs ys r t (tail_of x xs ids_x) (tail_of y ys ids_y) cut_r cut_t (omega (arith, fits, length-append (subfield_text x) (subfields_text xs ++ r))) head.behind in
    record { subfields = λ i. head.first i ∷ others.subfields i; rest = others.rest }

pub taken_length : (rest : List ℕ) (len : ℕ) → 8 ≤ len → len ≤ length rest → len ≡ 8 + u32_at 4 rest → length (take len rest) ≡ 8 + u32_at 4 (take len rest)
taken_length rest len long within is = omega (arith, length-take len rest, u32_at-take 4 len rest (omega arith))

take_to_end : (n : ℕ) (rest : List ℕ) → take (length rest - n) (drop n rest) ≡ drop n rest
take_to_end n rest = grind (arith, common_steps)

-- what the loop knows, one subfield later
pub one_more_read : (bytes : List ℕ) (subfields after : List Subfield) (s : Subfield) (len : ℕ) (rest : List ℕ) → bytes ≡ subfields_text subfields ++ rest → take len rest ≡ subfield_text s → after ≡ subfields ++ s ∷ [] → bytes ≡ subfields_text after ++ take (length rest - len) (drop len rest)
one_more_read bytes subfields after s len rest whole text added =
    rw (take_to_end len rest, added) (one_more bytes subfields s len rest whole text)

-- the two answers exclude one another, and each is one
only_read : (bytes : List ℕ) (xs ys : List Subfield) → length bytes < 2 ^ 31 → SubfieldsRead bytes xs → SubfieldsRead bytes ys → xs ≡ ys
only_read bytes xs ys small first second =
    let left : bytes ≡ subfields_text xs ++ [] = first.whole ∙ sym (append-nil (subfields_text xs)) in
    let right : bytes ≡ subfields_text ys ++ [] = second.whole ∙ sym (append-nil (subfields_text ys)) in
    let fits : length (subfields_text xs ++ []) < 2 ^ 32 = omega (arith, ap length left) in
    (same_front xs ys [] [] first.ids second.ids (λ long. omega arith) (λ long. omega arith) fits (sym left ∙ right)).subfields

read_or_cut : (bytes : List ℕ) (xs : List Subfield) (place : ℕ) → length bytes < 2 ^ 31 → SubfieldsRead bytes xs → PassesEnd bytes place → ⊥
read_or_cut bytes xs place small read passes =
    let left : bytes ≡ subfields_text xs ++ [] = read.whole ∙ sym (append-nil (subfields_text xs)) in
    let fits : length (subfields_text xs ++ []) < 2 ^ 32 = omega (arith, ap length left) in
    let none : [] ≡ passes.rest = (same_front xs passes.before [] passes.rest read.ids passes.ids (λ long. omega arith) passes.cut.short fits (sym left ∙ passes.whole)).rest in
    omega (arith, ap length none, passes.cut.some)

one_place : (bytes : List ℕ) (p q : ℕ) → length bytes < 2 ^ 31 → PassesEnd bytes p → PassesEnd bytes q → p ≡ q
one_place bytes p q small first second =
    let fits : length (subfields_text first.before ++ first.rest) < 2 ^ 32 = omega (arith, ap length first.whole) in
    let same = same_front first.before second.before first.rest second.rest first.ids second.ids first.cut.short second.cut.short fits (sym first.whole ∙ second.whole) in
    first.begins ∙ ap (λ xs. length (subfields_text xs)) same.subfields ∙ sym second.begins

-- where it reads as subfields, those are the answer
pub only_ok : (bytes : List ℕ) (r : Result (List Subfield) SubfieldError) → length bytes < 2 ^ 31 → IfOk r (SubfieldsRead bytes) → ((place : ℕ) → r ≡ Err (SubfieldEnd place) → PassesEnd bytes place) → (xs : List Subfield) → SubfieldsRead bytes xs → (r ≡ Ok xs) ⊎ (r ≡ Err OutOfMemory)
only_ok bytes (Ok ys) small ok fault xs read = inl (ap (λ zs. Ok zs) (only_read bytes ys xs small ok read))
only_ok bytes (Err (SubfieldEnd place)) small ok fault xs read = absurd (read_or_cut bytes xs place small read (fault place refl))
only_ok bytes (Err OutOfMemory) small ok fault xs read = inr refl

-- where a subfield passes the end, its place is the answer
pub only_fault : (bytes : List ℕ) (r : Result (List Subfield) SubfieldError) → length bytes < 2 ^ 31 → IfOk r (SubfieldsRead bytes) → ((place : ℕ) → r ≡ Err (SubfieldEnd place) → PassesEnd bytes place) → (place : ℕ) → PassesEnd bytes place → (r ≡ Err (SubfieldEnd place)) ⊎ (r ≡ Err OutOfMemory)
only_fault bytes (Ok ys) small ok fault place passes = absurd (read_or_cut bytes ys place small ok passes)
only_fault bytes (Err (SubfieldEnd q)) small ok fault place passes = inl (ap (λ p. Err (SubfieldEnd p)) (one_place bytes q place small (fault q refl) passes))
only_fault bytes (Err OutOfMemory) small ok fault place passes = inr refl
