-- What a trim leaves, and words between spaces.
use Rattle.std.proofs.Common.{◌≡◌, ◌≢◌, ℕ, suc, ◌+◌, ◌-◌, Bool, true, false, not, eqb, List, [], ◌∷◌, ◌++◌, length, get_or, take, drop, refl, sym, ap, ◌∙◌, subst, arith, length-append, append_assoc, eq-eqb, ne_eqb}
use Rattle.std.proofs.lemmas.Bool.Decides.{nat_tests}
use Rattle.std.proofs.lemmas.List.{take_at, drop_at, take_all, append-nil, get_or_append_left, get_or-append_right}
use Rattle.std.proofs.lemmas.List.Elements.{All-append}
use Rattle.std.proofs.lemmas.List.Splits.{slice_split_at, slice_split_none}
use Rattle.std.proofs.lemmas.List.Sums.{suffix_len_is}
use Rattle.std.specs.List.{All, prefix_len, suffix_len, slice_split}
use Rattle.text_fields.specs.Blank.{IsBlank}
use Rattle.text_fields.specs.Split.{Lacks}
use Rattle.text_fields.specs.Trim.{EndsWithNone, Trimmed, TrimmedEnd}
use Rattle.text_fields.specs.declared.blank.Blank.TheVariants.{Spaces}
use Rattle.text_fields.proofs.Trimming.{last_split}
use Rattle.setup_file.specs.Words.{is_space, past_spaces, before_spaces, trim, first_word, behind_word, words}

abbrev IsSpace : ℕ → Type 0
IsSpace b = IsBlank Spaces b

abbrev not_space : ℕ → Bool
not_space b = not (is_space b)

-- spaces up to a place, at which stands none
prefix_at : (before rest : List ℕ) → All IsSpace before → ((first : ℕ) (more : List ℕ) → rest ≡ first ∷ more → IsSpace first → ⊥) → prefix_len is_space (before ++ rest) ≡ length before
prefix_at [] [] h none = refl
prefix_at [] (x ∷ rest) h none = let no : x ≢ 32 = none x rest refl in grind (arith, nat_tests)
prefix_at (b ∷ before) rest h none =
    let is : b ≡ 32 = h 0 0 (omega arith) in
    let more : prefix_len is_space (before ++ rest) ≡ length before = prefix_at before rest (λ k d lt. h (suc k) d (omega arith)) none in
    grind (arith, nat_tests)

trim_from : (text front : List ℕ) → past_spaces text ≡ front → trim text ≡ before_spaces front
unfolding trim
trim_from text front e = ap before_spaces e

-- spaces alone leave nothing
blank_trim : (gap : List ℕ) → All IsSpace gap → trim gap ≡ []
blank_trim gap h =
    let whole : prefix_len is_space (gap ++ []) ≡ length gap = prefix_at gap [] h (λ first more e b. absurd (omega (arith, ap length e))) in
    let all : prefix_len is_space gap ≡ length gap = subst (λ (l : List ℕ). prefix_len is_space l ≡ length gap) (append-nil gap) whole in
    let none : drop (length gap) gap ≡ [] = ap (drop (length gap)) (sym (append-nil gap)) ∙ drop_at gap [] (length gap) refl in
    trim_from gap [] (ap (λ n. drop n gap) all ∙ none)

-- spaces at the end, behind a text that ends with none
suffix_at : (text after : List ℕ) → All IsSpace after → EndsWithNone IsSpace text → suffix_len is_space (text ++ after) ≡ length (text ++ after) - length text
suffix_at text after h ends =
    suffix_len_is is_space (text ++ after) (length text) 0 (omega (arith, length-append text after))
    (λ k le lt. eq-eqb (get_or (text ++ after) k 0) 32 (get_or-append_right text after (length text) k 0 refl le ∙ h (k - length text) 0 (omega (arith, length-append text after))))
    (λ some. ne_eqb (get_or (text ++ after) (length text - 1) 0) 32
    (λ e. ends _ _ (last_split text some) (sym (get_or_append_left text after 0 (length text - 1) (omega arith)) ∙ e)))

-- what ends with no space is what stands before spaces
pub before_is : (text after : List ℕ) → All IsSpace after → EndsWithNone IsSpace text → before_spaces (text ++ after) ≡ text
before_is text after h ends =
    let n : length (text ++ after) - suffix_len is_space (text ++ after) ≡ length text = omega (arith, suffix_at text after h ends, length-append text after) in
    ap (λ k. take k (text ++ after)) n ∙ take_at text after (length text) refl

pub trimmed_is : (field text : List ℕ) → TrimmedEnd IsSpace field text → before_spaces field ≡ text
trimmed_is field text t = ap before_spaces t.whole ∙ before_is text t.pad t.blank t.ends

-- what has no space at either end, between spaces, is what a trim leaves
pub trim_is : (text value : List ℕ) → Trimmed IsSpace text value → value ≡ trim text
trim_is text [] t =
    let e : text ≡ t.before ++ t.after = t.whole ∙ append_assoc t.before [] t.after in
    sym (ap trim e ∙ blank_trim (t.before ++ t.after) (All-append IsSpace t.before t.after t.blank_before t.blank_after))
trim_is text (x ∷ xs) t =
    let e : text ≡ t.before ++ ((x ∷ xs) ++ t.after) = t.whole ∙ append_assoc t.before (x ∷ xs) t.after in
    let n : prefix_len is_space (t.before ++ ((x ∷ xs) ++ t.after)) ≡ length t.before
    = prefix_at t.before ((x ∷ xs) ++ t.after) t.blank_before (λ first more is b. let same : x ≡ first = cc in t.begins x xs refl (same ∙ b)) in
    let front : past_spaces (t.before ++ ((x ∷ xs) ++ t.after)) ≡ (x ∷ xs) ++ t.after
    = ap (λ k. drop k (t.before ++ ((x ∷ xs) ++ t.after))) n ∙ drop_at t.before ((x ∷ xs) ++ t.after) (length t.before) refl in
    sym (ap trim e ∙ (trim_from (t.before ++ ((x ∷ xs) ++ t.after)) ((x ∷ xs) ++ t.after) front ∙ before_is (x ∷ xs) t.after t.blank_after t.ends))

-- a space more at the front changes nothing
space_first : (rest : List ℕ) → trim (32 ∷ rest) ≡ trim rest
unfolding trim
space_first rest = ap before_spaces (ap (λ n. drop n (32 ∷ rest)) (let e : 1 + prefix_len is_space rest ≡ suc (prefix_len is_space rest) = omega arith in e))

-- a word ends at the first space
word_at : (word rest : List ℕ) → Lacks 32 word → prefix_len not_space (word ++ 32 ∷ rest) ≡ length word
word_at [] rest h = refl
word_at (b ∷ word) rest h =
    let no : b ≢ 32 = h 0 0 (omega arith) in
    let more : prefix_len not_space (word ++ 32 ∷ rest) ≡ length word = word_at word rest (λ k d lt. h (suc k) d (omega arith)) in
    grind (arith, nat_tests)

word_whole : (word : List ℕ) → Lacks 32 word → prefix_len not_space word ≡ length word
word_whole [] h = refl
word_whole (b ∷ word) h =
    let no : b ≢ 32 = h 0 0 (omega arith) in
    let more : prefix_len not_space word ≡ length word = word_whole word (λ k d lt. h (suc k) d (omega arith)) in
    grind (arith, nat_tests)

pub first_is : (word rest : List ℕ) → Lacks 32 word → first_word (word ++ 32 ∷ rest) ≡ word
unfolding first_word
first_is word rest h = ap (λ n. take n (word ++ 32 ∷ rest)) (word_at word rest h) ∙ take_at word (32 ∷ rest) (length word) refl

pub first_whole : (word : List ℕ) → Lacks 32 word → first_word word ≡ word
unfolding first_word
first_whole word h = ap (λ n. take n word) (word_whole word h) ∙ take_all (length word) word (omega arith)

pub behind_is : (word rest : List ℕ) → Lacks 32 word → behind_word (word ++ 32 ∷ rest) ≡ trim rest
unfolding behind_word
behind_is word rest h =
    ap (λ (w : List ℕ). trim (drop (length w) (word ++ 32 ∷ rest))) (first_is word rest h) ∙ (ap trim (drop_at word (32 ∷ rest) (length word) refl) ∙ space_first rest)

pub behind_whole : (word : List ℕ) → Lacks 32 word → behind_word word ≡ []
unfolding behind_word
behind_whole word h =
    let none : drop (length word) word ≡ [] = ap (drop (length word)) (sym (append-nil word)) ∙ drop_at word [] (length word) refl in
    ap (λ (w : List ℕ). trim (drop (length w) word)) (first_whole word h) ∙ (ap trim none ∙ blank_trim [] (λ k d lt. absurd (omega arith)))

-- words, one at a time
lacks_test : (word : List ℕ) → Lacks 32 word → All (λ b. is_space b ≡ false) word
lacks_test word h = λ k d lt. ne_eqb (get_or word k d) 32 (h k d lt)

pub words_first : (word rest : List ℕ) → Lacks 32 word → length word ≢ 0 → words (word ++ 32 ∷ rest) ≡ word ∷ words rest
unfolding words
words_first word rest h some =
    let parts : slice_split is_space (word ++ 32 ∷ rest) ≡ word ∷ slice_split is_space rest = slice_split_at is_space word 32 rest (lacks_test word h) refl in
    let test : eqb (length word) 0 ≡ false = ne_eqb (length word) 0 some in
    rw (parts, test) refl

pub words_next : (word rest : List ℕ) → Lacks 32 word → length word ≡ 0 → words (word ++ 32 ∷ rest) ≡ words rest
unfolding words
words_next word rest h none =
    let parts : slice_split is_space (word ++ 32 ∷ rest) ≡ word ∷ slice_split is_space rest = slice_split_at is_space word 32 rest (lacks_test word h) refl in
    let test : eqb (length word) 0 ≡ true = eq-eqb (length word) 0 none in
    rw (parts, test) refl

pub words_last : (word : List ℕ) → Lacks 32 word → length word ≢ 0 → words word ≡ word ∷ []
unfolding words
words_last word h some =
    let parts : slice_split is_space word ≡ word ∷ [] = slice_split_none is_space word (lacks_test word h) in
    let test : eqb (length word) 0 ≡ false = ne_eqb (length word) 0 some in
    rw (parts, test) refl

pub no_words : (word : List ℕ) → Lacks 32 word → length word ≡ 0 → words word ≡ []
unfolding words
no_words word h none =
    let parts : slice_split is_space word ≡ word ∷ [] = slice_split_none is_space word (lacks_test word h) in
    let test : eqb (length word) 0 ≡ true = eq-eqb (length word) 0 none in
    rw (parts, test) refl
