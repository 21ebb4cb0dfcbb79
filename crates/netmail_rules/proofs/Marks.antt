-- A text split at the first or the last byte of a value, and the spaces at its ends.
use Rattle.std.proofs.Common.{◌≡◌, ◌≢◌, ℕ, suc, ◌+◌, ◌-◌, ◌<◌, Bool, true, false, not, cond, eqb, List, [], ◌∷◌, ◌++◌, length, get_or, take, drop, refl, sym, ap, ◌∙◌, subst, arith, length-append, eq-eqb, ne_eqb}
use Rattle.std.proofs.lemmas.Bool.Decides.{nat_tests}
use Rattle.std.proofs.lemmas.List.{take_at, drop_at, take_all, drop_all, get_or-append_right, get_or_push}
use Rattle.std.proofs.lemmas.List.Elements.{All-head, All-tail, All-cons, All-nil}
use Rattle.std.proofs.lemmas.List.Sums.{suffix_len_is}
use Rattle.std.specs.List.{All, prefix_len, suffix_len, before_last, after_last}
use Rattle.text_fields.specs.Blank.{IsBlank}
use Rattle.text_fields.specs.Split.{Lacks}
use Rattle.text_fields.specs.Trim.{BeginsWithNone, EndsWithNone}
use Rattle.text_fields.specs.declared.blank.Blank.TheVariants.{Spaces}
use Rattle.setup_file.specs.Words.{is_space, past_spaces}
use Rattle.jam_layout.specs.Address.{before, past}

-- ---- the first mark
prefix_at : (mark : ℕ) (front rest : List ℕ) → Lacks mark front → prefix_len (λ c. not (eqb c mark)) (front ++ mark ∷ rest) ≡ length front
prefix_at mark [] rest h = ap (λ b. cond (not b) (1 + prefix_len (λ c. not (eqb c mark)) rest) 0) (eq-eqb mark mark refl)
prefix_at mark (c ∷ front) rest h =
    ap (λ b. cond (not b) (1 + prefix_len (λ c. not (eqb c mark)) (front ++ mark ∷ rest)) 0) (ne_eqb c mark (All-head (λ b. b ≢ mark) c front h))
    ∙ omega (arith, prefix_at mark front rest (All-tail (λ b. b ≢ mark) c front h))

prefix_whole : (mark : ℕ) (text : List ℕ) → Lacks mark text → prefix_len (λ c. not (eqb c mark)) text ≡ length text
prefix_whole mark [] h = refl
prefix_whole mark (c ∷ text) h =
    ap (λ b. cond (not b) (1 + prefix_len (λ c. not (eqb c mark)) text) 0) (ne_eqb c mark (All-head (λ b. b ≢ mark) c text h))
    ∙ omega (arith, prefix_whole mark text (All-tail (λ b. b ≢ mark) c text h))

pub before_at : (mark : ℕ) (front rest : List ℕ) → Lacks mark front → before mark (front ++ mark ∷ rest) ≡ front
before_at mark front rest h = ap (λ n. take n (front ++ mark ∷ rest)) (prefix_at mark front rest h) ∙ take_at front (mark ∷ rest) (length front) refl

behind_mark : (mark : ℕ) (front rest : List ℕ) → drop (suc (length front)) (front ++ mark ∷ rest) ≡ rest
behind_mark mark [] rest = refl
behind_mark mark (c ∷ front) rest = behind_mark mark front rest

pub past_at : (mark : ℕ) (front rest : List ℕ) → Lacks mark front → past mark (front ++ mark ∷ rest) ≡ rest
past_at mark front rest h = ap (λ (xs : List ℕ). drop (suc (length xs)) (front ++ mark ∷ rest)) (before_at mark front rest h) ∙ behind_mark mark front rest

-- from the mark on
pub from_at : (mark : ℕ) (front rest : List ℕ) → Lacks mark front → drop (length (before mark (front ++ mark ∷ rest))) (front ++ mark ∷ rest) ≡ mark ∷ rest
from_at mark front rest h = ap (λ (xs : List ℕ). drop (length xs) (front ++ mark ∷ rest)) (before_at mark front rest h) ∙ drop_at front (mark ∷ rest) (length front) refl

pub before_whole : (mark : ℕ) (text : List ℕ) → Lacks mark text → before mark text ≡ text
before_whole mark text h = ap (λ n. take n text) (prefix_whole mark text h) ∙ take_all (length text) text (omega arith)

pub past_whole : (mark : ℕ) (text : List ℕ) → Lacks mark text → past mark text ≡ []
past_whole mark text h = ap (λ (xs : List ℕ). drop (suc (length xs)) text) (before_whole mark text h) ∙ drop_all (suc (length text)) text (omega arith)

pub from_whole : (mark : ℕ) (text : List ℕ) → Lacks mark text → drop (length (before mark text)) text ≡ []
from_whole mark text h = ap (λ (xs : List ℕ). drop (length xs) text) (before_whole mark text h) ∙ drop_all (length text) text (omega arith)

-- ---- the last mark
abbrev other : ℕ → ℕ → Bool
other mark b = not (eqb b mark)

other_true : (mark b : ℕ) → b ≢ mark → other mark b ≡ true
other_true mark b h = ap not (ne_eqb b mark h)

behind_last : (mark : ℕ) (front rest : List ℕ) → Lacks mark rest → suffix_len (other mark) (front ++ mark ∷ rest) ≡ length (front ++ mark ∷ rest) - (length front + 1)
behind_last mark front rest h =
    let len : length (front ++ mark ∷ rest) ≡ length front + (1 + length rest) = omega (arith, length-append front (mark ∷ rest)) in
    suffix_len_is (other mark) (front ++ mark ∷ rest) (length front + 1) mark (omega arith)
    (λ k le lt. other_true mark (get_or (front ++ mark ∷ rest) k mark) (λ same.
    let at : get_or (front ++ mark ∷ rest) k mark ≡ get_or (mark ∷ rest) (k - length front) mark = get_or-append_right front (mark ∷ rest) (length front) k mark refl (omega arith) in
    let next : k - length front ≡ suc (k - length front - 1) = omega arith in
    let in_rest : get_or (mark ∷ rest) (k - length front) mark ≡ get_or rest (k - length front - 1) mark = ap (λ i. get_or (mark ∷ rest) i mark) next in
    h (k - length front - 1) mark (omega arith) (sym in_rest ∙ (sym at ∙ same))))
    (λ some.
    let e : length front + 1 - 1 ≡ length front = omega arith in
    let zero_at : length front - length front ≡ 0 = omega arith in
    let at : get_or (front ++ mark ∷ rest) (length front) mark ≡ get_or (mark ∷ rest) (length front - length front) mark = get_or-append_right front (mark ∷ rest) (length front) (length front) mark refl (omega arith) in
    let here : get_or (front ++ mark ∷ rest) (length front + 1 - 1) mark ≡ mark = ap (λ i. get_or (front ++ mark ∷ rest) i mark) e ∙ (at ∙ ap (λ i. get_or (mark ∷ rest) i mark) zero_at) in
    ap not (eq-eqb _ mark here))

pub before_last_at : (mark : ℕ) (front rest : List ℕ) → Lacks mark rest → before_last (λ b. eqb b mark) (front ++ mark ∷ rest) ≡ front
before_last_at mark front rest h =
    let whole : List ℕ = front ++ mark ∷ rest in
    let n : length whole - suffix_len (other mark) whole - 1 ≡ length front = omega (arith, behind_last mark front rest h, length-append front (mark ∷ rest)) in
    ap (λ k. take k whole) n ∙ take_at front (mark ∷ rest) (length front) refl

pub after_last_at : (mark : ℕ) (front rest : List ℕ) → Lacks mark rest → after_last (λ b. eqb b mark) (front ++ mark ∷ rest) ≡ rest
after_last_at mark front rest h =
    let whole : List ℕ = front ++ mark ∷ rest in
    let n : length whole - suffix_len (other mark) whole ≡ suc (length front) = omega (arith, behind_last mark front rest h, length-append front (mark ∷ rest)) in
    ap (λ k. drop k whole) n ∙ behind_mark mark front rest

pub before_last_none : (mark : ℕ) (text : List ℕ) → Lacks mark text → before_last (λ b. eqb b mark) text ≡ []
before_last_none mark text h =
    let all : suffix_len (other mark) text ≡ length text - 0 = suffix_len_is (other mark) text 0 mark (omega arith) (λ k le lt. other_true mark (get_or text k mark) (h k mark lt)) (λ none. absurd (omega arith)) in
    let n : length text - suffix_len (other mark) text - 1 ≡ 0 = omega (arith, all) in
    ap (λ k. take k text) n

-- ---- spaces
abbrev IsSpace : ℕ → Type 0
IsSpace b = IsBlank Spaces b

pub space_first : (rest : List ℕ) → past_spaces (32 ∷ rest) ≡ past_spaces rest
space_first rest = ap (λ n. drop n (32 ∷ rest)) (let e : 1 + prefix_len is_space rest ≡ suc (prefix_len is_space rest) = omega arith in e)

pub no_space_first : (c : ℕ) (rest : List ℕ) → c ≢ 32 → past_spaces (c ∷ rest) ≡ c ∷ rest
no_space_first c rest unlike = ap (λ b. drop (cond b (1 + prefix_len is_space rest) 0) (c ∷ rest)) (ne_eqb c 32 unlike)

-- spaces at the front, and what begins with none
pub record FrontSpaces (text : List ℕ) : Type 0 where
  pub blank : List ℕ
  pub whole : text ≡ blank ++ past_spaces text
  pub spaces : All IsSpace blank
  pub begins : BeginsWithNone IsSpace (past_spaces text)

one_more : (c : ℕ) (rest : List ℕ) → c ≡ 32 → FrontSpaces rest → FrontSpaces (c ∷ rest)
one_more c rest is f =
    let same : past_spaces (c ∷ rest) ≡ past_spaces rest = ap (λ b. past_spaces (b ∷ rest)) is ∙ space_first rest in
    record {
      blank = c ∷ f.blank;
      whole = ap (λ xs. c ∷ xs) (f.whole ∙ ap (λ xs. f.blank ++ xs) (sym same));
      spaces = All-cons IsSpace c f.blank is f.spaces;
      begins = subst (BeginsWithNone IsSpace) (sym same) f.begins;
    }

no_more : (c : ℕ) (rest : List ℕ) → c ≢ 32 → FrontSpaces (c ∷ rest)
no_more c rest unlike =
    let same : past_spaces (c ∷ rest) ≡ c ∷ rest = no_space_first c rest unlike in
    record {
      blank = [];
      whole = sym same;
      spaces = All-nil IsSpace;
      begins = subst (BeginsWithNone IsSpace) (sym same) (λ first more e b. let is : c ≡ first = cc in unlike (is ∙ b));
    }

pub front_spaces : (text : List ℕ) → FrontSpaces text
front_spaces [] = record { blank = []; whole = refl; spaces = All-nil IsSpace; begins = λ first more e b. absurd (omega (arith, ap length e)) }
front_spaces (c ∷ rest) = elim (eqb c 32) as (λ b. eqb c 32 ≡ b → FrontSpaces (c ∷ rest)) [
  | true ↦ λ e. let is : c ≡ 32 = grind (arith, nat_tests) in one_more c rest is (front_spaces rest)
  | false ↦ λ e. let unlike : c ≢ 32 = grind (arith, nat_tests) in no_more c rest unlike
] refl

-- what begins with no space is what stands behind spaces
pub past_is : (blank text : List ℕ) → All IsSpace blank → BeginsWithNone IsSpace text → past_spaces (blank ++ text) ≡ text
past_is [] [] h none = refl
past_is [] (c ∷ text) h none = no_space_first c text (λ is. none c text refl is)
past_is (b ∷ blank) text h none =
    ap (λ c. past_spaces (c ∷ (blank ++ text))) (All-head IsSpace b blank h) ∙ (space_first (blank ++ text) ∙ past_is blank text (All-tail IsSpace b blank h) none)

-- what has no space at all ends with none
pub lacks_ends : (text : List ℕ) → Lacks 32 text → EndsWithNone IsSpace text
lacks_ends text lacks front last e is =
    let within : length front < length text = omega (arith, ap length e, length-append front (last ∷ [])) in
    let at : get_or text (length front) 0 ≡ last = ap (λ xs. get_or xs (length front) 0) e ∙ get_or_push front last 0 (length front) refl in
    lacks (length front) 0 within (at ∙ is)
