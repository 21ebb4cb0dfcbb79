-- The lines of a text, one at a time.
use Rattle.std.proofs.Common.{◌≡◌, ◌≢◌, ℕ, ◌-◌, ◌<◌, Bool, true, false, cond, eqb, List, [], ◌∷◌, ◌++◌, length, length-append, get_or, take, refl, sym, ap, ◌∙◌, arith, append_assoc, eq-eqb, ne_eqb}
use Rattle.std.proofs.lemmas.List.{append-nil, get_or_push, take_at}
use Rattle.std.proofs.lemmas.List.Elements.{All-head, All-tail, All-push}
use Rattle.std.proofs.lemmas.List.Splits.{slice_split_at, slice_split_none}
use Rattle.std.proofs.lemmas.Bool.Decides.{nat_tests}
use Rattle.std.specs.List.{All, slice_split, onto_first}
use Rattle.text_fields.specs.Lines.{text_of_lines}
use Rattle.text_fields.specs.Split.{Lacks, SplitsAt}
use Rattle.std.specs.Str.Lines.{lines, lines_of_parts, strip_carriage_return}

onto_some : (x : ℕ) (parts : List (List ℕ)) → (part : List ℕ) × (more : List (List ℕ)) × (onto_first x parts ≡ part ∷ more)
onto_some x [] = (x ∷ [], [], refl)
onto_some x (part ∷ parts) = (x ∷ part, parts, refl)

-- a split has a first part
some_part : (p : ℕ → Bool) (xs : List ℕ) → (part : List ℕ) × (parts : List (List ℕ)) × (slice_split p xs ≡ part ∷ parts)
some_part p [] = ([], [], refl)
some_part p (x ∷ xs) = elim (p x) as (λ b. (part : List ℕ) × (parts : List (List ℕ)) × (cond b ([] ∷ slice_split p xs) (onto_first x (slice_split p xs)) ≡ part ∷ parts)) [
  | true ↦ ([], slice_split p xs, refl)
  | false ↦ onto_some x (slice_split p xs)
]

-- the first line, and those of the rest
first_line : (xs ys : List ℕ) → All (λ b. eqb b 10 ≡ false) xs → lines (xs ++ 10 ∷ ys) ≡ strip_carriage_return xs ∷ lines ys
first_line xs ys h =
    let s : (part : List ℕ) × (parts : List (List ℕ)) × (slice_split (λ b. eqb b 10) ys ≡ part ∷ parts) = some_part (λ b. eqb b 10) ys in
    ap lines_of_parts (slice_split_at (λ b. eqb b 10) xs 10 ys h refl ∙ ap (λ zs. xs ∷ zs) s.2)
    ∙ ap (λ zs. strip_carriage_return xs ∷ lines_of_parts zs) (sym s.2)

last_line : (xs : List ℕ) → 0 < length xs → All (λ b. eqb b 10 ≡ false) xs → lines xs ≡ xs ∷ []
last_line xs some h =
    let e : eqb (length xs) 0 ≡ false = grind (arith, nat_tests) in
    ap lines_of_parts (slice_split_none (λ b. eqb b 10) xs h) ∙ ap (λ (b : Bool). cond b [] (xs ∷ [])) e

no_feed : (xs : List ℕ) → Lacks 10 xs → All (λ b. eqb b 10 ≡ false) xs
no_feed xs h i d lt = ne_eqb _ 10 (h i d lt)

-- the line before the first line feed
pub line_first : (text line rest : List ℕ) → SplitsAt 10 text line rest → lines text ≡ strip_carriage_return line ∷ lines rest
line_first text line rest split = ap lines split.whole ∙ first_line line rest (no_feed line split.first)

-- the line without a line feed
pub line_last : (text : List ℕ) → 0 < length text → Lacks 10 text → lines text ≡ text ∷ []
line_last text some clear = last_line text some (no_feed text clear)

-- one line more
pub goes_on : (text rest line after : List ℕ) (all new : List (List ℕ)) → lines text ≡ all ++ lines rest → lines rest ≡ line ∷ lines after
    → new ≡ all ++ line ∷ [] → lines text ≡ new ++ lines after
goes_on text rest line after all new so_far next e =
    so_far ∙ (ap (λ zs. all ++ zs) next ∙ (sym (append_assoc all (line ∷ []) (lines after)) ∙ ap (λ zs. zs ++ lines after) (sym e)))

pub none_is_left : (text rest : List ℕ) (all : List (List ℕ)) → lines text ≡ all ++ lines rest → lines rest ≡ [] → all ≡ lines text
none_is_left text rest all so_far none = sym (so_far ∙ (ap (λ zs. all ++ zs) none ∙ append-nil all))

-- a carriage return at the end is dropped
strip_push : (xs : List ℕ) → strip_carriage_return (xs ++ 13 ∷ []) ≡ xs
strip_push xs =
    let l : List ℕ = xs ++ 13 ∷ [] in
    let n : length l - 1 ≡ length xs = omega (arith, length-append xs (13 ∷ [])) in
    let last : get_or l (length l - 1) 0 ≡ 13 = ap (λ k. get_or l k 0) n ∙ get_or_push xs 13 0 (length xs) refl in
    ap (λ (b : Bool). cond b (take (length l - 1) l) l) (eq-eqb (get_or l (length l - 1) 0) 13 last) ∙ (ap (λ k. take k l) n ∙ take_at xs (13 ∷ []) (length xs) refl)

push_no_feed : (xs : List ℕ) → Lacks 10 xs → Lacks 10 (xs ++ 13 ∷ [])
push_no_feed xs h = All-push (λ b. b ≢ 10) xs 13 h (λ e. omega arith)

-- lines that are written read back
pub lines_back : (all : List (List ℕ)) → All (Lacks 10) all → lines (text_of_lines all) ≡ all
lines_back [] h = refl
lines_back (x ∷ xs) h =
    let e : text_of_lines (x ∷ xs) ≡ (x ++ 13 ∷ []) ++ 10 ∷ text_of_lines xs = append_assoc x (13 ∷ 10 ∷ []) (text_of_lines xs) ∙ sym (append_assoc x (13 ∷ []) (10 ∷ text_of_lines xs)) in
    let clear : Lacks 10 (x ++ 13 ∷ []) = push_no_feed x (All-head (Lacks 10) x xs h) in
    let s : strip_carriage_return (x ++ 13 ∷ []) ≡ x = strip_push x in
    let r : lines (text_of_lines xs) ≡ xs = lines_back xs (All-tail (Lacks 10) x xs h) in
    ap lines e ∙ (first_line (x ++ 13 ∷ []) (text_of_lines xs) (no_feed (x ++ 13 ∷ []) clear) ∙ (ap (λ l. l ∷ lines (text_of_lines xs)) s ∙ ap (λ ls. x ∷ ls) r))
