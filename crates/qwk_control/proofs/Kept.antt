-- From lines that keep their rules to the control file that they read as, or to its first fault.
use Rattle.std.proofs.Common.{◌≡◌, ℕ, zero, suc, ◌+◌, ◌-◌, ◌*◌, ◌<◌, ◌≤◌, List, [], ◌∷◌, ◌++◌, Some, length, get_or, drop, refl, sym, ap, ◌∙◌, subst, inl, inr, arith}
use Rattle.std.proofs.lemmas.Bool.{cases_lt}
use Rattle.std.proofs.lemmas.List.{length-drop}
use Rattle.std.specs.Borrow.{Bor}
use Rattle.std.specs.List.{slice_get}
use Rattle.qwk_control.specs.Line.{line, or_empty, texts, PlaceLine, IdLine}
use Rattle.qwk_control.specs.Control.{ListedRead, CountReads, ControlLinesRead}
use Rattle.qwk_control.specs.Fault.{IsNumberPlace, LineKeeps, KeepsUpto, BreaksUpto, BreaksLine, LineFault, KeptBefore, FaultBehind}
use Rattle.qwk_control.specs.declared.control.Control.{Control}
use Rattle.qwk_control.specs.declared.fault.ControlError.{ControlError}
use Rattle.qwk_control.specs.declared.fault.ControlError.TheVariants.{TooFewLines, BadNumber, BadBoardId}

pub some_once : {X : Type 0} (a b : X) → Some a ≡ Some b → a ≡ b
some_once a b e = cc

keeps_more : (all : List (List ℕ)) (i : ℕ) → KeepsUpto all i → LineKeeps all (i + 1) → KeepsUpto all (i + 1)
keeps_more all i h k j from upto = elim (cases_lt j (i + 1)) [
  | inl lt ↦ h j from (omega arith)
  | inr ge ↦ let e : i + 1 ≡ j = omega arith in subst (LineKeeps all) e k
]

-- the line that heads the lines from it on, and those behind it
head_there : (all : List (List ℕ)) (k : ℕ) (text : List ℕ) (rest : List (List ℕ)) → drop k all ≡ text ∷ rest → slice_get all k ≡ Some text
head_there [] zero text rest e = cc
head_there [] (suc k) text rest e = cc
head_there (x ∷ xs) zero text rest e = let h : x ≡ text = cc in ap Some h
head_there (x ∷ xs) (suc k) text rest e = head_there xs k text rest e

behind : (all : List (List ℕ)) (k : ℕ) (text : List ℕ) (rest : List (List ℕ)) → drop k all ≡ text ∷ rest → drop (suc k) all ≡ rest
behind [] zero text rest e = cc
behind [] (suc k) text rest e = cc
behind (x ∷ xs) zero text rest e = cc
behind (x ∷ xs) (suc k) text rest e = behind xs k text rest e

head_line : (all : List (List ℕ)) (k : ℕ) (text : List ℕ) (rest : List (List ℕ)) → drop k all ≡ text ∷ rest → line all (k + 1) ≡ Some text
head_line all k text rest e = let i : k + 1 - 1 ≡ k = omega arith in ap (slice_get all) i ∙ head_there all k text rest e

-- the borrowed lines, one by one
pub five_texts : (borrowed : List (Bor (List ℕ))) (other : Bor (List ℕ)) → length borrowed ≡ 5
    → texts borrowed ≡ (get_or borrowed 0 other).now ∷ (get_or borrowed 1 other).now ∷ (get_or borrowed 2 other).now ∷ (get_or borrowed 3 other).now ∷ (get_or borrowed 4 other).now ∷ []
five_texts [] other h = absurd (omega arith)
five_texts (a ∷ []) other h = absurd (omega arith)
five_texts (a ∷ b ∷ []) other h = absurd (omega arith)
five_texts (a ∷ b ∷ c ∷ []) other h = absurd (omega arith)
five_texts (a ∷ b ∷ c ∷ d ∷ []) other h = absurd (omega arith)
five_texts (a ∷ b ∷ c ∷ d ∷ e ∷ []) other h = refl
five_texts (a ∷ b ∷ c ∷ d ∷ e ∷ f ∷ rest) other h = absurd (omega arith)

pub six_texts : (borrowed : List (Bor (List ℕ))) (other : Bor (List ℕ)) → length borrowed ≡ 6
    → texts borrowed ≡ (get_or borrowed 0 other).now ∷ (get_or borrowed 1 other).now ∷ (get_or borrowed 2 other).now ∷ (get_or borrowed 3 other).now ∷ (get_or borrowed 4 other).now ∷ (get_or borrowed 5 other).now ∷ []
six_texts [] other h = absurd (omega arith)
six_texts (first ∷ borrowed) other h = ap (λ ls. first.now ∷ ls) (five_texts borrowed other (omega arith))

pub from_first : (all : List (List ℕ)) → KeptBefore all 0 all
from_first all = record { keeps = λ j from upto. absurd (omega arith); left = refl }

-- one line more, which keeps the rules of its place
one_more : (all : List (List ℕ)) (k : ℕ) (text : List ℕ) (rest : List (List ℕ)) → KeptBefore all k (text ∷ rest) → (k + 1 ≡ 5 → (serial id : List ℕ) × IdLine text serial id) → (IsNumberPlace (k + 1) → (n : ℕ) × PlaceLine text n) → KeptBefore all (k + 1) rest
one_more all k text rest h id number = record {
  keeps = keeps_more all k h.keeps (record { text = text; there = head_line all k text rest h.left; id = id; number = number });
  left = let e : k + 1 ≡ suc k = omega arith in ap (λ n. drop n all) e ∙ behind all k text rest h.left;
}

-- a place without a rule
abbrev IsPlain : ℕ → Type 0
IsPlain k = (k ≡ 5 → ⊥) × (IsNumberPlace k → ⊥)

plain_more : (all : List (List ℕ)) (k : ℕ) (text : List ℕ) (rest : List (List ℕ)) → KeptBefore all k (text ∷ rest) → IsPlain (k + 1) → KeptBefore all (k + 1) rest
plain_more all k text rest h plain = one_more all k text rest h (λ e. absurd (plain.0 e)) (λ p. absurd (plain.1 p))

early_plain : (k : ℕ) → k < 11 → (k ≡ 5 → ⊥) → IsPlain k
early_plain k lt other = (other, λ p. elim p [ inl e ↦ omega arith | inr j ↦ omega (arith, j.1) ])

name_plain : (i : ℕ) → IsPlain (11 + 2 * i + 1 + 1)
name_plain i = (λ e. omega arith, λ p. elim p [ inl e ↦ omega arith | inr j ↦ omega (arith, j.1) ])

not_fifth : (k : ℕ) → IsNumberPlace k → k ≡ 5 → ⊥
not_fifth k p e = elim p [ inl f ↦ omega arith | inr j ↦ omega (arith, j.1) ]

number_more : (all : List (List ℕ)) (k n : ℕ) (text : List ℕ) (rest : List (List ℕ)) → KeptBefore all k (text ∷ rest) → IsNumberPlace (k + 1) → PlaceLine text n → KeptBefore all (k + 1) rest
number_more all k n text rest h place number = one_more all k text rest h (λ e. absurd (not_fifth (k + 1) place e)) (λ p. (n, number))

-- the line after those that keep their rules breaks its own
breaks_next : (all : List (List ℕ)) (k upto : ℕ) (rest : List (List ℕ)) (fault : ControlError) → KeptBefore all k rest → k < upto → BreaksLine all (k + 1) fault → BreaksUpto all upto fault
breaks_next all k upto rest fault h lt b = (k + 1, omega arith, omega arith, λ j from below. h.keeps j from (omega arith), b)

too_few : (all : List (List ℕ)) (k upto : ℕ) → KeptBefore all k [] → k < upto → BreaksUpto all upto (TooFewLines (k + 1))
too_few all k upto h lt = breaks_next all k upto [] (TooFewLines (k + 1)) h lt (refl, omega (arith, length-drop k all, ap length h.left))

no_number : (all : List (List ℕ)) (k upto : ℕ) (text : List ℕ) (rest : List (List ℕ)) → KeptBefore all k (text ∷ rest) → k < upto → IsNumberPlace (k + 1) → ((n : ℕ) → PlaceLine text n → ⊥) → BreaksUpto all upto (BadNumber (k + 1))
no_number all k upto text rest h lt place none = breaks_next all k upto (text ∷ rest) (BadNumber (k + 1)) h lt (refl, place, (text, head_line all k text rest h.left, none))

-- the lines end among those without a rule
ends_early : (all : List (List ℕ)) (k upto : ℕ) (rest : List (List ℕ)) → KeptBefore all k rest → ((j : ℕ) → k < j → j < upto → IsPlain j) → k + length rest < upto → BreaksUpto all upto (TooFewLines (k + 1 + length rest))
ends_early all k upto [] h plain lt = let e : k + 1 ≡ k + 1 + 0 = omega arith in subst (λ (n : ℕ). BreaksUpto all upto (TooFewLines n)) e (too_few all k upto h (omega arith))
ends_early all k upto (text ∷ rest) h plain lt =
    let e : k + 1 + 1 + length rest ≡ k + 1 + suc (length rest) = omega arith in
    subst (λ (n : ℕ). BreaksUpto all upto (TooFewLines n)) e
    (ends_early all (k + 1) upto rest (plain_more all k text rest h (plain (k + 1) (omega arith) (omega arith))) (λ j from. plain j (omega arith)) (omega arith))

-- the board's lines
pub board_ends : (rest : List (List ℕ)) → length rest < 5 → FaultBehind 0 rest 5 (TooFewLines (1 + length rest))
board_ends rest lt all h = ends_early all 0 5 rest h (λ j from below. early_plain j (omega arith) (λ e. omega arith)) (omega arith)

four_more : (all : List (List ℕ)) (a b c d : List ℕ) (rest : List (List ℕ)) → KeptBefore all 0 (a ∷ b ∷ c ∷ d ∷ rest) → KeptBefore all 4 rest
four_more all a b c d rest h =
    let plain : (j : ℕ) → j < 5 → IsPlain j = λ j lt. early_plain j (omega arith) (λ e. omega arith) in
    let one : KeptBefore all 1 (b ∷ c ∷ d ∷ rest) = plain_more all 0 a (b ∷ c ∷ d ∷ rest) h (plain 1 (omega arith)) in
    let two : KeptBefore all 2 (c ∷ d ∷ rest) = plain_more all 1 b (c ∷ d ∷ rest) one (plain 2 (omega arith)) in
    plain_more all 3 d rest (plain_more all 2 c (d ∷ rest) two (plain 3 (omega arith))) (plain 4 (omega arith))

pub no_board_id : (a b c d text : List ℕ) (rest : List (List ℕ)) → ((serial id : List ℕ) → IdLine text serial id → ⊥) → FaultBehind 0 (a ∷ b ∷ c ∷ d ∷ text ∷ rest) 5 BadBoardId
no_board_id a b c d text rest none all h =
    let four : KeptBefore all 4 (text ∷ rest) = four_more all a b c d (text ∷ rest) h in
    breaks_next all 4 5 (text ∷ rest) BadBoardId four (omega arith) (refl, (text, head_line all 4 text rest four.left, none))

pub board_more : (all rest : List (List ℕ)) (a b c d text serial id : List ℕ) → all ≡ a ∷ b ∷ c ∷ d ∷ text ∷ rest → IdLine text serial id → KeptBefore all 5 rest
board_more all rest a b c d text serial id e i =
    one_more all 4 text rest (four_more all a b c d (text ∷ rest) (subst (KeptBefore all 0) e (from_first all))) (λ e. (serial, id, i)) (λ p. absurd (not_fifth 5 p refl))

-- the packet's lines
pub packet_ends : (rest : List (List ℕ)) → length rest < 6 → FaultBehind 5 rest 11 (TooFewLines (6 + length rest))
packet_ends rest lt all h = ends_early all 5 11 rest h (λ j from below. early_plain j below (λ e. omega arith)) (omega arith)

five_more : (all : List (List ℕ)) (a b c d e : List ℕ) (rest : List (List ℕ)) → KeptBefore all 5 (a ∷ b ∷ c ∷ d ∷ e ∷ rest) → KeptBefore all 10 rest
five_more all a b c d e rest h =
    let plain : (j : ℕ) → 5 < j → j < 11 → IsPlain j = λ j from lt. early_plain j lt (λ e. omega arith) in
    let six : KeptBefore all 6 (b ∷ c ∷ d ∷ e ∷ rest) = plain_more all 5 a (b ∷ c ∷ d ∷ e ∷ rest) h (plain 6 (omega arith) (omega arith)) in
    let seven : KeptBefore all 7 (c ∷ d ∷ e ∷ rest) = plain_more all 6 b (c ∷ d ∷ e ∷ rest) six (plain 7 (omega arith) (omega arith)) in
    let eight : KeptBefore all 8 (d ∷ e ∷ rest) = plain_more all 7 c (d ∷ e ∷ rest) seven (plain 8 (omega arith) (omega arith)) in
    plain_more all 9 e rest (plain_more all 8 d (e ∷ rest) eight (plain 9 (omega arith) (omega arith))) (plain 10 (omega arith) (omega arith))

pub no_last : (a b c d e text : List ℕ) (rest : List (List ℕ)) → ((n : ℕ) → PlaceLine text n → ⊥) → FaultBehind 5 (a ∷ b ∷ c ∷ d ∷ e ∷ text ∷ rest) 11 (BadNumber 11)
no_last a b c d e text rest none all h = no_number all 10 11 text rest (five_more all a b c d e (text ∷ rest) h) (omega arith) (inl refl) none

pub packet_more : (all rest more : List (List ℕ)) (a b c d e text : List ℕ) (n : ℕ) → KeptBefore all 5 rest → rest ≡ a ∷ b ∷ c ∷ d ∷ e ∷ text ∷ more → PlaceLine text n → KeptBefore all 11 more
packet_more all rest more a b c d e text n h same number = number_more all 10 n text more (five_more all a b c d e (text ∷ more) (subst (KeptBefore all 5) same h)) (inl refl) number

-- the lines of a conference
number_place : (i : ℕ) → IsNumberPlace (11 + 2 * i + 1)
number_place i = inr (i, omega arith)

first_more : (all : List (List ℕ)) (i n : ℕ) (text : List ℕ) (rest more : List (List ℕ)) → KeptBefore all (11 + 2 * i) rest → rest ≡ text ∷ more → PlaceLine text n → KeptBefore all (11 + 2 * i + 1) more
first_more all i n text rest more h e number = number_more all (11 + 2 * i) n text more (subst (KeptBefore all (11 + 2 * i)) e h) (number_place i) number

pub no_first : (i : ℕ) (rest : List (List ℕ)) → rest ≡ [] → FaultBehind (11 + 2 * i) rest (13 + 2 * i) (TooFewLines (12 + 2 * i))
no_first i rest e all h =
    let k : 11 + 2 * i + 1 ≡ 12 + 2 * i = omega arith in
    subst (λ (n : ℕ). BreaksUpto all (13 + 2 * i) (TooFewLines n)) k (too_few all (11 + 2 * i) (13 + 2 * i) (subst (KeptBefore all (11 + 2 * i)) e h) (omega arith))

pub bad_first : (i : ℕ) (text : List ℕ) (rest more : List (List ℕ)) → rest ≡ text ∷ more → ((n : ℕ) → PlaceLine text n → ⊥) → FaultBehind (11 + 2 * i) rest (13 + 2 * i) (BadNumber (12 + 2 * i))
bad_first i text rest more e none all h =
    let k : 11 + 2 * i + 1 ≡ 12 + 2 * i = omega arith in
    subst (λ (n : ℕ). BreaksUpto all (13 + 2 * i) (BadNumber n)) k (no_number all (11 + 2 * i) (13 + 2 * i) text more (subst (KeptBefore all (11 + 2 * i)) e h) (omega arith) (number_place i) none)

pub no_name : (i n : ℕ) (text : List ℕ) (rest more : List (List ℕ)) → rest ≡ text ∷ more → PlaceLine text n → more ≡ [] → FaultBehind (11 + 2 * i) rest (13 + 2 * i) (TooFewLines (12 + 2 * i + 1))
no_name i n text rest more e number none all h =
    let k : 11 + 2 * i + 1 + 1 ≡ 12 + 2 * i + 1 = omega arith in
    subst (λ (m : ℕ). BreaksUpto all (13 + 2 * i) (TooFewLines m)) k (too_few all (11 + 2 * i + 1) (13 + 2 * i) (subst (KeptBefore all (11 + 2 * i + 1)) none (first_more all i n text rest more h e number)) (omega arith))

pub conference_more : (all : List (List ℕ)) (i n : ℕ) (text name : List ℕ) (rest more : List (List ℕ)) → KeptBefore all (11 + 2 * i) rest → rest ≡ text ∷ name ∷ more → PlaceLine text n → KeptBefore all (11 + 2 * (i + 1)) more
conference_more all i n text name rest more h e number =
    let k : 11 + 2 * i + 1 + 1 ≡ 11 + 2 * (i + 1) = omega arith in
    subst (λ (m : ℕ). KeptBefore all m more) k (plain_more all (11 + 2 * i + 1) name more (first_more all i n text rest (name ∷ more) h e number) (name_plain i))

pub conference_push : (all : List (List ℕ)) (cs : List (ℕ × List ℕ)) (number name : List ℕ) (more : List (List ℕ)) (n : ℕ) → ListedRead all cs (number ∷ name ∷ more) → PlaceLine number n → ListedRead all (cs ++ (n, name) ∷ []) more
conference_push all [] number name more n p q = (number, more, p, q, refl)
conference_push all (c ∷ cs) number name more n p q = (p.0, p.1, p.2, p.3, conference_push p.1 cs number name more n p.4 q)

-- the first fault of a file
pub within_more : (all : List (List ℕ)) (m n : ℕ) (fault : ControlError) → m ≤ n → BreaksUpto all m fault → BreaksUpto all n fault
within_more all m n fault le b = (b.0, b.1, omega (arith, b.2), b.3, b.4)

pub early_fault : (all : List (List ℕ)) (upto : ℕ) (fault : ControlError) → upto ≤ 11 → BreaksUpto all upto fault → LineFault all fault
early_fault all upto fault le b = (b.0, b.1, inl (omega (arith, b.2)), b.3, b.4)

pub late_fault : (all : List (List ℕ)) (text : List ℕ) (n : ℕ) (fault : ControlError) → line all 11 ≡ Some text → PlaceLine text n → BreaksUpto all (13 + 2 * n) fault → LineFault all fault
late_fault all text n fault there last b = (b.0, b.1, inr (text, n, there, last, b.2), b.3, b.4)

-- the value of a file
pub lines_read : (all listed rest : List (List ℕ)) (board city phone sysop fifth serial id stamp user menu ninth tenth eleventh : List ℕ) (count n : ℕ) (conferences : List (ℕ × List ℕ)) (c : Control)
    → all ≡ board ∷ city ∷ phone ∷ sysop ∷ fifth ∷ stamp ∷ user ∷ menu ∷ ninth ∷ tenth ∷ eleventh ∷ listed → IdLine fifth serial id → CountReads tenth count → PlaceLine eleventh n
    → length conferences ≡ n + 1 → ListedRead listed conferences rest
    → (c.board ≡ board) × (c.city ≡ city) × (c.phone ≡ phone) × (c.sysop ≡ sysop) × (c.serial ≡ serial) × (c.bbsid ≡ id) → (c.stamp ≡ stamp) × (c.user ≡ user) × (c.menu ≡ menu) × (c.count ≡ count)
    → c.conferences ≡ conferences → (c.welcome ≡ or_empty rest 1) × (c.news ≡ or_empty rest 2) × (c.goodbye ≡ or_empty rest 3) → ControlLinesRead all c
lines_read all listed rest board city phone sysop fifth serial id stamp user menu ninth tenth eleventh count n conferences c whole is_id counted last len read boards packets same files =
    let a1 : c.board ≡ board = boards.0 in
    let a2 : c.city ≡ city = boards.1 in
    let a3 : c.phone ≡ phone = boards.2 in
    let a4 : c.sysop ≡ sysop = boards.3 in
    let a6 : c.stamp ≡ stamp = packets.0 in
    let a7 : c.user ≡ user = packets.1 in
    let a8 : c.menu ≡ menu = packets.2 in
    let many : n ≡ length c.conferences - 1 = omega (arith, ap length same) in
    record {
      fifth = fifth;
      ninth = ninth;
      tenth = tenth;
      eleventh = eleventh;
      listed = listed;
      rest = rest;
      whole = cc;
      id = subst (λ (s : List ℕ). IdLine fifth s c.bbsid) (sym boards.4) (subst (λ (i : List ℕ). IdLine fifth serial i) (sym boards.5) is_id);
      counted = subst (CountReads tenth) (sym packets.3) counted;
      last = subst (PlaceLine eleventh) many last;
      some = omega (arith, ap length same);
      conferences = subst (λ (cs : List (ℕ × List ℕ)). ListedRead listed cs rest) (sym same) read;
      welcome = files.0;
      news = files.1;
      goodbye = files.2;
    }
