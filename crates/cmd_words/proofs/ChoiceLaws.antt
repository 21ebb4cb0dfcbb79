-- A word is one choice at most, and the places of the conferences that it names are some, and none past the last.
use Rattle.std.proofs.Common.{◌≡◌, ◌⊎◌, inl, inr, ⊎_elim, ℕ, ◌+◌, ◌*◌, ◌^◌, ◌≤◌, ◌<◌, Bool, true, false, ◌||◌, not, cond, eqb, List, [], ◌∷◌, length, suc, refl, sym, ◌∙◌, ap, subst, arith}
use Rattle.std.proofs.Math.Nat.{pow-suc}
use Rattle.std.proofs.lemmas.Nat.{pow_pos}
use Rattle.std.proofs.lemmas.Bool.{cond-true, and_parts, eqb-true, eq-eqb}
use Rattle.std.proofs.lemmas.Str.Parse.{digit_at}
use Rattle.std.specs.Prelude.{codes}
use Rattle.std.specs.List.{AllZip, list_all, list_any, onto_first, slice_split}
use Rattle.setup_file.specs.declared.conference.Conference.{Conference}
use Rattle.cmd_words.specs.Choice.{ChoiceReads, is_chosen, is_known, has_unknown, place_bit, chosen_from}
use Rattle.cmd_words.specs.NumberWord.{NumberWord, JoinedNumbers}
use Rattle.text_fields.proofs.Numbers.{digits_unique}
use Rattle.cmd_words.specs.declared.choice.Choice.{Choice}
use Rattle.cmd_words.specs.declared.choice.Choice.TheVariants.{Every, Numbers}

-- ---- none past the last
bit_most : (b : Bool) (n : ℕ) → cond b n 0 ≤ n
bit_most true n = omega arith
bit_most false n = omega arith

few_from : (choice : Choice) (place : ℕ) (cs : List Conference) → chosen_from choice place cs + 2 ^ place ≤ 2 ^ (place + length cs)
few_from choice place [] = let same : 2 ^ (place + 0) ≡ 2 ^ place = ap (λ n. 2 ^ n) (omega arith) in omega (arith, same)
few_from choice place (c ∷ cs) =
    let others = few_from choice (place + 1) cs in
    let here = bit_most (is_chosen choice c.number) (2 ^ place) in
    let next : 2 ^ (place + 1) ≡ 2 ^ place * 2 = ap (λ n. 2 ^ n) {x = place + 1} {y = suc place} (omega arith) ∙ pow-suc 2 place in
    let same : 2 ^ (place + 1 + length cs) ≡ 2 ^ (place + length (c ∷ cs)) = ap (λ n. 2 ^ n) (omega arith) in
    omega (arith, others, here, next, same)

pub few_places : (choice : Choice) (cs : List Conference) → chosen_from choice 0 cs < 2 ^ length cs
few_places choice cs =
    let most = few_from choice 0 cs in
    let same : 2 ^ (0 + length cs) ≡ 2 ^ length cs = ap (λ n. 2 ^ n) (omega arith) in
    omega (arith, most, same)

-- ---- one at least
chosen_bit : (choice : Choice) (place : ℕ) (c : Conference) → is_chosen choice c.number ≡ true → 0 < place_bit choice place c
chosen_bit choice place c is = let whole : place_bit choice place c ≡ 2 ^ place = cond-true (is_chosen choice c.number) (2 ^ place) 0 is in omega (arith, whole, pow_pos place)

or_cases : (a b : Bool) → (a || b) ≡ true → (a ≡ true) ⊎ (b ≡ true)
or_cases true b e = inl refl
or_cases false b e = inr e

known_place : (choice : Choice) (n place : ℕ) (cs : List Conference) → is_chosen choice n ≡ true → is_known cs n ≡ true → 0 < chosen_from choice place cs
known_place choice n place [] chosen known = absurd cc
known_place choice n place (c ∷ cs) chosen known = ⊎_elim
    (λ here. let bit = chosen_bit choice place c (subst (λ m. is_chosen choice m ≡ true) (sym (eqb-true c.number n here)) chosen) in omega (arith, bit))
    (λ later. let others = known_place choice n (place + 1) cs chosen later in omega (arith, others))
    (or_cases (eqb c.number n) (is_known cs n) known)

-- a text joined by commas has a first word
some_part : (text : List ℕ) → slice_split (λ b. eqb b 0x2C) text ≡ [] → ⊥
some_part [] e = absurd (cc e)
some_part (b ∷ text) e = by (eqb b 0x2C) (slice_split (λ b. eqb b 0x2C) text) (some_part text) e
  where
    by : (d : Bool) (parts : List (List ℕ)) → (parts ≡ [] → ⊥) → cond d ([] ∷ parts) (onto_first b parts) ≡ [] → ⊥
    by true parts some none = cc none
    by false [] some none = some refl
    by false (part ∷ parts) some none = cc none

first_number : (text : List ℕ) (parts : List (List ℕ)) (numbers : List ℕ) → slice_split (λ b. eqb b 0x2C) text ≡ parts → AllZip NumberWord parts numbers → (n : ℕ) × (rest : List ℕ) × (numbers ≡ n ∷ rest)
first_number text [] numbers is each = absurd (some_part text is)
first_number text (part ∷ parts) [] is each = absurd each
first_number text (part ∷ parts) (n ∷ numbers) is each = (n, numbers, refl)

equal_itself : (n : ℕ) → eqb n n ≡ true
equal_itself n = eq-eqb n n refl

none_unknown : (b : Bool) → not b ≡ false → b ≡ true
none_unknown true e = refl
none_unknown false e = absurd cc

pub some_places : (word : List ℕ) (choice : Choice) (cs : List Conference) → ChoiceReads word choice → has_unknown choice cs ≡ false → 0 < length cs → 0 < chosen_from choice 0 cs
some_places word Every [] reads none some = absurd (omega (arith, some))
some_places word Every (c ∷ cs) reads none some = let bit = chosen_bit Every 0 c refl in omega (arith, bit)
some_places word (Numbers numbers) cs reads none some =
    let first = first_number word (slice_split (λ b. eqb b 0x2C) word) numbers refl reads in
    let all : list_all (is_known cs) (first.0 ∷ first.1) ≡ true = ap (list_all (is_known cs)) (sym first.2) ∙ none_unknown (list_all (is_known cs) numbers) none in
    let chosen : is_chosen (Numbers numbers) first.0 ≡ true = ap (list_any (λ n. eqb n first.0)) first.2 ∙ ap (λ (b : Bool). b || list_any (λ n. eqb n first.0) first.1) (equal_itself first.0) in
    known_place (Numbers numbers) first.0 0 cs chosen (and_parts (is_known cs first.0) (list_all (is_known cs) first.1) all).0

-- ---- one choice
not_all : (numbers : List ℕ) → JoinedNumbers (codes "all") numbers → ⊥
not_all [] each = absurd each
not_all (n ∷ numbers) each =
    let first = digit_at (codes "all") 0 each.0.digits.numeral.1 each.0.digits.numeral.0 in
    absurd (omega (arith, first))

numbers_unique : (parts : List (List ℕ)) (a b : List ℕ) → AllZip NumberWord parts a → AllZip NumberWord parts b → a ≡ b
numbers_unique [] [] [] x y = refl
numbers_unique [] [] (n ∷ b) x y = absurd y
numbers_unique [] (m ∷ a) b x y = absurd x
numbers_unique (part ∷ parts) [] b x y = absurd x
numbers_unique (part ∷ parts) (m ∷ a) [] x y = absurd y
numbers_unique (part ∷ parts) (m ∷ a) (n ∷ b) x y =
    let one = digits_unique part m n x.0.digits y.0.digits in
    let others = numbers_unique parts a b x.1 y.1 in
    λ i. one i ∷ others i

pub choice_unique : (word : List ℕ) (a b : Choice) → ChoiceReads word a → ChoiceReads word b → a ≡ b
choice_unique word Every Every x y = refl
choice_unique word Every (Numbers b) x y = absurd (not_all b (subst (λ (w : List ℕ). JoinedNumbers w b) x y))
choice_unique word (Numbers a) Every x y = absurd (not_all a (subst (λ (w : List ℕ). JoinedNumbers w a) y x))
choice_unique word (Numbers a) (Numbers b) x y = ap Numbers (numbers_unique (slice_split (λ c. eqb c 0x2C) word) a b x y)
