-- The tests of one word hold exactly where the grammars of the crates below do.
use Rattle.std.proofs.Common.{◌≡◌, ◌⊎◌, inl, inr, ⊎_elim, ℕ, ◌<◌, ◌≤◌, ◌^◌, Bool, true, false, ◌&&◌, ◌||◌, List, [], ◌∷◌, length, Option, Some, None, refl, sym, ap, subst, arith}
use Rattle.std.proofs.lemmas.Bool.{and_from, and_parts, false_from_ne_true, leb-true, le-leb, or_cases, or_left, or_right}
use Rattle.std.proofs.lemmas.Bool.Decides.{Decides-eqb, Decides-ltb, Decides-not}
use Rattle.std.proofs.lemmas.List.Elements.{All-nil, All-cons, All-head, All-tail}
use Rattle.std.proofs.lemmas.Slice.Eq.{bytes_eq-Decides}
use Rattle.std.specs.Bool.{Decides}
use Rattle.std.specs.Char.{digit_value, is_digit}
use Rattle.std.specs.List.{AllZip, list_all, slice_split}
use Rattle.std.specs.Prelude.{◌↔◌, ◌==◌, All, IfOk, MatchOption, Result, Ok, Err, codes, is_some, nat_le, slice_index, if◌then◌else◌}
use Rattle.std.specs.Str.Parse.{AllDigits, digits_value}
use Rattle.cmd_words.specs.Choice.{ChoiceReads}
use Rattle.cmd_words.specs.NumberWord.{NumberWord}
use Rattle.cmd_words.specs.declared.choice.Choice.{Choice}
use Rattle.cmd_words.specs.declared.choice.Choice.TheVariants.{Every, Numbers}
use Rattle.door_outside.specs.Name.{HasParts, IsNameByte, IsNamePart, parts}
use Rattle.cmd_entries.specs.OneWord.{has_parts, is_between, is_conferences, is_shelf_byte, is_number_word, is_name_part, number, passing}
use Rattle.cmd_entries.specs.Words.{NamesConferences}

-- ---- tests of what has parts
both : {P Q : Type 0} (s t : Bool) → Decides s P → Decides t Q → Decides (s && t) (P × Q)
both s t p q = ((λ is. let parts = and_parts s t is in (p.0 parts.0, q.0 parts.1)), (λ x. and_from s t (p.1 x.0) (q.1 x.1)))

either : {P Q : Type 0} (s t : Bool) → Decides s P → Decides t Q → Decides (s || t) (P ⊎ Q)
either s t p q = ((λ is. ⊎_elim (λ a. inl (p.0 a)) (λ b. inr (q.0 b)) (or_cases s t is)), (λ x. ⊎_elim (λ a. or_left s t (p.1 a)) (λ b. or_right s t (q.1 b)) x))

each : {X : Type 0} (p : X → Bool) (P : X → Type 0) → ((x : X) → Decides (p x) (P x)) → (xs : List X) → Decides (list_all p xs) (All P xs)
each p P decides [] = ((λ is. All-nil P), (λ all. refl))
each p P decides (x ∷ xs) =
    let it = both (p x) (list_all p xs) (decides x) (each p P decides xs) in
    ((λ is. let parts = it.0 is in All-cons P x xs parts.0 parts.1), (λ all. it.1 (All-head P x xs all, All-tail P x xs all)))

at_most : (m n : ℕ) → Decides (nat_le m n) (m ≤ n)
at_most m n = (leb-true m n, le-leb m n)

between : (least most n : ℕ) → Decides (is_between least most n) ((least ≤ n) × (n ≤ most))
between least most n = both _ _ (at_most least n) (at_most n most)

-- ---- names
name_byte : (b : ℕ) → Decides (is_shelf_byte b) (IsNameByte b)
name_byte b = either _ _ (between 48 57 b) (either _ _ (between 65 90 b) (either _ _ (between 97 122 b) (either _ _ (Decides-eqb b 46) (either _ _ (Decides-eqb b 95) (Decides-eqb b 45)))))

part : (text : List ℕ) → Decides (is_name_part text) (IsNamePart text)
part text =
    let it = both _ _ (between 1 32 (length text)) (both _ _ (each is_shelf_byte IsNameByte name_byte text) (Decides-not _ (Decides-eqb (slice_index text 0) 46))) in
    ((λ is. let x = it.0 is in record { some = x.0.0; short = x.0.1; allowed = x.1.0; visible = x.1.1 }), (λ x. it.1 ((x.some, x.short), (x.allowed, x.visible))))

pub name : (most : ℕ) (word : List ℕ) → Decides (has_parts most word) (HasParts most word)
unfolding has_parts
name most word =
    let it = both _ _ (at_most (length (parts word)) most) (each is_name_part IsNamePart part (parts word)) in
    ((λ is. let x = it.0 is in record { few = x.0; each = x.1 }), (λ x. it.1 (x.few, x.each)))

-- ---- numbers
digits : (cs : List ℕ) → Decides (list_all (λ b. is_digit b 10) cs) (AllDigits 10 cs)
digits [] = ((λ is. tt), (λ all. refl))
digits (c ∷ cs) = both _ _ (Decides-ltb (digit_value c) 10) (digits cs)

numeral : (word : List ℕ) → Decides (is_number_word word) (((1 ≤ length word) × (length word ≤ 10)) × (AllDigits 10 word × (digits_value 10 word < 2 ^ 32)))
unfolding is_number_word
numeral word = both _ _ (between 1 10 (length word)) (both _ _ (digits word) (Decides-ltb (digits_value 10 word) (2 ^ 32)))

number_is : (word : List ℕ) → is_number_word word ≡ true → NumberWord word (digits_value 10 word)
number_is word is = let x = (numeral word).0 is in record { digits = record { numeral = (x.0.0, x.1.0); value = refl }; short = x.0.1; small = x.1.1 }

is_number_of : (word : List ℕ) (n : ℕ) → NumberWord word n → is_number_word word ≡ true
is_number_of word n x = (numeral word).1 ((x.digits.numeral.0, x.short), (x.digits.numeral.1, omega (arith, x.digits.value, x.small)))

-- ---- conferences
both_numbers : (word : List ℕ) (words : List (List ℕ)) → Decides (list_all is_number_word words) ((ns : List ℕ) × AllZip NumberWord words ns) → Decides (list_all is_number_word (word ∷ words)) ((ns : List ℕ) × AllZip NumberWord (word ∷ words) ns)
both_numbers word words decides = (
  (λ is. let parts = and_parts (is_number_word word) (list_all is_number_word words) is in let rest = decides.0 parts.1 in (digits_value 10 word ∷ rest.0, (number_is word parts.0, rest.1))),
  (λ all. back all.0 all.1),
)
  where
    back : (ns : List ℕ) → AllZip NumberWord (word ∷ words) ns → list_all is_number_word (word ∷ words) ≡ true
    back [] all = absurd all
    back (n ∷ ns) all = and_from (is_number_word word) (list_all is_number_word words) (is_number_of word n all.0) (decides.1 (ns, all.1))

numbers : (words : List (List ℕ)) → Decides (list_all is_number_word words) ((ns : List ℕ) × AllZip NumberWord words ns)
numbers [] = ((λ is. ([], tt)), (λ all. refl))
numbers (word ∷ words) = both_numbers word words (numbers words)

choice_is : (word : List ℕ) (choice : Choice) → ChoiceReads word choice → (word ≡ codes "all") ⊎ ((ns : List ℕ) × AllZip NumberWord (slice_split (λ b. b == 0x2C) word) ns)
choice_is word Every every = inl every
choice_is word (Numbers ns) all = inr (ns, all)

pub conference_word : (word : List ℕ) → Decides (is_conferences word) (NamesConferences word)
unfolding is_conferences
conference_word word =
    let it = either _ _ (bytes_eq-Decides word (codes "all")) (numbers (slice_split (λ b. b == 0x2C) word)) in
    ((λ is. ⊎_elim (λ every. (Every, every)) (λ some. (Numbers some.0, some.1)) (it.0 is)), (λ x. it.1 (choice_is word x.0 x.1)))

pub conferences_found : (word : List ℕ) (found : Option Choice) → MatchOption found ((choice : Choice) → ¬ ChoiceReads word choice) (ChoiceReads word) → is_some found ≡ is_conferences word
conferences_found word (Some choice) is = sym ((conference_word word).1 (choice, is))
conferences_found word None none = sym (false_from_ne_true (is_conferences word) (λ is. let x = (conference_word word).0 is in none x.0 x.1))

-- ---- what is read
if_true : {A : Type 0} (t : Bool) (x y : A) → (if t then Some x else None) ≡ Some y → (t ≡ true) × (y ≡ x)
if_true true x y is = (refl, cc is)
if_true false x y is = absurd (cc is)

if_passed : {A : Type 0} (t : Bool) (x y : A) → t ≡ true → y ≡ x → (if t then Some x else None) ≡ Some y
if_passed true x y passed same = sym (ap Some same)
if_passed false x y passed same = absurd (cc passed)

pub number_word : (word : List ℕ) (n : ℕ) → (number word ≡ Some n) ↔ NumberWord word n
number_word word n = (
  (λ is. let x = if_true (is_number_word word) (digits_value 10 word) n is in subst (NumberWord word) (sym x.1) (number_is word x.0)),
  (λ x. if_passed (is_number_word word) (digits_value 10 word) n (is_number_of word n x) x.digits.value),
)

pub passing_word : {P : Type 0} (test : List ℕ → Bool) (word found : List ℕ) → Decides (test word) P → (passing test word ≡ Some found) ↔ (P × (found ≡ word))
passing_word test word found decides = ((λ is. let x = if_true (test word) word found is in (decides.0 x.0, x.1)), (λ x. if_passed (test word) word found (decides.1 x.0) x.1))

-- ---- what is found exactly where it's in a relation
found_is : {A : Type 0} (read found : Option A) (P : A → Type 0) → ((a : A) → (read ≡ Some a) ↔ P a) → MatchOption found ((a : A) → ¬ P a) P → found ≡ read
found_is read (Some a) P law is = sym ((law a).1 is)
found_is None None P law none = refl
found_is (Some a) None P law none = absurd (none a ((law a).0 refl))

pub number_found : (word : List ℕ) (found : Option ℕ) → MatchOption found ((n : ℕ) → ¬ NumberWord word n) (NumberWord word) → found ≡ number word
number_found word found is = found_is (number word) found (NumberWord word) (number_word word) is

pub name_found : (most : ℕ) (word : List ℕ) (found : Option (List ℕ)) → MatchOption found (¬ HasParts most word) (λ name. HasParts most word × (name ≡ word)) → found ≡ passing (has_parts most) word
name_found most word (Some it) is = sym ((passing_word (has_parts most) word it (name most word)).1 is)
name_found most word None none = found_is (passing (has_parts most) word) None (λ it. HasParts most word × (it ≡ word)) (λ it. passing_word (has_parts most) word it (name most word)) (λ it x. none x.0)

pub if_name : {E : Type 0} (most : ℕ) (word : List ℕ) (result : Result (Option (List ℕ)) E) → IfOk result (λ found. MatchOption found (¬ HasParts most word) (λ name. HasParts most word × (name ≡ word)))
    → IfOk result (λ found. found ≡ passing (has_parts most) word)
if_name most word (Ok found) is = name_found most word found is
if_name most word (Err e) is = tt
