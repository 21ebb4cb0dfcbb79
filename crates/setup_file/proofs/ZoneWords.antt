-- The words of a zones line, one at a time, and the test of them all.
use Rattle.std.proofs.Common.{◌≡◌, ℕ, ◌≤◌, Bool, true, false, ◌&&◌, List, [], ◌∷◌, ◌++◌, length, map, refl, sym, ap, ◌∙◌, arith, length-append, append_assoc}
use Rattle.std.proofs.lemmas.Bool.{false≢true}
use Rattle.std.proofs.lemmas.Bool.Decides.{nat_tests}
use Rattle.std.proofs.lemmas.List.{append-nil, length-map}
use Rattle.std.specs.List.{list_all}
use Rattle.setup_file.specs.Words.{words, is_number, number_of, numbers_of_words}
use Rattle.setup_file.specs.Zones.{is_zone, are_zones}
use Rattle.setup_file.specs.Rules.{zones_fit}

pub not_true : (b : Bool) → (b ≡ true → ⊥) → b ≡ false
not_true true h = absurd (h refl)
not_true false h = refl

pub and_left : (a b : Bool) → (a && b) ≡ true → a ≡ true
and_left true b e = refl
and_left false b e = absurd (false≢true e)

pub and_right : (a b : Bool) → (a && b) ≡ true → b ≡ true
and_right true b e = e
and_right false b e = absurd (false≢true e)

pub both_true : (a b : Bool) → a ≡ true → b ≡ true → (a && b) ≡ true
both_true true b e f = f
both_true false b e f = absurd (false≢true e)

-- the test of all words
abbrev zones_test : List (List ℕ) → Bool
zones_test all = list_all is_number all && are_zones (map number_of all)

fit_is : (value : List ℕ) → zones_fit value ≡ zones_test (words value)
unfolding zones_fit numbers_of_words
fit_is value = refl

numbers_are : (value : List ℕ) → numbers_of_words value ≡ map number_of (words value)
unfolding numbers_of_words
numbers_are value = refl

-- these words were taken, and the zones are theirs
pub record ZonesTaken (value : List ℕ) (left : List (List ℕ)) (zones : List ℕ) : Type 0 where
  pub taken : List (List ℕ)
  pub whole : words value ≡ taken ++ left
  pub numbers : list_all is_number taken ≡ true
  pub are : zones ≡ map number_of taken

pub none_taken : (value : List ℕ) → ZonesTaken value (words value) []
none_taken value = record { taken = []; whole = refl; numbers = refl; are = refl }

one_more : (p : List ℕ → Bool) (all : List (List ℕ)) (word : List ℕ) → list_all p all ≡ true → p word ≡ true → list_all p (all ++ word ∷ []) ≡ true
one_more p [] word h e = both_true (p word) true e refl
one_more p (x ∷ all) word h e = both_true (p x) (list_all p (all ++ word ∷ [])) (and_left (p x) (list_all p all) h) (one_more p all word (and_right (p x) (list_all p all) h) e)

map_more : (all : List (List ℕ)) (word : List ℕ) → map number_of (all ++ word ∷ []) ≡ map number_of all ++ number_of word ∷ []
map_more [] word = refl
map_more (x ∷ all) word = ap (λ (ns : List ℕ). number_of x ∷ ns) (map_more all word)

pub word_more : (value word : List ℕ) (left rest : List (List ℕ)) (zones : List ℕ) (zone : ℕ) → ZonesTaken value left zones → left ≡ word ∷ rest → is_number word ≡ true → zone ≡ number_of word → ZonesTaken value rest (zones ++ zone ∷ [])
word_more value word left rest zones zone h e test is = record {
  taken = h.taken ++ word ∷ [];
  whole = h.whole ∙ (ap (λ (l : List (List ℕ)). h.taken ++ l) e ∙ sym (append_assoc h.taken (word ∷ []) rest));
  numbers = one_more is_number h.taken word h.numbers test;
  are = ap (λ (ns : List ℕ). ns ++ zone ∷ []) h.are ∙ (ap (λ n. map number_of h.taken ++ n ∷ []) is ∙ sym (map_more h.taken word));
}

-- an item of a list that passes
item_passes : (p : List ℕ → Bool) (all rest : List (List ℕ)) (word : List ℕ) → list_all p (all ++ word ∷ rest) ≡ true → p word ≡ true
item_passes p [] rest word h = and_left (p word) (list_all p rest) h
item_passes p (x ∷ all) rest word h = item_passes p all rest word (and_right (p x) (list_all p (all ++ word ∷ rest)) h)

number_passes : (all rest : List (List ℕ)) (word : List ℕ) → list_all is_zone (map number_of (all ++ word ∷ rest)) ≡ true → is_zone (number_of word) ≡ true
number_passes [] rest word h = and_left (is_zone (number_of word)) (list_all is_zone (map number_of rest)) h
number_passes (x ∷ all) rest word h = number_passes all rest word (and_right (is_zone (number_of x)) (list_all is_zone (map number_of (all ++ word ∷ rest))) h)

in_range : (zones : List ℕ) → are_zones zones ≡ true → list_all is_zone zones ≡ true
unfolding are_zones
in_range zones h = grind (arith, nat_tests)

few : (zones : List ℕ) → are_zones zones ≡ true → length zones ≤ 16
unfolding are_zones
few zones h = grind (arith, nat_tests)

-- a word that is no zone
pub bad_word : (value word : List ℕ) (left rest : List (List ℕ)) (zones : List ℕ) → ZonesTaken value left zones → left ≡ word ∷ rest → (is_number word && is_zone (number_of word)) ≡ false → zones_fit value ≡ false
bad_word value word left rest zones h e bad =
    let all = h.taken ++ word ∷ rest in
    let whole : words value ≡ all = h.whole ∙ ap (λ (l : List (List ℕ)). h.taken ++ l) e in
    fit_is value ∙ (ap zones_test whole ∙ not_true (zones_test all) (λ t.
    let number : is_number word ≡ true = item_passes is_number h.taken rest word (and_left (list_all is_number all) (are_zones (map number_of all)) t) in
    let zone : is_zone (number_of word) ≡ true = number_passes h.taken rest word (in_range (map number_of all) (and_right (list_all is_number all) (are_zones (map number_of all)) t)) in
    false≢true (sym bad ∙ both_true (is_number word) (is_zone (number_of word)) number zone)))

-- a seventeenth word
pub many_words : (value word : List ℕ) (left rest : List (List ℕ)) (zones : List ℕ) → ZonesTaken value left zones → left ≡ word ∷ rest → 16 ≤ length zones → zones_fit value ≡ false
many_words value word left rest zones h e many =
    let all = h.taken ++ word ∷ rest in
    let whole : words value ≡ all = h.whole ∙ ap (λ (l : List (List ℕ)). h.taken ++ l) e in
    fit_is value ∙ (ap zones_test whole ∙ not_true (zones_test all) (λ t.
    omega (arith, few (map number_of all) (and_right (list_all is_number all) (are_zones (map number_of all)) t), length-map all number_of, length-append h.taken (word ∷ rest), ap length h.are, length-map h.taken number_of)))

-- all words were taken
all_taken : (value : List ℕ) (left : List (List ℕ)) (zones : List ℕ) (h : ZonesTaken value left zones) → left ≡ [] → words value ≡ h.taken
all_taken value left zones h e = h.whole ∙ (ap (λ (l : List (List ℕ)). h.taken ++ l) e ∙ append-nil h.taken)

pub bad_zones : (value : List ℕ) (left : List (List ℕ)) (zones : List ℕ) → ZonesTaken value left zones → left ≡ [] → are_zones zones ≡ false → zones_fit value ≡ false
bad_zones value left zones h e bad =
    fit_is value ∙ (ap zones_test (all_taken value left zones h e) ∙ not_true (zones_test h.taken) (λ t.
    false≢true (sym bad ∙ (ap are_zones h.are ∙ and_right (list_all is_number h.taken) (are_zones (map number_of h.taken)) t))))

pub good_zones : (value : List ℕ) (left : List (List ℕ)) (zones : List ℕ) → ZonesTaken value left zones → left ≡ [] → are_zones zones ≡ true → zones_fit value ≡ true
good_zones value left zones h e good =
    fit_is value ∙ (ap zones_test (all_taken value left zones h e) ∙ both_true (list_all is_number h.taken) (are_zones (map number_of h.taken)) h.numbers (sym (ap are_zones h.are) ∙ good))

pub zones_are : (value : List ℕ) (left : List (List ℕ)) (zones : List ℕ) → ZonesTaken value left zones → left ≡ [] → zones ≡ numbers_of_words value
zones_are value left zones h e = h.are ∙ (ap (λ (l : List (List ℕ)). map number_of l) (sym (all_taken value left zones h e)) ∙ sym (numbers_are value))

-- the parts of the test
pub fits_numbers : (value : List ℕ) → zones_fit value ≡ true → list_all is_number (words value) ≡ true
fits_numbers value t = and_left (list_all is_number (words value)) (are_zones (map number_of (words value))) (sym (fit_is value) ∙ t)

pub fits_zones : (value : List ℕ) → zones_fit value ≡ true → are_zones (numbers_of_words value) ≡ true
fits_zones value t = ap are_zones (numbers_are value) ∙ and_right (list_all is_number (words value)) (are_zones (map number_of (words value))) (sym (fit_is value) ∙ t)

pub fits_both : (value : List ℕ) → list_all is_number (words value) ≡ true → are_zones (numbers_of_words value) ≡ true → zones_fit value ≡ true
fits_both value numbers zones = fit_is value ∙ both_true (list_all is_number (words value)) (are_zones (map number_of (words value))) numbers (sym (ap are_zones (numbers_are value)) ∙ zones)
