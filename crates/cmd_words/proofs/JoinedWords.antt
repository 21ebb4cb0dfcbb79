-- Number words that are joined by commas, one after the other as a loop takes them.
use Rattle.std.proofs.Common.{◌≡◌, ℕ, false, eqb, List, [], ◌∷◌, ◌++◌, refl, sym, ◌∙◌, ap, subst, append_assoc}
use Rattle.std.proofs.lemmas.Bool.{ne_eqb}
use Rattle.std.proofs.lemmas.List.Splits.{slice_split_none, slice_split_at}
use Rattle.std.specs.List.{AllZip, slice_split}
use Rattle.std.specs.Prelude.{All}
use Rattle.text_fields.specs.Split.{Lacks, SplitsAt}
use Rattle.cmd_words.specs.NumberWord.{NumberWord, JoinedNumbers}

abbrev pub words_of : List ℕ → List (List ℕ)
words_of text = slice_split (λ b. eqb b 0x2C) text

no_comma : (text : List ℕ) → Lacks 0x2C text → All (λ b. eqb b 0x2C ≡ false) text
no_comma text lacks i d within = ne_eqb _ 0x2C (lacks i d within)

pub one_word : (text : List ℕ) → Lacks 0x2C text → words_of text ≡ text ∷ []
one_word text lacks = slice_split_none (λ b. eqb b 0x2C) text (no_comma text lacks)

pub first_word : (text word rest : List ℕ) → SplitsAt 0x2C text word rest → words_of text ≡ word ∷ words_of rest
first_word text word rest splits = ap words_of splits.whole ∙ slice_split_at (λ b. eqb b 0x2C) word 0x2C rest (no_comma word splits.first) refl

-- the words before the rest have these numbers
pub record NumbersSoFar (text rest : List ℕ) (numbers : List ℕ) : Type 0 where
  pub words : List (List ℕ)
  pub whole : words_of text ≡ words ++ words_of rest
  pub each : AllZip NumberWord words numbers

pub begun : (text : List ℕ) → NumbersSoFar text text []
begun text = record { words = []; whole = refl; each = tt }

one_more : (words : List (List ℕ)) (numbers : List ℕ) (word : List ℕ) (n : ℕ) → AllZip NumberWord words numbers → NumberWord word n → AllZip NumberWord (words ++ word ∷ []) (numbers ++ n ∷ [])
one_more [] [] word n each is = (is, tt)
one_more [] (m ∷ numbers) word n each is = absurd each
one_more (w ∷ words) [] word n each is = absurd each
one_more (w ∷ words) (m ∷ numbers) word n each is = (each.0, one_more words numbers word n each.1 is)

pub goes_on : (text rest word behind : List ℕ) (numbers : List ℕ) (n : ℕ) → NumbersSoFar text rest numbers → SplitsAt 0x2C rest word behind → NumberWord word n → NumbersSoFar text behind (numbers ++ n ∷ [])
goes_on text rest word behind numbers n so_far splits is = record {
  words = so_far.words ++ word ∷ [];
  whole = so_far.whole ∙ (ap (λ (ws : List (List ℕ)). so_far.words ++ ws) (first_word rest word behind splits) ∙ sym (append_assoc so_far.words (word ∷ []) (words_of behind)));
  each = one_more so_far.words numbers word n so_far.each is;
}

pub ends : (text rest : List ℕ) (numbers : List ℕ) (n : ℕ) → NumbersSoFar text rest numbers → Lacks 0x2C rest → NumberWord rest n → JoinedNumbers text (numbers ++ n ∷ [])
ends text rest numbers n so_far lacks is =
    let whole : words_of text ≡ so_far.words ++ rest ∷ [] = so_far.whole ∙ ap (λ (ws : List (List ℕ)). so_far.words ++ ws) (one_word rest lacks) in
    subst (λ (ws : List (List ℕ)). AllZip NumberWord ws (numbers ++ n ∷ [])) (sym whole) (one_more so_far.words numbers rest n so_far.each is)

-- a word among them that is no number
is_number : (front : List (List ℕ)) (word : List ℕ) (back : List (List ℕ)) (numbers : List ℕ) → AllZip NumberWord (front ++ word ∷ back) numbers → (n : ℕ) × NumberWord word n
is_number [] word back [] each = absurd each
is_number [] word back (n ∷ numbers) each = (n, each.0)
is_number (w ∷ front) word back [] each = absurd each
is_number (w ∷ front) word back (n ∷ numbers) each = is_number front word back numbers each.1

pub breaks_off : (text rest word : List ℕ) (back : List (List ℕ)) (numbers : List ℕ) → NumbersSoFar text rest numbers → words_of rest ≡ word ∷ back → ((n : ℕ) → ¬ NumberWord word n)
    → (others : List ℕ) → ¬ JoinedNumbers text others
breaks_off text rest word back numbers so_far is none others joined =
    let whole : words_of text ≡ so_far.words ++ word ∷ back = so_far.whole ∙ ap (λ (ws : List (List ℕ)). so_far.words ++ ws) is in
    let one = is_number so_far.words word back others (subst (λ (ws : List (List ℕ)). AllZip NumberWord ws others) whole joined) in
    none one.0 one.1
