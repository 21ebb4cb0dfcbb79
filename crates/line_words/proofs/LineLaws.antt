-- A line reads as one list of words at most, and its words are found one after the other.
use Rattle.std.proofs.Common.{◌≡◌, ◌≢◌, inl, inr, ℕ, ◌<◌, List, [], ◌∷◌, ◌++◌, length, get_or, take, drop, ◌-◌, refl, sym, ◌∙◌, ap, subst, arith, append_assoc}
use Rattle.std.proofs.lemmas.List.{append-nil, take_all}
use Rattle.std.proofs.lemmas.List.Elements.{All-append, All-head, All-tail, All-nil, All-push}
use Rattle.text_fields.proofs.Splits.{not_split, split_once}
use Rattle.text_fields.specs.Split.{Lacks, SplitsAt}
use Rattle.text_fields.specs.Trim.{BeginsWithNone}
use Rattle.line_words.specs.Line.{AreSpaces, EndsWord, BeginsQuoted, BeginsBare, Begins, SkipsSpaces, LineReads}

abbrev IsSpace : ℕ → Type 0
IsSpace b = b ≡ 32

-- ---- spaces at the front
-- what begins with no space is found behind them in one way
pub same_spaces : (spaces text others rest : List ℕ) → AreSpaces spaces → AreSpaces others → BeginsWithNone IsSpace text → BeginsWithNone IsSpace rest
    → spaces ++ text ≡ others ++ rest → (spaces ≡ others) × (text ≡ rest)
same_spaces [] text [] rest a b t r is = (refl, is)
same_spaces [] text (o ∷ others) rest a b t r is = absurd (t o (others ++ rest) is (All-head IsSpace o others b))
same_spaces (s ∷ spaces) text [] rest a b t r is = absurd (r s (spaces ++ text) (sym is) (All-head IsSpace s spaces a))
same_spaces (s ∷ spaces) text (o ∷ others) rest a b t r is =
    let heads : s ≡ o = cc in
    let tails : spaces ++ text ≡ others ++ rest = cc in
    let more = same_spaces spaces text others rest (All-tail IsSpace s spaces a) (All-tail IsSpace o others b) t r tails in
    ((λ i. heads i ∷ more.0 i), more.1)

bare_begins : (text word rest : List ℕ) → BeginsBare text word rest → BeginsWithNone IsSpace text
bare_begins text [] rest begins first behind is space = absurd (begins.bare.some refl)
bare_begins text (w ∷ word) rest begins first behind is space =
    let same : w ≡ first = let e = sym begins.whole ∙ is in cc in
    All-head (λ b. b ≢ 32) w word begins.bare.whole (same ∙ space)

-- a word doesn't begin with a space
pub word_begins : (text word rest : List ℕ) → Begins text word rest → BeginsWithNone IsSpace text
word_begins text word rest (inl bare) first behind is space = bare_begins text word rest bare first behind is space
word_begins text word rest (inr quoted) first behind is space =
    let same : 34 ≡ first = let e = sym quoted.1 ∙ is in cc in
    let never : 34 ≡ 32 = same ∙ space in absurd (omega (arith, never))

pub word_there : (text word rest : List ℕ) → Begins text word rest → text ≢ []
word_there text [] rest (inl bare) none = absurd (bare.bare.some refl)
word_there text (w ∷ word) rest (inl bare) none = let e = sym bare.whole ∙ none in absurd (cc e)
word_there text word rest (inr quoted) none = let e = sym quoted.1 ∙ none in absurd (cc e)

-- spaces were taken off the front
pub record Taken (line rest : List ℕ) : Type 0 where
  pub spaces : List ℕ
  pub whole : line ≡ spaces ++ rest
  pub blank : AreSpaces spaces

pub none_taken : (line : List ℕ) → Taken line line
none_taken line = record { spaces = []; whole = refl; blank = All-nil IsSpace }

pub one_taken : (line rest : List ℕ) → Taken line rest → 0 < length rest → get_or rest 0 0 ≡ 32 → Taken line (take (length rest - 1) (drop 1 rest))
one_taken line [] taken some space = absurd (omega arith)
one_taken line (x ∷ rest) taken some space = subst (Taken line) (sym (take_all (length (x ∷ rest) - 1) rest (omega arith))) record {
  spaces = taken.spaces ++ x ∷ [];
  whole = taken.whole ∙ sym (append_assoc taken.spaces (x ∷ []) rest);
  blank = All-push IsSpace taken.spaces x taken.blank space;
}

-- none is left
pub all_taken : (line rest : List ℕ) → Taken line rest → BeginsWithNone IsSpace rest → SkipsSpaces line rest
all_taken line rest taken begins = record { spaces = taken.spaces; whole = taken.whole; blank = taken.blank; begins = begins }

pub no_bytes : (rest : List ℕ) → length rest ≡ 0 → rest ≡ []
no_bytes [] none = refl
no_bytes (r ∷ rest) none = absurd (omega (arith, none))

-- ---- one word
same_bare : (word rest other behind : List ℕ) → Lacks 32 word → Lacks 32 other → EndsWord rest → EndsWord behind → word ++ rest ≡ other ++ behind → (word ≡ other) × (rest ≡ behind)
same_bare [] rest [] behind a b x y is = (refl, is)
same_bare [] [] (o ∷ other) behind a b x y is = absurd (cc is)
same_bare [] (r ∷ rest) (o ∷ other) behind a b x y is =
    let same : r ≡ o = cc in absurd (All-head (λ b. b ≢ 32) o other b (sym same ∙ x))
same_bare (w ∷ word) rest [] [] a b x y is = absurd (cc is)
same_bare (w ∷ word) rest [] (e ∷ behind) a b x y is =
    let same : w ≡ e = cc in absurd (All-head (λ b. b ≢ 32) w word a (same ∙ y))
same_bare (w ∷ word) rest (o ∷ other) behind a b x y is =
    let heads : w ≡ o = cc in
    let tails : word ++ rest ≡ other ++ behind = cc in
    let more = same_bare word rest other behind (All-tail (λ b. b ≢ 32) w word a) (All-tail (λ b. b ≢ 32) o other b) x y tails in
    ((λ i. heads i ∷ more.0 i), more.1)

bare_unquoted : {P : Type 0} (text word rest behind : List ℕ) → BeginsBare text word rest → text ≡ 34 ∷ behind → P
bare_unquoted text [] rest behind bare is = absurd (bare.bare.some refl)
bare_unquoted text (w ∷ word) rest behind bare is =
    let same : w ≡ 34 = let e = sym bare.whole ∙ is in cc in
    absurd (bare.bare.unquoted word (λ i. same i ∷ word))

-- the bytes before the first space are a bare word
pub bare_word : (text word rest : List ℕ) → SplitsAt 32 text word rest → BeginsWithNone IsSpace text → ((behind : List ℕ) → text ≢ 34 ∷ behind) → BeginsBare text word (32 ∷ rest)
bare_word text word rest splits none unquoted = record {
  whole = splits.whole;
  bare = record {
    some = λ empty. none 32 rest (splits.whole ∙ ap (λ (w : List ℕ). w ++ 32 ∷ rest) empty) refl;
    whole = splits.first;
    unquoted = λ behind is. unquoted (behind ++ 32 ∷ rest) (splits.whole ∙ ap (λ (w : List ℕ). w ++ 32 ∷ rest) is);
  };
  ends = refl;
}

-- and where there is none, all are
pub bare_line : (text : List ℕ) → text ≢ [] → Lacks 32 text → ((behind : List ℕ) → text ≢ 34 ∷ behind) → BeginsBare text text []
bare_line text some lacks unquoted = record {
  whole = sym (append-nil text);
  bare = record { some = some; whole = lacks; unquoted = unquoted };
  ends = tt;
}

-- ---- a word in quotes
pub open_quote : (text word rest : List ℕ) → Lacks 34 text → ¬ BeginsQuoted text word rest
open_quote text word rest lacks begins = not_split 34 text word rest lacks begins.whole

pub badly_ended : (text word rest other behind : List ℕ) → SplitsAt 34 text word rest → ¬ EndsWord rest → ¬ BeginsQuoted text other behind
badly_ended text word rest other behind splits never begins =
    let same = split_once 34 word other rest behind splits.first begins.inside (sym splits.whole ∙ begins.whole) in
    never (subst EndsWord (sym same.1) begins.ends)

pub well_ended : (text word rest : List ℕ) → SplitsAt 34 text word rest → EndsWord rest → BeginsQuoted text word rest
well_ended text word rest splits ends = record { whole = splits.whole; inside = splits.first; ends = ends }

pub same_word : (text word rest other behind : List ℕ) → Begins text word rest → Begins text other behind → (word ≡ other) × (rest ≡ behind)
same_word text word rest other behind (inl x) (inl y) = same_bare word rest other behind x.bare.whole y.bare.whole x.ends y.ends (sym x.whole ∙ y.whole)
same_word text word rest other behind (inl x) (inr y) = bare_unquoted text word rest y.0 x y.1
same_word text word rest other behind (inr x) (inl y) = bare_unquoted text other behind x.0 y x.1
same_word text word rest other behind (inr x) (inr y) =
    let same : x.0 ≡ y.0 = let e = sym x.1 ∙ y.1 in cc in
    split_once 34 word other rest behind x.2.inside y.2.inside (sym x.2.whole ∙ (same ∙ y.2.whole))

-- ---- whole lines
-- a word isn't all spaces
never_spaces : {P : Type 0} (spaces text word rest : List ℕ) → AreSpaces (spaces ++ text) → Begins text word rest → P
never_spaces [] [] word rest all begins = absurd (word_there [] word rest begins refl)
never_spaces [] (t ∷ text) word rest all begins = absurd (word_begins (t ∷ text) word rest begins t text refl (All-head IsSpace t text all))
never_spaces (s ∷ spaces) text word rest all begins = never_spaces spaces text word rest (All-tail IsSpace s (spaces ++ text) all) begins

-- the first word of two readings is one
pub one_reading : (line : List ℕ) (a b : List (List ℕ)) → LineReads line a → LineReads line b → a ≡ b
one_reading line [] [] x y = refl
one_reading line [] (v ∷ others) x y = never_spaces y.0 y.1 v y.2 (subst AreSpaces y.3 x) y.5
one_reading line (w ∷ words) [] x y = never_spaces x.0 x.1 w x.2 (subst AreSpaces x.3 y) x.5
one_reading line (w ∷ words) (v ∷ others) x y =
    let fronts = same_spaces x.0 x.1 y.0 y.1 x.4 y.4 (word_begins x.1 w x.2 x.5) (word_begins y.1 v y.2 y.5) (sym x.3 ∙ y.3) in
    let firsts = same_word x.1 w x.2 v y.2 x.5 (subst (λ (text : List ℕ). Begins text v y.2) (sym fronts.1) y.5) in
    let more = one_reading x.2 words others x.6 (subst (λ (rest : List ℕ). LineReads rest others) (sym firsts.1) y.6) in
    λ i. firsts.0 i ∷ more i

-- ---- what a loop has found
-- the words so far, and the rest of the line, which doesn't begin with a space
pub record SoFar (line rest : List ℕ) (words : List (List ℕ)) : Type 0 where
  pub begins : BeginsWithNone IsSpace rest
  pub reads : (more : List (List ℕ)) → LineReads rest more → LineReads line (words ++ more)
  pub parts : (all : List (List ℕ)) → LineReads line all → (more : List (List ℕ)) × (all ≡ words ++ more) × LineReads rest more

-- spaces at the front change nothing
skips : (line rest : List ℕ) → SkipsSpaces line rest → (words : List (List ℕ)) → LineReads rest words → LineReads line words
skips line rest skipped [] reads = subst AreSpaces (sym skipped.whole) (All-append IsSpace skipped.spaces rest skipped.blank reads)
skips line rest skipped (w ∷ words) reads = (
  skipped.spaces ++ reads.0,
  reads.1,
  reads.2,
  skipped.whole ∙ (ap (λ (text : List ℕ). skipped.spaces ++ text) reads.3 ∙ sym (append_assoc skipped.spaces reads.0 reads.1)),
  All-append IsSpace skipped.spaces reads.0 skipped.blank reads.4,
  reads.5,
  reads.6,
)

behind_spaces : (spaces rest : List ℕ) → AreSpaces (spaces ++ rest) → AreSpaces rest
behind_spaces [] rest all = all
behind_spaces (s ∷ spaces) rest all = behind_spaces spaces rest (All-tail IsSpace s (spaces ++ rest) all)

unskips : (line rest : List ℕ) → SkipsSpaces line rest → (words : List (List ℕ)) → LineReads line words → LineReads rest words
unskips line rest skipped [] reads = behind_spaces skipped.spaces rest (subst AreSpaces skipped.whole reads)
unskips line rest skipped (w ∷ words) reads =
    let same = same_spaces reads.0 reads.1 skipped.spaces rest reads.4 skipped.blank (word_begins reads.1 w reads.2 reads.5) skipped.begins (sym reads.3 ∙ skipped.whole) in
    ([], reads.1, reads.2, sym same.1, All-nil IsSpace, reads.5, reads.6)

pub begun : (line rest : List ℕ) → SkipsSpaces line rest → SoFar line rest []
begun line rest skipped = record {
  begins = skipped.begins;
  reads = skips line rest skipped;
  parts = λ all reads. (all, refl, unskips line rest skipped all reads);
}

-- a reading of what begins with no space begins there
starts : (text : List ℕ) (word : List ℕ) (words : List (List ℕ)) → BeginsWithNone IsSpace text → LineReads text (word ∷ words) → (rest : List ℕ) × Begins text word rest × LineReads rest words
starts text word words none reads =
    let same = same_spaces [] text reads.0 reads.1 (All-nil IsSpace) reads.4 none (word_begins reads.1 word reads.2 reads.5) reads.3 in
    (reads.2, subst (λ (t : List ℕ). Begins t word reads.2) (sym same.1) reads.5, reads.6)

-- what is there and begins with no space isn't spaces alone
some_word : {P : Type 0} (text : List ℕ) → text ≢ [] → BeginsWithNone IsSpace text → AreSpaces text → P
some_word [] some none all = absurd (some refl)
some_word (t ∷ text) some none all = absurd (none t text refl (All-head IsSpace t text all))

-- one word more
pub goes_on : (line rest word behind next : List ℕ) (words : List (List ℕ)) → SoFar line rest words → rest ≢ [] → Begins rest word behind → SkipsSpaces behind next → SoFar line next (words ++ word ∷ [])
goes_on line rest word behind next words so_far some begins skipped = record {
  begins = skipped.begins;
  reads = λ more reads.
      subst (LineReads line) (sym (append_assoc words (word ∷ []) more))
      (so_far.reads (word ∷ more) ([], rest, behind, refl, All-nil IsSpace, begins, skips behind next skipped more reads));
  parts = λ all reads.
      let before = so_far.parts all reads in
      let one = first before.0 before.2 in
      (one.0, before.1 ∙ (ap (λ (ws : List (List ℕ)). words ++ ws) one.1 ∙ sym (append_assoc words (word ∷ []) one.0)), one.2);
}
  where
    first : (more : List (List ℕ)) → LineReads rest more → (others : List (List ℕ)) × (more ≡ word ∷ others) × LineReads next others
    first [] reads = some_word rest some so_far.begins reads
    first (w ∷ others) reads =
        let begun = starts rest w others so_far.begins reads in
        let same = same_word rest w begun.0 word behind begun.1 begins in
        (others, (λ i. same.0 i ∷ others), unskips behind next skipped others (subst (λ (r : List ℕ). LineReads r others) same.1 begun.2))

-- the line is at its end
pub ends : (line rest : List ℕ) (words : List (List ℕ)) → SoFar line rest words → rest ≡ [] → LineReads line words
ends line rest words so_far none = subst (LineReads line) (append-nil words) (so_far.reads [] (subst AreSpaces (sym none) (All-nil IsSpace)))

-- no word can be found
pub breaks_off : (line rest : List ℕ) (words : List (List ℕ)) → SoFar line rest words → rest ≢ [] → ((word behind : List ℕ) → ¬ Begins rest word behind) → (all : List (List ℕ)) → ¬ LineReads line all
breaks_off line rest words so_far some none all reads = let parts = so_far.parts all reads in never parts.0 parts.2
  where
    never : (more : List (List ℕ)) → LineReads rest more → ⊥
    never [] reads = some_word rest some so_far.begins reads
    never (w ∷ others) reads = let begun = starts rest w others so_far.begins reads in none w begun.0 begun.1
