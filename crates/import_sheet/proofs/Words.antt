-- A header line begins with one word at most, and gives one value at most.
use Rattle.std.proofs.Common.{◌≡◌, ℕ, List, [], ◌∷◌, get_or, refl, sym, ap, ◌∙◌, subst, arith}
use Rattle.std.specs.List.{All}
use Rattle.text_fields.specs.Blank.{IsBlank}
use Rattle.text_fields.specs.Trim.{Trimmed}
use Rattle.text_fields.specs.declared.blank.Blank.TheVariants.{Spaces}
use Rattle.text_fields.proofs.Trimming.{trimmed_unique, same_rest}
use Rattle.import_sheet.specs.Header.{word_of, BeginsWithWord, HeaderLineReads}
use Rattle.import_sheet.specs.declared.field.Field.{Field}
use Rattle.import_sheet.specs.declared.field.Field.TheVariants.{From, To, Subject, Date, Msgid, Reply, Private}

-- the first letter of a field's word
letter : Field → ℕ
letter From = 70
letter To = 84
letter Subject = 83
letter Date = 68
letter Msgid = 77
letter Reply = 82
letter Private = 80

first_letter : (field : Field) (line : List ℕ) → BeginsWithWord field line → get_or line 0 0 ≡ letter field
unfolding letter
first_letter From line b = ap (λ xs. get_or xs 0 0) b.1
first_letter To line b = ap (λ xs. get_or xs 0 0) b.1
first_letter Subject line b = ap (λ xs. get_or xs 0 0) b.1
first_letter Date line b = ap (λ xs. get_or xs 0 0) b.1
first_letter Msgid line b = ap (λ xs. get_or xs 0 0) b.1
first_letter Reply line b = ap (λ xs. get_or xs 0 0) b.1
first_letter Private line b = ap (λ xs. get_or xs 0 0) b.1

letter_once : (a b : Field) → letter a ≡ letter b → a ≡ b
unfolding letter
letter_once From From e = refl
letter_once From b e = absurd (omega arith)
letter_once To To e = refl
letter_once To b e = absurd (omega arith)
letter_once Subject Subject e = refl
letter_once Subject b e = absurd (omega arith)
letter_once Date Date e = refl
letter_once Date b e = absurd (omega arith)
letter_once Msgid Msgid e = refl
letter_once Msgid b e = absurd (omega arith)
letter_once Reply Reply e = refl
letter_once Reply b e = absurd (omega arith)
letter_once Private Private e = refl
letter_once Private b e = absurd (omega arith)

-- a line begins with one word at most
pub word_once : (a b : Field) (line : List ℕ) → BeginsWithWord a line → BeginsWithWord b line → a ≡ b
word_once a b line x y = letter_once a b (sym (first_letter a line x) ∙ first_letter b line y)

-- the empty line begins with no word
pub empty_begins : (field : Field) → BeginsWithWord field [] → ⊥
unfolding letter
empty_begins From b = omega (arith, first_letter From [] b)
empty_begins To b = omega (arith, first_letter To [] b)
empty_begins Subject b = omega (arith, first_letter Subject [] b)
empty_begins Date b = omega (arith, first_letter Date [] b)
empty_begins Msgid b = omega (arith, first_letter Msgid [] b)
empty_begins Reply b = omega (arith, first_letter Reply [] b)
empty_begins Private b = omega (arith, first_letter Private [] b)

pub begins : (field : Field) (line value : List ℕ) → HeaderLineReads line field value → BeginsWithWord field line
begins field line value h = (h.rest, h.whole)

-- a line gives a field one value at most
pub value_once : (field : Field) (line a b : List ℕ) → HeaderLineReads line field a → HeaderLineReads line field b → a ≡ b
value_once field line a b x y =
    let r : x.rest ≡ y.rest = same_rest (word_of field) (word_of field) x.rest y.rest refl (sym x.whole ∙ y.whole) in
    trimmed_unique (IsBlank Spaces) y.rest a b (subst (λ (r : List ℕ). Trimmed (IsBlank Spaces) r a) r x.trimmed) y.trimmed

-- a line that begins with none of the seven words begins with no word
pub no_word_of : (line : List ℕ) → All (λ field. BeginsWithWord field line → ⊥) (From ∷ To ∷ Subject ∷ Date ∷ Msgid ∷ Reply ∷ Private ∷ []) → (field : Field) → BeginsWithWord field line → ⊥
no_word_of line h From = h 0 From (omega arith)
no_word_of line h To = h 1 From (omega arith)
no_word_of line h Subject = h 2 From (omega arith)
no_word_of line h Date = h 3 From (omega arith)
no_word_of line h Msgid = h 4 From (omega arith)
no_word_of line h Reply = h 5 From (omega arith)
no_word_of line h Private = h 6 From (omega arith)
