-- Header lines: one line more, what they give, and where they stop.
use Rattle.std.proofs.Common.{◌≡◌, ◌⊎◌, ℕ, zero, suc, List, [], ◌∷◌, ◌++◌, Option, Some, None, sym, ap, ◌∙◌, subst, inl, inr, arith}
use Rattle.std.proofs.lemmas.List.Elements.{All-nil, All-cons, All-head, All-tail, All-push, All-contains, Contains-push, Contains-append_left}
use Rattle.std.specs.List.{Contains}
use Rattle.std.specs.Option.{MatchOption}
use Rattle.std.specs.Borrow.{Bor}
use Rattle.import_sheet.specs.Header.{BeginsWithWord, HeaderLineReads, ValueFits, rule_of_field}
use Rattle.import_sheet.specs.Sheet.{Has, HasNone, Headers, HeaderGives}
use Rattle.import_sheet.specs.Fault.{LineBreaks, no_word, word_again, bad_value, too_soon}
use Rattle.import_sheet.specs.State.{HoldsValues, value_in, with_value}
use Rattle.import_sheet.specs.declared.fault.SheetRule.{SheetRule}
use Rattle.import_sheet.specs.declared.field.Field.{Field}
use Rattle.import_sheet.specs.declared.field.Field.TheVariants.{From, To, Subject, Date, Msgid, Reply, Private}
use Rattle.import_sheet.specs.declared.found.Found.{Found}
use Rattle.import_sheet.proofs.Lines.{All_front, All_last, Hereditary}
use Rattle.import_sheet.proofs.Words.{word_once, empty_begins, begins, value_once}

abbrev NotOf : Field → List ℕ → Type 0
NotOf field line = BeginsWithWord field line → ⊥

-- one header line more
pub header_push : (hs : List (List ℕ)) (line value : List ℕ) (field : Field) → Headers hs → HasNone hs field → HeaderLineReads line field value → ValueFits field value → Headers (hs ++ line ∷ [])
header_push [] line value field h none reads fits = (field, value, reads, fits, All-nil (NotOf field), tt)
header_push (x ∷ hs) line value field h none reads fits = (
  h.0,
  h.1,
  h.2,
  h.3,
  All-push (NotOf h.0) hs line h.4 (λ b.
      let same : h.0 ≡ field = word_once h.0 field line b (begins field line value reads) in
      All-head (NotOf field) x hs none (subst (λ (f : Field). BeginsWithWord f x) same (begins h.0 x h.1 h.2))),
  header_push hs line value field h.5 (All-tail (NotOf field) x hs none) reads fits,
)

-- the last of them
pub record IsNew (hs : List (List ℕ)) (line : List ℕ) : Type 0 where
  pub field : Field
  pub value : List ℕ
  pub reads : HeaderLineReads line field value
  pub fits : ValueFits field value
  pub none : HasNone hs field

pub last_header : (hs : List (List ℕ)) (line : List ℕ) → Headers (hs ++ line ∷ []) → IsNew hs line
last_header [] line h = record { field = h.0; value = h.1; reads = h.2; fits = h.3; none = All-nil (NotOf h.0) }
last_header (x ∷ hs) line h =
    let r : IsNew hs line = last_header hs line h.5 in
    record {
      field = r.field;
      value = r.value;
      reads = r.reads;
      fits = r.fits;
      none = All-cons (NotOf r.field) x hs
          (λ b.
          let same : h.0 ≡ r.field = word_once h.0 r.field x (begins h.0 x h.1 h.2) b in
          All_last (NotOf h.0) hs line h.4 (subst (λ (f : Field). BeginsWithWord f line) (sym same) (begins r.field line r.value r.reads)))
          r.none;
    }

pub headers_front : Hereditary Headers
headers_front [] b h = tt
headers_front (x ∷ a) b h = (h.0, h.1, h.2, h.3, All_front (NotOf h.0) a b h.4, headers_front a b h.5)

pub has_not_none : (hs : List (List ℕ)) (field : Field) → Has hs field → HasNone hs field → ⊥
has_not_none hs field has none = All-contains (NotOf field) hs has.0 none has.1 has.2

pub given_has : (hs : List (List ℕ)) (field : Field) (value : List ℕ) → HeaderGives hs field value → Has hs field
given_has hs field value g = (g.0, g.1, begins field g.0 value g.2)

-- header lines stop at the empty line
pub no_empty_header : (hs : List (List ℕ)) → Headers (hs ++ [] ∷ []) → ⊥
no_empty_header hs h =
    let r : IsNew hs [] = last_header hs [] h in
    empty_begins r.field (begins r.field [] r.value r.reads)

-- and at a line that breaks a rule
pub breaks_headers : (hs : List (List ℕ)) (line : List ℕ) (rule : SheetRule) → LineBreaks hs line rule → Headers (hs ++ line ∷ []) → ⊥
breaks_headers hs line rule (no_word e some none) h =
    let r : IsNew hs line = last_header hs line h in
    none r.field (begins r.field line r.value r.reads)
breaks_headers hs line rule (word_again field e b has) h =
    let r : IsNew hs line = last_header hs line h in
    let same : field ≡ r.field = word_once field r.field line b (begins r.field line r.value r.reads) in
    has_not_none hs r.field (subst (Has hs) same has) r.none
breaks_headers hs line rule (bad_value field value e none reads bad) h =
    let r : IsNew hs line = last_header hs line h in
    let same : r.field ≡ field = word_once r.field field line (begins r.field line r.value r.reads) (begins field line value reads) in
    let reads' : HeaderLineReads line field r.value = subst (λ (f : Field). HeaderLineReads line f r.value) same r.reads in
    let fits : ValueFits field r.value = subst (λ (f : Field). ValueFits f r.value) same r.fits in
    bad (subst (ValueFits field) (value_once field line r.value value reads' reads) fits)
breaks_headers hs line rule (too_soon e some empty missing) h = no_empty_header hs (subst (λ (l : List ℕ). Headers (hs ++ l ∷ [])) empty h)

-- a line that begins with a word isn't empty
pub begins_some : (field : Field) (line : List ℕ) → BeginsWithWord field line → line ≡ [] → ⊥
begins_some field line b e = empty_begins field (subst (BeginsWithWord field) e b)

-- a line breaks one rule
pub breaks_once : (hs : List (List ℕ)) (line : List ℕ) (q r : SheetRule) → LineBreaks hs line q → LineBreaks hs line r → q ≡ r
breaks_once hs line q r (no_word e some none) (no_word e' some' none') = e ∙ sym e'
breaks_once hs line q r (no_word e some none) (word_again field e' b has) = absurd (none field b)
breaks_once hs line q r (no_word e some none) (bad_value field value e' new reads bad) = absurd (none field (begins field line value reads))
breaks_once hs line q r (no_word e some none) (too_soon e' some' empty missing) = absurd (some empty)
breaks_once hs line q r (word_again field e b has) (no_word e' some' none') = absurd (none' field b)
breaks_once hs line q r (word_again field e b has) (word_again field' e' b' has') = e ∙ sym e'
breaks_once hs line q r (word_again field e b has) (bad_value field' value e' new reads bad) =
    let same : field ≡ field' = word_once field field' line b (begins field' line value reads) in
    absurd (has_not_none hs field' (subst (Has hs) same has) new)
breaks_once hs line q r (word_again field e b has) (too_soon e' some empty missing) = absurd (begins_some field line b empty)
breaks_once hs line q r (bad_value field value e new reads bad) (no_word e' some' none') = absurd (none' field (begins field line value reads))
breaks_once hs line q r (bad_value field value e new reads bad) (word_again field' e' b' has') =
    let same : field' ≡ field = word_once field' field line b' (begins field line value reads) in
    absurd (has_not_none hs field (subst (Has hs) same has') new)
breaks_once hs line q r (bad_value field value e new reads bad) (bad_value field' value' e' new' reads' bad') =
    let same : field ≡ field' = word_once field field' line (begins field line value reads) (begins field' line value' reads') in
    e ∙ (ap rule_of_field same ∙ sym e')
breaks_once hs line q r (bad_value field value e new reads bad) (too_soon e' some empty missing) = absurd (begins_some field line (begins field line value reads) empty)
breaks_once hs line q r (too_soon e some empty missing) (no_word e' some' none') = absurd (some' empty)
breaks_once hs line q r (too_soon e some empty missing) (word_again field e' b has) = absurd (begins_some field line b empty)
breaks_once hs line q r (too_soon e some empty missing) (bad_value field value e' new reads bad) = absurd (begins_some field line (begins field line value reads) empty)
breaks_once hs line q r (too_soon e some empty missing) (too_soon e' some' empty' missing') = e ∙ sym e'

-- the first of the lines, or one of the others
pub contains_cases : (x : List ℕ) (xs : List (List ℕ)) (y : List ℕ) → Contains (x ∷ xs) y → (x ≡ y) ⊎ Contains xs y
contains_cases x xs y (zero, lt, e) = inl e
contains_cases x xs y (suc k, lt, e) = inr (k, omega arith, e)

-- a field that the first line gives is given by no other
not_again : (l : List ℕ) (hs : List (List ℕ)) (field : Field) (a b : List ℕ) → Headers (l ∷ hs) → HeaderLineReads l field a → HeaderGives hs field b → ⊥
not_again l hs field a b h reads g =
    let same : h.0 ≡ field = word_once h.0 field l (begins h.0 l h.1 h.2) (begins field l a reads) in
    has_not_none hs field (given_has hs field b g) (subst (HasNone hs) same h.4)

-- header lines give a field one value at most
pub gives_once : (hs : List (List ℕ)) (field : Field) (a b : List ℕ) → Headers hs → HeaderGives hs field a → HeaderGives hs field b → a ≡ b
gives_once [] field a b h x y = absurd (omega (arith, x.1.1))
gives_once (l ∷ hs) field a b h x y = elim (contains_cases l hs x.0 x.1) [
  | inl e ↦ elim (contains_cases l hs y.0 y.1) [
    | inl f ↦ value_once field l a b (subst (λ (k : List ℕ). HeaderLineReads k field a) (sym e) x.2) (subst (λ (k : List ℕ). HeaderLineReads k field b) (sym f) y.2)
    | inr m ↦ absurd (not_again l hs field a b h (subst (λ (k : List ℕ). HeaderLineReads k field a) (sym e) x.2) (y.0, m, y.2))
  ]
  | inr n ↦ elim (contains_cases l hs y.0 y.1) [
    | inl f ↦ absurd (not_again l hs field b a h (subst (λ (k : List ℕ). HeaderLineReads k field b) (sym f) y.2) (x.0, n, x.2))
    | inr m ↦ gives_once hs field a b h.5 (x.0, n, x.2) (y.0, m, y.2)
  ]
]

-- a value that is given fits
pub gives_fits : (hs : List (List ℕ)) (field : Field) (value : List ℕ) → Headers hs → HeaderGives hs field value → ValueFits field value
gives_fits [] field value h x = absurd (omega (arith, x.1.1))
gives_fits (l ∷ hs) field value h x = elim (contains_cases l hs x.0 x.1) [
  | inl e ↦
      let reads : HeaderLineReads l field value = subst (λ (k : List ℕ). HeaderLineReads k field value) (sym e) x.2 in
      let same : h.0 ≡ field = word_once h.0 field l (begins h.0 l h.1 h.2) (begins field l value reads) in
      let first : HeaderLineReads l field h.1 = subst (λ (f : Field). HeaderLineReads l f h.1) same h.2 in
      let fits : ValueFits field h.1 = subst (λ (f : Field). ValueFits f h.1) same h.3 in
      subst (ValueFits field) (value_once field l h.1 value first reads) fits
  | inr n ↦ gives_fits hs field value h.5 (x.0, n, x.2)
]

-- the values that are held go on to be, and the new one is
pub gives_push : (hs : List (List ℕ)) (line value : List ℕ) (field : Field) → HeaderLineReads line field value → HeaderGives (hs ++ line ∷ []) field value
gives_push hs line value field reads = (line, Contains-push hs line, reads)

keeps : (hs : List (List ℕ)) (line : List ℕ) (field : Field) (o : Option (Bor (List ℕ))) → (BeginsWithWord field line → ⊥) → MatchOption o (HasNone hs field) (λ v. HeaderGives hs field v.now) → MatchOption o (HasNone (hs ++ line ∷ []) field) (λ v. HeaderGives (hs ++ line ∷ []) field v.now)
keeps hs line field None other h = All-push (NotOf field) hs line h other
keeps hs line field (Some v) other h = (h.0, Contains-append_left hs (line ∷ []) h.0 h.1, h.2)

not_other : (f g : Field) (line value : List ℕ) → HeaderLineReads line f value → (f ≡ g → ⊥) → BeginsWithWord g line → ⊥
not_other f g line value reads other b = other (word_once f g line (begins f line value reads) b)

pub holds_push : (hs : List (List ℕ)) (line : List ℕ) (found : Found) (value : Bor (List ℕ)) (f : Field) → HeaderLineReads line f value.now → HoldsValues hs found → HoldsValues (hs ++ line ∷ []) (with_value found f value)
holds_push hs line found value From reads h From = gives_push hs line value.now From reads
holds_push hs line found value From reads h g = keeps hs line g (value_in found g) (not_other From g line value.now reads (λ e. cc)) (h g)
holds_push hs line found value To reads h To = gives_push hs line value.now To reads
holds_push hs line found value To reads h g = keeps hs line g (value_in found g) (not_other To g line value.now reads (λ e. cc)) (h g)
holds_push hs line found value Subject reads h Subject = gives_push hs line value.now Subject reads
holds_push hs line found value Subject reads h g = keeps hs line g (value_in found g) (not_other Subject g line value.now reads (λ e. cc)) (h g)
holds_push hs line found value Date reads h Date = gives_push hs line value.now Date reads
holds_push hs line found value Date reads h g = keeps hs line g (value_in found g) (not_other Date g line value.now reads (λ e. cc)) (h g)
holds_push hs line found value Msgid reads h Msgid = gives_push hs line value.now Msgid reads
holds_push hs line found value Msgid reads h g = keeps hs line g (value_in found g) (not_other Msgid g line value.now reads (λ e. cc)) (h g)
holds_push hs line found value Reply reads h Reply = gives_push hs line value.now Reply reads
holds_push hs line found value Reply reads h g = keeps hs line g (value_in found g) (not_other Reply g line value.now reads (λ e. cc)) (h g)
holds_push hs line found value Private reads h Private = gives_push hs line value.now Private reads
holds_push hs line found value Private reads h g = keeps hs line g (value_in found g) (not_other Private g line value.now reads (λ e. cc)) (h g)
