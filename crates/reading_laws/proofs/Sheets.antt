-- Any bytes read as a sheet, or have a first line that breaks a rule.
use Rattle.std.proofs.Common.{◌≡◌, ◌≢◌, ◌⊎◌, ◌↔◌, inl, inr, ⊎_elim, ℕ, zero, suc, ◌+◌, ◌<◌, ◌≤◌, Bool, true, false, List, [], ◌∷◌, ◌++◌, Option, Some, None, IsTrue, length, codes, refl, sym, ap, ◌∙◌, subst, arith, length-append, append_assoc}
use Rattle.std.proofs.lemmas.Bool.{cases_eq, cases_lt}
use Rattle.std.proofs.lemmas.List.{append-nil}
use Rattle.std.proofs.lemmas.List.Elements.{All-nil, All-cons}
use Rattle.std.specs.List.{All, Contains}
use Rattle.std.specs.Str.Lines.{lines}
use Rattle.import_sheet.proofs.Bodies.{body_push, no_lines, over}
use Rattle.import_sheet.proofs.Given.{no_yes, yes_given}
use Rattle.import_sheet.proofs.Heads.{gives_fits, header_push}
use Rattle.import_sheet.proofs.Lines.{nothing_starts}
use Rattle.import_sheet.proofs.Reading.{sheets_blanks, sheets_push}
use Rattle.import_sheet.proofs.Words.{no_word_of}
use Rattle.import_sheet.specs.Fault.{BodyBreaks, HeaderBreaks, SheetLinesFault, MessageFault, SheetFault, WholeHeaders, bad_value, by_line, in_body, in_headers, no_dot, no_line, no_word, too_long, too_soon, with_return, word_again}
use Rattle.import_sheet.specs.Header.{BeginsWithWord, DateIs, HeaderLineReads, IsPlainText, ValueFits, rule_of_field, word_of}
use Rattle.import_sheet.specs.Sheet.{AllEmpty, BodyLines, FieldsAre, Has, HasNone, HeaderGives, HeaderGivesDate, HeaderGivesOrEmpty, Headers, SheetIs, SheetReads, SheetsAre, dot, stored_body, without_dot}
use Rattle.import_sheet.specs.State.{StartsWithText}
use Rattle.import_sheet.specs.declared.fault.SheetRule.{SheetRule}
use Rattle.import_sheet.specs.declared.fault.SheetRule.TheVariants.{Header, Twice, Missing, Byte, Length, End}
use Rattle.import_sheet.specs.declared.field.Field.{Field}
use Rattle.import_sheet.specs.declared.field.Field.TheVariants.{From, To, Subject, Date, Msgid, Reply, Private}
use Rattle.import_sheet.specs.declared.sheet.Sheet.{Sheet}
use Rattle.text_fields.proofs.Fields.{all_or_not, split_or_lacks, some_trimmed, value_or_none}
use Rattle.text_fields.proofs.Splits.{not_split}
use Rattle.text_fields.specs.Blank.{IsBlank}
use Rattle.text_fields.specs.Trim.{Trimmed}
use Rattle.text_fields.specs.declared.blank.Blank.TheVariants.{Spaces}

-- ---- texts
space_or_not : (b : ℕ) → IsBlank Spaces b ⊎ (IsBlank Spaces b → ⊥)
space_or_not b = elim (cases_eq b 32) [ inl e ↦ inl e | inr other ↦ inr other ]

same_text : (xs ys : List ℕ) → (xs ≡ ys) ⊎ (xs ≡ ys → ⊥)
same_text [] [] = inl refl
same_text [] (y ∷ ys) = inr (λ e. cc e)
same_text (x ∷ xs) [] = inr (λ e. cc e)
same_text (x ∷ xs) (y ∷ ys) = elim (cases_eq x y) [
  | inl e ↦ elim (same_text xs ys) [
    | inl r ↦ inl (λ i. e i ∷ r i)
    | inr refuted ↦ inr (λ q. let r : xs ≡ ys = cc in refuted r)
  ]
  | inr refuted ↦ inr (λ q. let e : x ≡ y = cc in refuted e)
]

front_or_not : (front text : List ℕ) → ((rest : List ℕ) × (text ≡ front ++ rest)) ⊎ ((rest : List ℕ) → text ≡ front ++ rest → ⊥)
front_or_not [] text = inl (text, refl)
front_or_not (f ∷ front) [] = inr (λ rest e. cc e)
front_or_not (f ∷ front) (x ∷ text) = elim (cases_eq x f) [
  | inl same ↦ elim (front_or_not front text) [
    | inl r ↦ inl (r.0, (λ i. same i ∷ r.1 i))
    | inr refuted ↦ inr (λ rest e. let r : text ≡ front ++ rest = cc in refuted rest r)
  ]
  | inr other ↦ inr (λ rest e. let s : x ≡ f = cc in other s)
]

-- ---- one header line
fields : List Field
fields = From ∷ To ∷ Subject ∷ Date ∷ Msgid ∷ Reply ∷ Private ∷ []

abbrev NotOf : List ℕ → Field → Type 0
NotOf line field = BeginsWithWord field line → ⊥

field_among : (line : List ℕ) (some : List Field) → ((field : Field) × BeginsWithWord field line) ⊎ All (NotOf line) some
field_among line [] = inr (All-nil (NotOf line))
field_among line (field ∷ some) = elim (front_or_not (word_of field) line) [
  | inl begins ↦ inl (field, begins)
  | inr refuted ↦ elim (field_among line some) [
    | inl found ↦ inl found
    | inr none ↦ inr (All-cons (NotOf line) field some (λ begins. refuted begins.0 begins.1) none)
  ]
]

field_or_none : (line : List ℕ) → ((field : Field) × BeginsWithWord field line) ⊎ ((field : Field) → BeginsWithWord field line → ⊥)
unfolding fields
field_or_none line = elim (field_among line fields) [ inl found ↦ inl found | inr none ↦ inr (no_word_of line none) ]

value_of : (field : Field) (line : List ℕ) → BeginsWithWord field line → (value : List ℕ) × HeaderLineReads line field value
value_of field line begins =
    let t : (text : List ℕ) × Trimmed (IsBlank Spaces) begins.0 text = some_trimmed (IsBlank Spaces) space_or_not begins.0 in
    (t.0, record { rest = begins.0; whole = begins.1; trimmed = t.1 })

plain_or_not : (least most : ℕ) (value : List ℕ) → IsPlainText least most value ⊎ (IsPlainText least most value → ⊥)
plain_or_not least most value = elim (cases_lt (length value) least) [
  | inl few ↦ inr (λ x. absurd (omega (arith, x.some, few)))
  | inr some ↦ elim (cases_lt most (length value)) [
    | inl many ↦ inr (λ x. absurd (omega (arith, x.short, many)))
    | inr short ↦ elim (all_or_not (λ b. 0x20 ≤ b) printed value) [
      | inl plain ↦ inl (record { some = some; short = short; plain = plain })
      | inr refuted ↦ inr (λ x. refuted x.plain)
    ]
  ]
]
  where
    printed : (b : ℕ) → (0x20 ≤ b) ⊎ (0x20 ≤ b → ⊥)
    printed b = elim (cases_lt b 0x20) [ inl low ↦ inr (λ le. omega (arith, low, le)) | inr le ↦ inl le ]

date_or_none : (value : List ℕ) → ((n : ℕ) × DateIs value n) ⊎ ((n : ℕ) × DateIs value n → ⊥)
date_or_none value = elim (value_or_none value) [
  | inr none ↦ inr (λ x. none x.0 x.1.digits)
  | inl v ↦ elim (cases_lt 10 (length value)) [
    | inl long ↦ inr (λ x. absurd (omega (arith, x.1.short, long)))
    | inr short ↦ elim (cases_lt 4294967295 v.0) [
      | inl great ↦ inr (λ x. let same : v.0 ≡ x.0 = v.1.value ∙ sym x.1.digits.value in absurd (omega (arith, same, x.1.fits, great)))
      | inr small ↦ inl (v.0, record { short = short; digits = v.1; fits = small })
    ]
  ]
]

yes_or_no : (value : List ℕ) → ValueFits Private value ⊎ (ValueFits Private value → ⊥)
yes_or_no value = elim (same_text value (codes "yes")) [
  | inl confirmed ↦ inl (inl confirmed)
  | inr other ↦ elim (same_text value (codes "no")) [
    | inl refuted ↦ inl (inr refuted)
    | inr neither ↦ inr (λ x. ⊎_elim other neither x)
  ]
]

fits_or_not : (field : Field) (value : List ℕ) → ValueFits field value ⊎ (ValueFits field value → ⊥)
fits_or_not From value = plain_or_not 1 36 value
fits_or_not To value = plain_or_not 1 36 value
fits_or_not Subject value = plain_or_not 0 72 value
fits_or_not Date value = date_or_none value
fits_or_not Msgid value = plain_or_not 1 80 value
fits_or_not Reply value = plain_or_not 1 80 value
fits_or_not Private value = yes_or_no value

-- ---- the header lines of a message
in_front : {X : Type 0} (x : X) (xs : List X) → Contains (x ∷ xs) x
in_front x xs = (0, omega arith, refl)

behind : {X : Type 0} (x y : X) (xs : List X) → Contains xs y → Contains (x ∷ xs) y
behind x y xs there = (suc there.0, omega (arith, there.1), there.2)

has_or_none : (hs : List (List ℕ)) (field : Field) → Has hs field ⊎ HasNone hs field
has_or_none [] field = inr (All-nil (λ line. BeginsWithWord field line → ⊥))
has_or_none (line ∷ hs) field = elim (front_or_not (word_of field) line) [
  | inl begins ↦ inl (line, in_front line hs, begins)
  | inr refuted ↦ elim (has_or_none hs field) [
    | inl has ↦ inl (has.0, behind line has.0 hs has.1, has.2)
    | inr none ↦ inr (All-cons (λ line. BeginsWithWord field line → ⊥) line hs (λ begins. refuted begins.0 begins.1) none)
  ]
]

given : (hs : List (List ℕ)) (field : Field) → Has hs field → (value : List ℕ) × HeaderGives hs field value
given hs field has =
    let v : (value : List ℕ) × HeaderLineReads has.0 field value = value_of field has.0 has.2 in
    (v.0, (has.0, has.1, v.1))

given_or_empty : (hs : List (List ℕ)) (field : Field) → (text : List ℕ) × HeaderGivesOrEmpty hs field text
given_or_empty hs field = elim (has_or_none hs field) [
  | inl has ↦ let v : (value : List ℕ) × HeaderGives hs field value = given hs field has in (v.0, inl v.1)
  | inr none ↦ ([], inr (none, refl))
]

given_date : (hs : List (List ℕ)) → Headers hs → (date : Option ℕ) × HeaderGivesDate hs date
given_date hs headed = elim (has_or_none hs Date) [
  | inl has ↦
      let v : (value : List ℕ) × HeaderGives hs Date value = given hs Date has in
      let fits : (n : ℕ) × DateIs v.0 n = gives_fits hs Date v.0 headed v.1 in
      (Some fits.0, (v.0, v.1, fits.1))
  | inr none ↦ (None, none)
]

abbrev Said : List (List ℕ) → Type 0
Said hs = (said : Bool) × (IsTrue said ↔ HeaderGives hs Private (codes "yes"))

given_private : (hs : List (List ℕ)) → Headers hs → Said hs
given_private hs headed = elim (has_or_none hs Private) [
  | inl has ↦
      let v : (value : List ℕ) × HeaderGives hs Private value = given hs Private has in
      elim (same_text v.0 (codes "yes")) [
        | inl confirmed ↦ (true, yes_given hs v.0 true headed v.1 (λ t. confirmed) (λ e. refl))
        | inr refuted ↦ (false, yes_given hs v.0 false headed v.1 (λ t. cc t) (λ e. absurd (refuted e)))
      ]
  | inr none ↦ (false, (λ t. cc t, λ gives. absurd (no_yes hs none gives)))
]

sheet_of : (hs : List (List ℕ)) → WholeHeaders hs → (body : List ℕ) → (sheet : Sheet) × FieldsAre hs sheet × (sheet.body ≡ body)
sheet_of hs whole body =
    let from : (value : List ℕ) × HeaderGives hs From value = given hs From whole.from in
    let to : (value : List ℕ) × HeaderGives hs To value = given hs To whole.to in
    let subject : (text : List ℕ) × HeaderGivesOrEmpty hs Subject text = given_or_empty hs Subject in
    let msgid : (text : List ℕ) × HeaderGivesOrEmpty hs Msgid text = given_or_empty hs Msgid in
    let reply : (text : List ℕ) × HeaderGivesOrEmpty hs Reply text = given_or_empty hs Reply in
    let date : (date : Option ℕ) × HeaderGivesDate hs date = given_date hs whole.headed in
    let said : Said hs = given_private hs whole.headed in (
      record { from = from.0; to = to.0; subject = subject.0; date = date.0; msgid = msgid.0; reply = reply.0; private = said.0; body = body },
      record { from = from.1; to = to.1; subject = subject.1; date = date.1; msgid = msgid.1; reply = reply.1; private = said.1 },
      refl,
    )

-- ---- one message
abbrev IsMessage : List (List ℕ) → Type 0
IsMessage all = ((own more : List (List ℕ)) × (sheet : Sheet) × (all ≡ own ++ more) × SheetIs own sheet) ⊎ ((place : ℕ) × (rule : SheetRule) × MessageFault all place rule)

module _ (all : List (List ℕ)) where
  breaks_in_body : (headers body rest : List (List ℕ)) (rule : SheetRule) → all ≡ headers ++ [] ∷ (body ++ rest) → WholeHeaders headers → BodyLines body → BodyBreaks body rest rule → IsMessage all
  breaks_in_body headers body rest rule whole heads lines breaks = inr (length headers + 1 + length body, rule, in_body headers body rest whole heads lines breaks refl)

  message_ends : (headers body rest : List (List ℕ)) → all ≡ headers ++ [] ∷ (body ++ dot ∷ rest) → WholeHeaders headers → BodyLines body → IsMessage all
  message_ends headers body rest whole heads lines =
      let s : (sheet : Sheet) × FieldsAre headers sheet × (sheet.body ≡ stored_body body) = sheet_of headers heads (stored_body body) in
      let own : List (List ℕ) = headers ++ [] ∷ (body ++ dot ∷ []) in
      let split : own ++ rest ≡ headers ++ [] ∷ (body ++ dot ∷ rest) =
      append_assoc headers ([] ∷ (body ++ dot ∷ [])) rest ∙ ap (λ (l : List (List ℕ)). headers ++ [] ∷ l) (append_assoc body (dot ∷ []) rest) in
      inl (own, rest, s.0, whole ∙ sym split, record { headers = headers; body = body; whole = refl; headed = heads.headed; fields = s.1; bodied = lines; text = s.2 })

  bodies : (rest headers body : List (List ℕ)) → all ≡ headers ++ [] ∷ (body ++ rest) → WholeHeaders headers → BodyLines body → IsMessage all
  bodies [] headers body whole heads lines = breaks_in_body headers body [] End whole heads lines (no_dot refl refl)
  bodies (line ∷ rest) headers body whole heads lines = elim (same_text line dot) [
    | inl is ↦ message_ends headers body rest (whole ∙ ap (λ (l : List ℕ). headers ++ [] ∷ (body ++ l ∷ rest)) is) heads lines
    | inr other ↦ elim (split_or_lacks 13 line) [
      | inl s ↦ breaks_in_body headers body (line ∷ rest) Byte whole heads lines (with_return line refl (rest, refl) (λ clear. not_split 13 line s.0 s.1 clear s.2.whole))
      | inr clear ↦ elim (cases_lt (length (stored_body body) + length (without_dot line)) 16384) [
        | inl fits ↦
            bodies rest headers (body ++ line ∷ []) (whole ∙ ap (λ (l : List (List ℕ)). headers ++ [] ∷ l) (sym (append_assoc body (line ∷ []) rest))) heads
            (body_push body line lines other clear fits)
        | inr many ↦ breaks_in_body headers body (line ∷ rest) Length whole heads lines (too_long line refl (rest, refl) other clear (over body line many))
      ]
    ]
  ]

  breaks_in_heads : (headers rest : List (List ℕ)) (rule : SheetRule) → all ≡ headers ++ rest → Headers headers → HeaderBreaks headers rest rule → IsMessage all
  breaks_in_heads headers rest rule whole heads breaks = inr (length headers, rule, in_headers headers rest whole heads breaks refl)

  heads_end : (headers rest : List (List ℕ)) → all ≡ headers ++ [] ∷ rest → Headers headers → headers ≢ [] → IsMessage all
  heads_end headers rest whole heads some = elim (has_or_none headers From) [
    | inr none ↦ breaks_in_heads headers ([] ∷ rest) Missing whole heads (by_line [] (rest, refl) (too_soon refl some refl (inl none)))
    | inl from ↦ elim (has_or_none headers To) [
      | inr none ↦ breaks_in_heads headers ([] ∷ rest) Missing whole heads (by_line [] (rest, refl) (too_soon refl some refl (inr none)))
      | inl to ↦ bodies rest headers [] whole (record { headed = heads; from = from; to = to }) no_lines
    ]
  ]

  -- a line that isn't empty
  head_line : (headers rest : List (List ℕ)) (line : List ℕ) → line ≢ [] → all ≡ headers ++ line ∷ rest → Headers headers
      → ((value : List ℕ) (field : Field) → HasNone headers field → HeaderLineReads line field value → ValueFits field value → IsMessage all) → IsMessage all
  head_line headers rest line some whole heads on = elim (field_or_none line) [
    | inr none ↦ breaks_in_heads headers (line ∷ rest) Header whole heads (by_line line (rest, refl) (no_word refl some none))
    | inl f ↦ elim (has_or_none headers f.0) [
      | inl has ↦ breaks_in_heads headers (line ∷ rest) Twice whole heads (by_line line (rest, refl) (word_again f.0 refl f.1 has))
      | inr none ↦
          let v : (value : List ℕ) × HeaderLineReads line f.0 value = value_of f.0 line f.1 in
          elim (fits_or_not f.0 v.0) [
            | inl fits ↦ on v.0 f.0 none v.1 fits
            | inr bad ↦ breaks_in_heads headers (line ∷ rest) (rule_of_field f.0) whole heads (by_line line (rest, refl) (bad_value f.0 v.0 refl none v.1 bad))
          ]
    ]
  ]

  heads : (rest headers : List (List ℕ)) → all ≡ headers ++ rest → Headers headers → (headers ≡ [] → StartsWithText rest) → IsMessage all
  heads [] headers whole good starts = breaks_in_heads headers [] End whole good (no_line refl (λ e. nothing_starts (starts e)) refl)
  heads ([] ∷ rest) headers whole good starts = heads_end headers rest whole good (λ e. not_empty (starts e))
    where
      not_empty : StartsWithText ([] ∷ rest) → ⊥
      not_empty s = let e = s.2 in let first : s.0 ≡ [] = cc in s.3 first
  heads ((b ∷ line) ∷ rest) headers whole good starts =
      head_line headers rest (b ∷ line) (λ e. cc e) whole good (λ value field none reads fits.
      heads rest (headers ++ (b ∷ line) ∷ []) (whole ∙ sym (append_assoc headers ((b ∷ line) ∷ []) rest)) (header_push headers (b ∷ line) value field good none reads fits)
      (λ e. absurd (omega (arith, ap length e, length-append headers ((b ∷ line) ∷ [])))))

message : (all : List (List ℕ)) → StartsWithText all → IsMessage all
message all starts = heads all all [] refl tt (λ e. starts)

-- ---- all lines
abbrev IsSheet : List (List ℕ) → Type 0
IsSheet all = ((sheets : List Sheet) × SheetsAre all sheets) ⊎ ((number : ℕ) × (rule : SheetRule) × SheetLinesFault all number rule)

blanks_of : (all : List (List ℕ)) → (blanks left : List (List ℕ)) × (all ≡ blanks ++ left) × AllEmpty blanks × ((left ≡ []) ⊎ StartsWithText left)
blanks_of [] = ([], [], refl, All-nil (λ line. line ≡ []), inl refl)
blanks_of ([] ∷ all) =
    let more = blanks_of all in
    ([] ∷ more.0, more.1, ap (λ (l : List (List ℕ)). [] ∷ l) more.2, All-cons (λ line. line ≡ []) [] more.0 refl more.3, more.4)
blanks_of ((b ∷ line) ∷ all) = ([], (b ∷ line) ∷ all, refl, All-nil (λ line. line ≡ []), inr (b ∷ line, all, refl, (λ e. cc e)))

own_size : (own : List (List ℕ)) (sheet : Sheet) → SheetIs own sheet → 0 < length own
own_size own sheet is = omega (arith, ap length is.whole, length-append is.headers ([] ∷ (is.body ++ dot ∷ [])))

module _ (all : List (List ℕ)) where
  abbrev Walks : ℕ → Type 0
  Walks fuel = (before rest : List (List ℕ)) (sheets : List Sheet) → all ≡ before ++ rest → SheetsAre before sheets → length rest ≤ fuel → IsSheet all

  one_message : (fuel : ℕ) → Walks fuel → (before blanks left : List (List ℕ)) (sheets : List Sheet) → all ≡ before ++ (blanks ++ left) → SheetsAre before sheets → AllEmpty blanks → length left ≤ suc fuel
      → IsMessage left → IsSheet all
  one_message fuel on before blanks left sheets whole read empty few (inl m) =
      let split : before ++ (blanks ++ left) ≡ (before ++ (blanks ++ m.0)) ++ m.1 =
      ap (λ (l : List (List ℕ)). before ++ (blanks ++ l)) m.3 ∙ (ap (λ (l : List (List ℕ)). before ++ l) (sym (append_assoc blanks m.0 m.1)) ∙ sym (append_assoc before (blanks ++ m.0) m.1)) in
      on (before ++ (blanks ++ m.0)) m.1 (sheets ++ m.2 ∷ []) (whole ∙ split) (sheets_push before blanks m.0 sheets m.2 read empty m.4)
      (omega (arith, few, ap length m.3, length-append m.0 m.1, own_size m.0 m.2 m.4))
  one_message fuel on before blanks left sheets whole read empty few (inr f) = inr (
    length (before ++ blanks) + f.0 + 1,
    f.1,
    record {
      before = before ++ blanks;
      rest = left;
      sheets = sheets;
      place = f.0;
      whole = whole ∙ sym (append_assoc before blanks left);
      read = sheets_blanks before blanks sheets read empty;
      fault = f.2;
      at = refl;
    },
  )

  all_blank : (before blanks left : List (List ℕ)) (sheets : List Sheet) → all ≡ before ++ (blanks ++ left) → SheetsAre before sheets → AllEmpty blanks → left ≡ [] → IsSheet all
  all_blank before blanks left sheets whole read empty none =
      let is : all ≡ before ++ blanks = whole ∙ ap (λ (l : List (List ℕ)). before ++ (blanks ++ l)) none ∙ ap (λ (l : List (List ℕ)). before ++ l) (append-nil blanks) in
      inl (sheets, subst (λ (l : List (List ℕ)). SheetsAre l sheets) (sym is) (sheets_blanks before blanks sheets read empty))

  walks : (fuel : ℕ) → Walks fuel
  walks zero before rest sheets whole read few =
      all_blank before [] rest sheets whole read (All-nil (λ line. line ≡ [])) (none rest few)
    where
      none : (xs : List (List ℕ)) → length xs ≤ zero → xs ≡ []
      none [] le = refl
      none (x ∷ xs) le = absurd (omega (arith, le))
  walks (suc fuel) before rest sheets whole read few =
      let b = blanks_of rest in
      let split : all ≡ before ++ (b.0 ++ b.1) = whole ∙ ap (λ (l : List (List ℕ)). before ++ l) b.2 in
      ⊎_elim
      (λ none. all_blank before b.0 b.1 sheets split read b.3 none)
      (λ starts. one_message fuel (walks fuel) before b.0 b.1 sheets split read b.3 (omega (arith, few, ap length b.2, length-append b.0 b.1)) (message b.1 starts)) b.4

pub sheet_or_fault : (bytes : List ℕ) → ((sheets : List Sheet) × SheetReads bytes sheets) ⊎ ((number : ℕ) × (rule : SheetRule) × SheetFault bytes number rule)
sheet_or_fault bytes = walks (lines bytes) (length (lines bytes)) [] (lines bytes) [] refl (All-nil (λ line. line ≡ [])) (omega arith)
