-- From the lines that the reader took to a message, to a list of messages, or to a fault.
use Rattle.std.proofs.Common.{◌≡◌, ◌≢◌, ◌⊎◌, ℕ, ◌+◌, List, [], ◌∷◌, ◌++◌, Result, Ok, Err, length, length-append, refl, sym, ap, ◌∙◌, subst, arith, append_assoc}
use Rattle.std.proofs.lemmas.List.{append-nil}
use Rattle.std.proofs.lemmas.List.Elements.{All-nil, All-append}
use Rattle.std.specs.Result.{MatchResult, IfOk}
use Rattle.std.specs.Str.Lines.{lines}
use Rattle.import_sheet.specs.Sheet.{HasNone, Headers, FieldsAre, SheetIs, SheetsAre, AllEmpty, dot}
use Rattle.import_sheet.specs.Fault.{WholeHeaders, LineBreaks, too_soon, by_line, no_line, in_headers, in_body, SheetLinesFault}
use Rattle.import_sheet.specs.State.{Ahead, StartsWithText, HoldsValues, FaultAt, HeadersTaken, BodyTaken, BodyFaultAt, SheetTaken, SheetFaultOrMemory}
use Rattle.import_sheet.specs.declared.fault.SheetError.{SheetError}
use Rattle.import_sheet.specs.declared.fault.SheetError.TheVariants.{Line, OutOfMemory}
use Rattle.import_sheet.specs.declared.fault.SheetRule.{SheetRule}
use Rattle.import_sheet.specs.declared.fault.SheetRule.TheVariants.{Missing, End}
use Rattle.import_sheet.specs.declared.field.Field.TheVariants.{From, To}
use Rattle.import_sheet.specs.declared.found.Found.{Found}
use Rattle.import_sheet.specs.declared.sheet.Sheet.{Sheet}
use Rattle.text_fields.specs.declared.unread.Unread.{Unread}
use Rattle.text_fields.proofs.Numbered.{more_taken}
use Rattle.import_sheet.proofs.Lines.{nothing_starts}

pub weaker_fault : (P Q : ℕ → SheetRule → Type 0) → ((n : ℕ) (r : SheetRule) → P n r → Q n r) → (e : SheetError) → SheetFaultOrMemory P e → SheetFaultOrMemory Q e
weaker_fault P Q f (Line n r) h = f n r h
weaker_fault P Q f OutOfMemory h = tt

-- header lines were taken where what is left doesn't start a message
started : (all left headers : List (List ℕ)) (number at : ℕ) → StartsWithText all → Ahead all number left at headers → (StartsWithText left → ⊥) → headers ≢ []
started all left headers number at s x not e = not (subst StartsWithText (x.whole ∙ ap (λ (h : List (List ℕ)). h ++ left) e) s)

empty_starts_none : (left more : List (List ℕ)) → left ≡ [] ∷ more → StartsWithText left → ⊥
empty_starts_none left more e s = let both : [] ∷ more ≡ s.0 ∷ s.1 = sym e ∙ s.2 in let first : s.0 ≡ [] = cc in s.3 first

pub end_fault : (all left headers : List (List ℕ)) (number at : ℕ) → StartsWithText all → Headers headers → Ahead all number left at headers → left ≡ [] → FaultAt all number at End
end_fault all left headers number at s h x e =
    (length headers, x.count, in_headers headers left x.whole h (no_line refl (started all left headers number at s x (λ t. nothing_starts (subst StartsWithText e t))) e) refl)

missing_fault : (all left after headers : List (List ℕ)) (number at : ℕ) → StartsWithText all → Headers headers → Ahead all number left at headers → left ≡ [] ∷ after → HasNone headers From ⊎ HasNone headers To → FaultAt all number at Missing
missing_fault all left after headers number at s h x e none =
    (length headers, x.count, in_headers headers left x.whole h (by_line [] (after, e) (too_soon refl (started all left headers number at s x (empty_starts_none left after e)) refl none)) refl)

pub line_fault : (all left after headers : List (List ℕ)) (line : List ℕ) (number at n : ℕ) (rule : SheetRule) → Headers headers → Ahead all number left at headers → left ≡ line ∷ after → (n ≡ at) × LineBreaks headers line rule → FaultAt all number n rule
line_fault all left after headers line number at n rule h x e f =
    (length headers, f.0 ∙ x.count, in_headers headers left x.whole h (by_line line (after, e) f.1) refl)

-- the empty line ends the headers, or comes too soon
pub ended_cases : (all left headers : List (List ℕ)) (number at : ℕ) (found : Found) (after : Unread) (r : Result (Found × Unread) SheetError)
    → StartsWithText all → Headers headers → HoldsValues headers found → Ahead all number left at headers → Ahead left at (lines after.text.now) after.line ([] ∷ [])
    → IfOk r (λ taken. (taken.0 ≡ found) × (taken.1 ≡ after))
    → MatchResult r (λ _. WholeHeaders headers) (SheetFaultOrMemory (λ n broken. (n ≡ at) × (broken ≡ Missing) × (HasNone headers From ⊎ HasNone headers To)))
    → MatchResult r (λ taken. HeadersTaken all number taken.0 (lines taken.1.text.now) taken.1.line) (SheetFaultOrMemory (FaultAt all number))
ended_cases all left headers number at found after (Ok taken) s h holds x y same whole =
    let is : (taken.0 ≡ found) × (taken.1 ≡ after) = same in
    let front : Ahead all number (lines after.text.now) after.line (headers ++ [] ∷ []) = more_taken all left (lines after.text.now) headers ([] ∷ []) number at after.line x y in
    subst (λ (f : Found). HeadersTaken all number f (lines taken.1.text.now) taken.1.line) (sym is.0)
    (subst (λ (u : Unread). HeadersTaken all number found (lines u.text.now) u.line) (sym is.1) (headers, whole, holds, front))
ended_cases all left headers number at found after (Err (Line n broken)) s h holds x y same fault =
    subst (λ (k : ℕ). FaultAt all number k broken) (sym fault.0)
    (subst (FaultAt all number at) (sym fault.1) (missing_fault all left (lines after.text.now) headers number at s h x y.whole fault.2))
ended_cases all left headers number at found after (Err OutOfMemory) s h holds x y same fault = tt

-- a fault behind the header lines
pub body_fault : (all left : List (List ℕ)) (number at : ℕ) (found : Found) → HeadersTaken all number found left at → (n : ℕ) (rule : SheetRule) → BodyFaultAt left at n rule → FaultAt all number n rule
body_fault all left number at found t n rule f = (
  length t.0 + 1 + length f.0,
  omega (arith, f.5, t.3.count, length-append t.0 ([] ∷ [])),
  in_body t.0 f.0 f.1 (t.3.whole ∙ (append_assoc t.0 ([] ∷ []) left ∙ ap (λ (l : List (List ℕ)). t.0 ++ [] ∷ l) f.2)) t.1 f.3 f.4 refl,
)

-- the lines of a message
pub sheet_taken : (all left after : List (List ℕ)) (number at next : ℕ) (found : Found) (text : List ℕ) (sheet : Sheet) → (t : HeadersTaken all number found left at) → BodyTaken left at text after next → FieldsAre t.0 sheet → sheet.body ≡ text → SheetTaken all number sheet after next
sheet_taken all left after number at next found text sheet t b fields body =
    let own : List (List ℕ) = t.0 ++ [] ∷ (b.0 ++ dot ∷ []) in (
      own,
      record { headers = t.0; body = b.0; whole = refl; headed = t.1.headed; fields = fields; bodied = b.1; text = body ∙ b.2 },
      subst (Ahead all number after next) (append_assoc t.0 ([] ∷ []) (b.0 ++ dot ∷ [])) (more_taken all left after (t.0 ++ [] ∷ []) (b.0 ++ dot ∷ []) number at next t.3 b.3),
    )

-- one message more, and some empty lines more
pub sheets_push : (before blanks own : List (List ℕ)) (sheets : List Sheet) (sheet : Sheet) → SheetsAre before sheets → AllEmpty blanks → SheetIs own sheet → SheetsAre (before ++ (blanks ++ own)) (sheets ++ sheet ∷ [])
sheets_push before blanks own [] sheet h e is = (
  before ++ blanks,
  own,
  [],
  ap (λ (l : List (List ℕ)). before ++ (blanks ++ l)) (sym (append-nil own)) ∙ sym (append_assoc before blanks (own ++ [])),
  All-append (λ (line : List ℕ). line ≡ []) before blanks h e,
  is,
  All-nil (λ (line : List ℕ). line ≡ []),
)
sheets_push before blanks own (first ∷ sheets) sheet h e is = (
  h.0,
  h.1,
  h.2 ++ (blanks ++ own),
  ap (λ (l : List (List ℕ)). l ++ (blanks ++ own)) h.3 ∙ (append_assoc h.0 (h.1 ++ h.2) (blanks ++ own) ∙ ap (λ (l : List (List ℕ)). h.0 ++ l) (append_assoc h.1 h.2 (blanks ++ own))),
  h.4,
  h.5,
  sheets_push h.2 blanks own sheets sheet h.6 e is,
)

pub sheets_blanks : (before blanks : List (List ℕ)) (sheets : List Sheet) → SheetsAre before sheets → AllEmpty blanks → SheetsAre (before ++ blanks) sheets
sheets_blanks before blanks [] h e = All-append (λ (line : List ℕ). line ≡ []) before blanks h e
sheets_blanks before blanks (first ∷ sheets) h e = (
  h.0,
  h.1,
  h.2 ++ blanks,
  ap (λ (l : List (List ℕ)). l ++ blanks) h.3 ∙ (append_assoc h.0 (h.1 ++ h.2) blanks ∙ ap (λ (l : List (List ℕ)). h.0 ++ l) (append_assoc h.1 h.2 blanks)),
  h.4,
  h.5,
  sheets_blanks h.2 blanks sheets h.6 e,
)

-- a fault behind whole messages and empty lines
pub file_fault : (all mid left before blanks : List (List ℕ)) (sheets : List Sheet) (m at n : ℕ) (rule : SheetRule) → SheetsAre before sheets → Ahead all 1 mid m before → AllEmpty blanks → Ahead mid m left at blanks → FaultAt left at n rule → SheetLinesFault all n rule
file_fault all mid left before blanks sheets m at n rule h x e y f = record {
  before = before ++ blanks;
  rest = left;
  sheets = sheets;
  place = f.0;
  whole = (more_taken all mid left before blanks 1 m at x y).whole;
  read = sheets_blanks before blanks sheets h e;
  fault = f.2;
  at = omega (arith, f.1, y.count, x.count, length-append before blanks);
}
