-- Lines read as one list of messages at most, and then have no fault; and they have one fault at most.
use Rattle.std.proofs.Common.{◌≡◌, ℕ, ◌+◌, List, [], ◌∷◌, ◌++◌, Result, Ok, Err, length, length-append, refl, sym, ap, ◌∙◌, subst, inl, inr, arith, append_assoc}
use Rattle.std.specs.Result.{MatchResult}
use Rattle.byte_lists.specs.Memory.{UnlessMemory}
use Rattle.import_sheet.specs.Sheet.{SheetIs, SheetsAre, AllEmpty}
use Rattle.import_sheet.specs.Fault.{MessageFault, SheetLinesFault}
use Rattle.import_sheet.specs.State.{StartsWithText, SheetFaultOrMemory}
use Rattle.import_sheet.specs.declared.fault.SheetError.{SheetError}
use Rattle.import_sheet.specs.declared.fault.SheetError.TheVariants.{Line, OutOfMemory}
use Rattle.import_sheet.specs.declared.fault.SheetRule.{SheetRule}
use Rattle.import_sheet.specs.declared.sheet.Sheet.{Sheet}
use Rattle.import_sheet.proofs.Lines.{stops_once, empty_front, empty_stops, all_stops, nothing_starts, starts_more}
use Rattle.import_sheet.proofs.Messages.{message_fault_once, sheet_no_fault, sheet_once, sheet_starts, fault_starts}

-- empty lines, and then what begins with text
empty_once : (all a b r s : List (List ℕ)) → all ≡ a ++ r → all ≡ b ++ s → AllEmpty a → AllEmpty b → StartsWithText r → StartsWithText s → (a ≡ b) × (r ≡ s)
empty_once all a b r s e f x y i j = stops_once AllEmpty all a b r s empty_front (empty_stops all a r e x i) (empty_stops all b s f y j)

not_empty : (all a r : List (List ℕ)) → AllEmpty all → all ≡ a ++ r → AllEmpty a → StartsWithText r → ⊥
not_empty all a r x e y i =
    let u : (all ≡ a) × ([] ≡ r) = stops_once AllEmpty all all a [] r empty_front (all_stops all x) (empty_stops all a r e y i) in
    nothing_starts (subst StartsWithText (sym u.1) i)

own_starts : (own more : List (List ℕ)) (s : Sheet) → SheetIs own s → StartsWithText (own ++ more)
own_starts own more s x = starts_more own more (sheet_starts own s x)

pub sheets_once : (all : List (List ℕ)) (a b : List Sheet) → SheetsAre all a → SheetsAre all b → a ≡ b
sheets_once all [] [] x y = refl
sheets_once all [] (t ∷ b) x y = absurd (not_empty all y.0 (y.1 ++ y.2) x y.3 y.4 (own_starts y.1 y.2 t y.5))
sheets_once all (s ∷ a) [] x y = absurd (not_empty all x.0 (x.1 ++ x.2) y x.3 x.4 (own_starts x.1 x.2 s x.5))
sheets_once all (s ∷ a) (t ∷ b) x y =
    let u : (x.0 ≡ y.0) × (x.1 ++ x.2 ≡ y.1 ++ y.2) = empty_once all x.0 y.0 (x.1 ++ x.2) (y.1 ++ y.2) x.3 y.3 x.4 y.4 (own_starts x.1 x.2 s x.5) (own_starts y.1 y.2 t y.5) in
    let v : (s ≡ t) × (x.2 ≡ y.2) = sheet_once (x.1 ++ x.2) x.1 y.1 x.2 y.2 s t refl u.1 x.5 y.5 in
    let first : s ≡ t = v.0 in
    let others : a ≡ b = sheets_once y.2 a b (subst (λ (l : List (List ℕ)). SheetsAre l a) v.1 x.6) y.6 in
    cc

-- behind a first message, what was before is what is before
before_rest : (all before rest bl own more : List (List ℕ)) → all ≡ before ++ rest → before ≡ bl ++ (own ++ more) → all ≡ bl ++ (own ++ (more ++ rest))
before_rest all before rest bl own more e f =
    e ∙ (ap (λ (l : List (List ℕ)). l ++ rest) f ∙ (append_assoc bl (own ++ more) rest ∙ ap (λ (l : List (List ℕ)). bl ++ l) (append_assoc own more rest)))

no_fault_in : (all before rest : List (List ℕ)) (a b : List Sheet) (n : ℕ) (rule : SheetRule) → SheetsAre all a → all ≡ before ++ rest → SheetsAre before b → MessageFault rest n rule → ⊥
no_fault_in all before rest [] [] n rule x e y f = not_empty all before rest x e y (fault_starts rest n rule f)
no_fault_in all before rest [] (t ∷ b) n rule x e y f = not_empty all y.0 (y.1 ++ (y.2 ++ rest)) x (before_rest all before rest y.0 y.1 y.2 e y.3) y.4 (own_starts y.1 (y.2 ++ rest) t y.5)
no_fault_in all before rest (s ∷ a) [] n rule x e y f =
    let u : (x.0 ≡ before) × (x.1 ++ x.2 ≡ rest) = empty_once all x.0 before (x.1 ++ x.2) rest x.3 e x.4 y (own_starts x.1 x.2 s x.5) (fault_starts rest n rule f) in
    sheet_no_fault rest x.1 x.2 s n rule (sym u.1) x.5 f
no_fault_in all before rest (s ∷ a) (t ∷ b) n rule x e y f =
    let u : (x.0 ≡ y.0) × (x.1 ++ x.2 ≡ y.1 ++ (y.2 ++ rest)) = empty_once all x.0 y.0 (x.1 ++ x.2) (y.1 ++ (y.2 ++ rest)) x.3 (before_rest all before rest y.0 y.1 y.2 e y.3) x.4 y.4 (own_starts x.1 x.2 s x.5) (own_starts y.1 (y.2 ++ rest) t y.5) in
    let v : (s ≡ t) × (x.2 ≡ y.2 ++ rest) = sheet_once (x.1 ++ x.2) x.1 y.1 x.2 (y.2 ++ rest) s t refl u.1 x.5 y.5 in
    no_fault_in x.2 y.2 rest a b n rule x.6 v.1 y.6 f

pub no_fault : (all : List (List ℕ)) (a : List Sheet) (n : ℕ) (rule : SheetRule) → SheetsAre all a → SheetLinesFault all n rule → ⊥
no_fault all a n rule x f = no_fault_in all f.before f.rest a f.sheets f.place rule x f.whole f.read f.fault

three_length : (all a b c : List (List ℕ)) → all ≡ a ++ (b ++ c) → length all ≡ length a + length b + length c
three_length all a b c e = omega (arith, ap length e, length-append a (b ++ c), length-append b c)

faults_in : (all before rest before' rest' : List (List ℕ)) (a b : List Sheet) (m n : ℕ) (q r : SheetRule) → all ≡ before ++ rest → all ≡ before' ++ rest' → SheetsAre before a → SheetsAre before' b → MessageFault rest m q → MessageFault rest' n r → (length before + m ≡ length before' + n) × (q ≡ r)
faults_in all before rest before' rest' [] [] m n q r e e' x y f g =
    let u : (before ≡ before') × (rest ≡ rest') = empty_once all before before' rest rest' e e' x y (fault_starts rest m q f) (fault_starts rest' n r g) in
    let v : (m ≡ n) × (q ≡ r) = message_fault_once rest' m n q r (subst (λ (l : List (List ℕ)). MessageFault l m q) u.1 f) g in
    (omega (arith, ap length u.0, v.0), v.1)
faults_in all before rest before' rest' [] (t ∷ b) m n q r e e' x y f g =
    let u : (before ≡ y.0) × (rest ≡ y.1 ++ (y.2 ++ rest')) = empty_once all before y.0 rest (y.1 ++ (y.2 ++ rest')) e (before_rest all before' rest' y.0 y.1 y.2 e' y.3) x y.4 (fault_starts rest m q f) (own_starts y.1 (y.2 ++ rest') t y.5) in
    absurd (sheet_no_fault rest y.1 (y.2 ++ rest') t m q u.1 y.5 f)
faults_in all before rest before' rest' (s ∷ a) [] m n q r e e' x y f g =
    let u : (before' ≡ x.0) × (rest' ≡ x.1 ++ (x.2 ++ rest)) = empty_once all before' x.0 rest' (x.1 ++ (x.2 ++ rest)) e' (before_rest all before rest x.0 x.1 x.2 e x.3) y x.4 (fault_starts rest' n r g) (own_starts x.1 (x.2 ++ rest) s x.5) in
    absurd (sheet_no_fault rest' x.1 (x.2 ++ rest) s n r u.1 x.5 g)
faults_in all before rest before' rest' (s ∷ a) (t ∷ b) m n q r e e' x y f g =
    let i : all ≡ x.0 ++ (x.1 ++ (x.2 ++ rest)) = before_rest all before rest x.0 x.1 x.2 e x.3 in
    let j : all ≡ y.0 ++ (y.1 ++ (y.2 ++ rest')) = before_rest all before' rest' y.0 y.1 y.2 e' y.3 in
    let u : (x.0 ≡ y.0) × (x.1 ++ (x.2 ++ rest) ≡ y.1 ++ (y.2 ++ rest')) = empty_once all x.0 y.0 (x.1 ++ (x.2 ++ rest)) (y.1 ++ (y.2 ++ rest')) i j x.4 y.4 (own_starts x.1 (x.2 ++ rest) s x.5) (own_starts y.1 (y.2 ++ rest') t y.5) in
    let v : (s ≡ t) × (x.2 ++ rest ≡ y.2 ++ rest') = sheet_once (x.1 ++ (x.2 ++ rest)) x.1 y.1 (x.2 ++ rest) (y.2 ++ rest') s t refl u.1 x.5 y.5 in
    let w : (length x.2 + m ≡ length y.2 + n) × (q ≡ r) = faults_in (x.2 ++ rest) x.2 rest y.2 rest' a b m n q r refl v.1 x.6 y.6 f g in
    (omega (arith, three_length before x.0 x.1 x.2 x.3, three_length before' y.0 y.1 y.2 y.3, ap length u.0, ap length u.1, length-append x.1 (x.2 ++ rest), length-append y.1 (y.2 ++ rest'), ap length v.1, w.0), w.1)

fault_once : (all : List (List ℕ)) (m n : ℕ) (q r : SheetRule) → SheetLinesFault all m q → SheetLinesFault all n r → (m ≡ n) × (q ≡ r)
fault_once all m n q r f g =
    let u : (length f.before + f.place ≡ length g.before + g.place) × (q ≡ r) = faults_in all f.before f.rest g.before g.rest f.sheets g.sheets f.place g.place q r f.whole g.whole f.read g.read f.fault g.fault in
    (omega (arith, f.at, g.at, u.0), u.1)

pub line_once : (all : List (List ℕ)) (m n : ℕ) (q r : SheetRule) → SheetLinesFault all m q → SheetLinesFault all n r → m ≡ n
line_once all m n q r f g = (fault_once all m n q r f g).0

pub rule_once : (all : List (List ℕ)) (m n : ℕ) (q r : SheetRule) → SheetLinesFault all m q → SheetLinesFault all n r → q ≡ r
rule_once all m n q r f g = (fault_once all m n q r f g).1

-- what an answer for the lines says
abbrev pub Answers : List (List ℕ) → Result (List Sheet) SheetError → Type 0
Answers all r = MatchResult r (SheetsAre all) (SheetFaultOrMemory (SheetLinesFault all))

pub only_ok : (all : List (List ℕ)) (r : Result (List Sheet) SheetError) → Answers all r → (a : List Sheet) → SheetsAre all a → UnlessMemory OutOfMemory r (Ok a)
only_ok all (Ok b) h a x = inl (ap Ok (sheets_once all b a h x))
only_ok all (Err (Line n q)) h a x = absurd (no_fault all a n q x h)
only_ok all (Err OutOfMemory) h a x = inr refl

pub is_fault : (all : List (List ℕ)) (r : Result (List Sheet) SheetError) → Answers all r → (n : ℕ) (q : SheetRule) → r ≡ Err (Line n q) → SheetLinesFault all n q
is_fault all (Ok b) h n q e = cc
is_fault all (Err (Line m p)) h n q e =
    let line : m ≡ n = cc in
    let rule : p ≡ q = cc in
    subst (SheetLinesFault all n) rule (subst (λ (k : ℕ). SheetLinesFault all k p) line h)
is_fault all (Err OutOfMemory) h n q e = cc

pub only_fault : (all : List (List ℕ)) (r : Result (List Sheet) SheetError) → Answers all r → (n : ℕ) (q : SheetRule) → SheetLinesFault all n q → UnlessMemory OutOfMemory r (Err (Line n q))
only_fault all (Ok b) h n q f = absurd (no_fault all b n q h f)
only_fault all (Err (Line m p)) h n q f =
    let line : m ≡ n = line_once all m n p q h f in
    let rule : p ≡ q = rule_once all m n p q h f in
    inl (cc)
only_fault all (Err OutOfMemory) h n q f = inr refl
