-- Lines are those of a setup, or have one first fault.
use Rattle.std.proofs.Common.{◌≡◌, ◌⊎◌, ℕ, ◌+◌, ◌<◌, ◌≤◌, Bool, true, false, List, [], ◌∷◌, ◌++◌, length, Option, Some, None, Result, Ok, Err, refl, sym, ap, ◌∙◌, subst, inl, inr, arith, append_assoc}
use Rattle.std.proofs.lemmas.Bool.{cases_lt}
use Rattle.std.proofs.lemmas.List.{append-nil}
use Rattle.std.specs.Result.{MatchResult}
use Rattle.jam_records.specs.byte_lists.Memory.{UnlessMemory}
use Rattle.text_fields.proofs.Trimming.{same_front, same_rest}
use Rattle.setup_file.specs.Rules.{broken_rule}
use Rattle.text_fields.specs.Lines.{is_skipped}
use Rattle.setup_file.specs.Reads.{counted, SetupLinesRead}
use Rattle.setup_file.specs.Fault.{KeepRules, LinesFault, at_line, at_end}
use Rattle.setup_file.specs.State.{SetupFaultOrMemory}
use Rattle.setup_file.specs.declared.error.SetupError.{SetupError}
use Rattle.setup_file.specs.declared.error.SetupError.TheVariants.{Line, OutOfMemory}
use Rattle.setup_file.specs.declared.error.SetupRule.{SetupRule}
use Rattle.setup_file.specs.declared.error.SetupRule.TheVariants.{Missing}
use Rattle.setup_file.specs.declared.fields.SetupFields.{SetupFields}
use Rattle.text_fields.proofs.Numbered.{longer}
use Rattle.setup_file.proofs.Lines.{counted_append, counted_at, counted_none}
use Rattle.setup_file.proofs.KeptLines.{keep_at, keep_push}
use Rattle.setup_file.proofs.Readings.{First, lines_of, setup_of, kept_reads, reads_keep, reads_many, one_reading}

rule_clash : (o : Option SetupRule) (r : SetupRule) → o ≡ None → o ≡ Some r → ⊥
rule_clash o r e f = cc

-- a line that breaks a rule isn't among lines that keep theirs
not_kept : (all before more : List (List ℕ)) (line : List ℕ) (r : SetupRule) → all ≡ before ++ line ∷ more → is_skipped line ≡ false → broken_rule (counted before) line ≡ Some r → KeepRules [] (counted all) → ⊥
not_kept all before more line r e counts breaks k =
    let split : counted all ≡ counted before ++ line ∷ counted more = ap counted e ∙ counted_at before more line counts in
    rule_clash (broken_rule (counted before) line) r (keep_at [] (counted before) (counted more) line (subst (KeepRules []) split k)) breaks

-- so no line before a fault breaks one
not_before : (before more before' more' : List (List ℕ)) (line line' : List ℕ) (r : SetupRule) → before ++ line ∷ more ≡ before' ++ line' ∷ more' → length before < length before' → is_skipped line ≡ false → broken_rule (counted before) line ≡ Some r → KeepRules [] (counted before') → ⊥
not_before before more before' more' line line' r e lt counts breaks k =
    let l : (x : List ℕ) × (xs : List (List ℕ)) × (before' ≡ before ++ x ∷ xs) × (line ∷ more ≡ x ∷ (xs ++ line' ∷ more')) = longer before before' (line ∷ more) (line' ∷ more') e lt in
    let same : line ≡ l.0 = (let both : line ∷ more ≡ l.0 ∷ (l.1 ++ line' ∷ more') = l.3 in cc) in
    not_kept before' before l.1 line r (l.2 ∙ ap (λ (x : List ℕ). before ++ x ∷ l.1) (sym same)) counts breaks k

record SameFault (m n : ℕ) (q r : SetupRule) : Type 0 where
  number : m ≡ n
  rule : q ≡ r

lines_once : (before more before' more' : List (List ℕ)) (line line' : List ℕ) (q r : SetupRule) → before ++ line ∷ more ≡ before' ++ line' ∷ more' → length before ≡ length before' → broken_rule (counted before) line ≡ Some q → broken_rule (counted before') line' ≡ Some r → q ≡ r
lines_once before more before' more' line line' q r e n x y =
    let front : before ≡ before' = same_front before before' (line ∷ more) (line' ∷ more') n e in
    let rest : line ∷ more ≡ line' ∷ more' = same_rest before before' (line ∷ more) (line' ∷ more') n e in
    let same : line ≡ line' = cc in
    let rules : broken_rule (counted before) line ≡ broken_rule (counted before') line' = ap (λ (b : List (List ℕ)). broken_rule (counted b) line) front ∙ ap (λ (l : List ℕ). broken_rule (counted before') l) same in
    let some : Some q ≡ Some r = sym x ∙ (rules ∙ y) in
    cc

fault_once : (all : List (List ℕ)) (m n : ℕ) (q r : SetupRule) → LinesFault all m q → LinesFault all n r → SameFault m n q r
fault_once all m n q r (at_line before more line e counts k breaks is) (at_line before' more' line' e' counts' k' breaks' is') = elim (cases_lt (length before) (length before')) [
  | inl lt ↦ absurd (not_before before more before' more' line line' q (sym e ∙ e') lt counts breaks k')
  | inr ge ↦ elim (cases_lt (length before') (length before)) [
    | inl lt ↦ absurd (not_before before' more' before more line' line r (sym e' ∙ e) lt counts' breaks' k)
    | inr le ↦
        let same : length before ≡ length before' = omega arith in
        record { number = omega (arith, is, is'); rule = lines_once before more before' more' line line' q r (sym e ∙ e') same breaks breaks' }
  ]
]
fault_once all m n q r (at_line before more line e counts k breaks is) (at_end rule k' few is') = absurd (not_kept all before more line q e counts breaks k')
fault_once all m n q r (at_end rule k few is) (at_line before' more' line' e' counts' k' breaks' is') = absurd (not_kept all before' more' line' r e' counts' breaks' k)
fault_once all m n q r (at_end rule k few is) (at_end rule' k' few' is') = record { number = is ∙ sym is'; rule = rule ∙ sym rule' }

pub line_once : (all : List (List ℕ)) (m n : ℕ) (q r : SetupRule) → LinesFault all m q → LinesFault all n r → m ≡ n
line_once all m n q r f g = (fault_once all m n q r f g).number

pub rule_once : (all : List (List ℕ)) (m n : ℕ) (q r : SetupRule) → LinesFault all m q → LinesFault all n r → q ≡ r
rule_once all m n q r f g = (fault_once all m n q r f g).rule

pub no_fault : (all : List (List ℕ)) (s : SetupFields) (n : ℕ) (r : SetupRule) → SetupLinesRead all s → LinesFault all n r → ⊥
no_fault all s n r x (at_line before more line e counts k breaks is) = not_kept all before more line r e counts breaks (reads_keep all s x)
no_fault all s n r x (at_end rule k few is) = omega (arith, reads_many all s x)

-- a setup, or a first fault
abbrev ReadsOrFault : List (List ℕ) → Type 0
ReadsOrFault all = ((s : SetupFields) × SetupLinesRead all s) ⊎ ((n : ℕ) × (r : SetupRule) × LinesFault all n r)

few_fault : (all : List (List ℕ)) → KeepRules [] (counted all) → length (counted all) < 8 → ReadsOrFault all
few_fault all k few = inr (length all + 1, Missing, at_end refl k few refl)

-- eight lines and more
record Enough (kept : List (List ℕ)) : Type 0 where
  first : First
  own : List (List ℕ)
  whole : kept ≡ lines_of first own
  some : 1 ≤ length own

enough : (kept : List (List ℕ)) → 8 ≤ length kept → Enough kept
enough (a ∷ b ∷ c ∷ d ∷ e ∷ f ∷ g ∷ h ∷ own) many = record { first = record { board = a; city = b; phone = c; sysop = d; bbsid = e; serial = f; zones = g }; own = h ∷ own; whole = refl; some = omega arith }
enough other many = absurd (omega arith)

many_read : (all : List (List ℕ)) → KeepRules [] (counted all) → 8 ≤ length (counted all) → ReadsOrFault all
many_read all k many =
    let x : Enough (counted all) = enough (counted all) many in
    inl (setup_of x.first x.own, kept_reads all x.first x.own x.whole (subst (KeepRules []) x.whole k) x.some)

kept_cases : (all : List (List ℕ)) → KeepRules [] (counted all) → ReadsOrFault all
kept_cases all k = elim (cases_lt (length (counted all)) 8) [
  | inl few ↦ few_fault all k few
  | inr many ↦ many_read all k many
]

-- whether a line behind those that keep their rules breaks one
rule_cases : (o : Option SetupRule) → (o ≡ None) ⊎ ((r : SetupRule) × (o ≡ Some r))
rule_cases None = inl refl
rule_cases (Some r) = inr (r, refl)

bool_cases : (b : Bool) → (b ≡ true) ⊎ (b ≡ false)
bool_cases true = inl refl
bool_cases false = inr refl

skip_cases : (line : List ℕ) → (is_skipped line ≡ true) ⊎ (is_skipped line ≡ false)
skip_cases line = bool_cases (is_skipped line)

next_kept : (before : List (List ℕ)) (line : List ℕ) → KeepRules [] (counted before) → is_skipped line ≡ false → broken_rule (counted before) line ≡ None → KeepRules [] (counted (before ++ line ∷ []))
next_kept before line k counts e = subst (KeepRules []) (sym (counted_at before [] line counts)) (keep_push [] (counted before) line k e)

next_skipped : (before : List (List ℕ)) (line : List ℕ) → KeepRules [] (counted before) → is_skipped line ≡ true → KeepRules [] (counted (before ++ line ∷ []))
next_skipped before line k skipped =
    let same : counted (before ++ line ∷ []) ≡ counted before = counted_append before (line ∷ []) ∙ (ap (λ (l : List (List ℕ)). counted before ++ l) (counted_none line [] skipped) ∙ append-nil (counted before)) in
    subst (KeepRules []) (sym same) k

from_here : (all before rest : List (List ℕ)) → all ≡ before ++ rest → KeepRules [] (counted before) → ReadsOrFault all
from_here all before [] e k =
    let whole : all ≡ before = e ∙ append-nil before in
    kept_cases all (subst (λ (l : List (List ℕ)). KeepRules [] (counted l)) (sym whole) k)
from_here all before (line ∷ rest) e k =
    let next : all ≡ (before ++ line ∷ []) ++ rest = e ∙ sym (append_assoc before (line ∷ []) rest) in
    elim (skip_cases line) [
      | inl skipped ↦ from_here all (before ++ line ∷ []) rest next (next_skipped before line k skipped)
      | inr counts ↦ elim (rule_cases (broken_rule (counted before) line)) [
        | inl none ↦ from_here all (before ++ line ∷ []) rest next (next_kept before line k counts none)
        | inr broken ↦ inr (length before + 1, broken.0, at_line before rest line e counts k broken.1 refl)
      ]
    ]

pub reads_or_fault : (all : List (List ℕ)) → ReadsOrFault all
reads_or_fault all = from_here all [] all refl tt

-- what an answer for the lines says
abbrev pub Answers : List (List ℕ) → Result SetupFields SetupError → Type 0
Answers all r = MatchResult r (SetupLinesRead all) (SetupFaultOrMemory (LinesFault all))

pub only_ok : (all : List (List ℕ)) (r : Result SetupFields SetupError) → Answers all r → (a : SetupFields) → SetupLinesRead all a → UnlessMemory OutOfMemory r (Ok a)
only_ok all (Ok b) h a x = inl (ap Ok (one_reading all b a h x))
only_ok all (Err (Line n q)) h a x = absurd (no_fault all a n q x h)
only_ok all (Err OutOfMemory) h a x = inr refl

pub is_fault : (all : List (List ℕ)) (r : Result SetupFields SetupError) → Answers all r → (n : ℕ) (q : SetupRule) → r ≡ Err (Line n q) → LinesFault all n q
is_fault all (Ok b) h n q e = cc
is_fault all (Err (Line m p)) h n q e =
    let line : m ≡ n = cc in
    let rule : p ≡ q = cc in
    subst (LinesFault all n) rule (subst (λ (k : ℕ). LinesFault all k p) line h)
is_fault all (Err OutOfMemory) h n q e = cc

pub only_fault : (all : List (List ℕ)) (r : Result SetupFields SetupError) → Answers all r → (n : ℕ) (q : SetupRule) → LinesFault all n q → UnlessMemory OutOfMemory r (Err (Line n q))
only_fault all (Ok b) h n q f = absurd (no_fault all b n q h f)
only_fault all (Err (Line m p)) h n q f =
    let line : m ≡ n = line_once all m n p q h f in
    let rule : p ≡ q = rule_once all m n p q h f in
    inl (cc)
only_fault all (Err OutOfMemory) h n q f = inr refl
