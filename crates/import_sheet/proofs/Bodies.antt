-- Body lines: one line more, and where they stop.
use Rattle.std.proofs.Common.{◌≡◌, ◌≢◌, ℕ, Bool, true, false, ◌+◌, ◌<◌, ◌≤◌, List, [], ◌∷◌, ◌++◌, length, length-append, refl, sym, ap, ◌∙◌, subst, inl, inr, arith}
use Rattle.std.proofs.lemmas.Bool.{cases_lt, false≢true}
use Rattle.std.proofs.lemmas.Grind.{flat_map-append}
use Rattle.std.proofs.lemmas.List.{append-nil}
use Rattle.std.proofs.lemmas.List.Elements.{All-nil, All-cons, All-push}
use Rattle.text_fields.specs.Split.{Lacks}
use Rattle.import_sheet.specs.Sheet.{BodyLines, stored_body, without_dot, dot}
use Rattle.import_sheet.specs.Fault.{BodyBreaks, with_return, too_long, no_dot}
use Rattle.import_sheet.specs.State.{Ahead, BodyFaultAt}
use Rattle.import_sheet.specs.declared.fault.SheetRule.{SheetRule}
use Rattle.import_sheet.proofs.Lines.{All_front, All_last, Hereditary}

abbrev line_text : List ℕ → List ℕ
line_text line = without_dot line ++ 13 ∷ []

pub body_text_push : (body : List (List ℕ)) (line : List ℕ) → stored_body (body ++ line ∷ []) ≡ stored_body body ++ (without_dot line ++ 13 ∷ [])
body_text_push body line = flat_map-append line_text body (line ∷ []) ∙ ap (λ t. stored_body body ++ t) (append-nil (line_text line))

text_length : (body : List (List ℕ)) (line : List ℕ) → length (stored_body (body ++ line ∷ [])) ≡ length (stored_body body) + length (without_dot line) + 1
text_length body line = ap length (body_text_push body line) ∙ omega (arith, length-append (stored_body body) (line_text line), length-append (without_dot line) (13 ∷ []))

pub no_lines : BodyLines []
no_lines = record { no_end = All-nil (λ line. line ≢ dot); no_return = All-nil (Lacks 13); short = omega arith }

pub body_push : (body : List (List ℕ)) (line : List ℕ) → BodyLines body → line ≢ dot → Lacks 13 line → length (stored_body body) + length (without_dot line) < 16384 → BodyLines (body ++ line ∷ [])
body_push body line h other clear fits = record {
  no_end = All-push (λ line. line ≢ dot) body line h.no_end other;
  no_return = All-push (Lacks 13) body line h.no_return clear;
  short = omega (arith, text_length body line);
}

pub no_room : (n : ℕ) (b : Bool) → b ≡ false → (n < 16384 → b ≡ true) → 16384 ≤ n
no_room n b full room = elim (cases_lt n 16384) [
  | inl lt ↦ absurd (let t : b ≡ true = room lt in false≢true (sym full ∙ t))
  | inr ge ↦ ge
]

pub over : (body : List (List ℕ)) (line : List ℕ) → 16384 ≤ length (stored_body body) + length (without_dot line) → 16384 < length (stored_body (body ++ line ∷ []))
over body line many = omega (arith, text_length body line)

pub body_front : Hereditary BodyLines
body_front a b h = record {
  no_end = All_front (λ line. line ≢ dot) a b h.no_end;
  no_return = All_front (Lacks 13) a b h.no_return;
  short = omega (arith, h.short, ap length (flat_map-append line_text a b), length-append (stored_body a) (stored_body b));
}

-- body lines stop at the line of one dot
pub dot_ends : (body : List (List ℕ)) → BodyLines (body ++ dot ∷ []) → ⊥
dot_ends body h = All_last (λ line. line ≢ dot) body dot h.no_end refl

first_line : (rest more more' : List (List ℕ)) (line line' : List ℕ) → rest ≡ line ∷ more → rest ≡ line' ∷ more' → line ≡ line'
first_line rest more more' line line' e f = let both : line ∷ more ≡ line' ∷ more' = sym e ∙ f in cc

no_first : (rest more : List (List ℕ)) (line : List ℕ) → rest ≡ line ∷ more → rest ≡ [] → ⊥
no_first rest more line e f = let both : line ∷ more ≡ [] = sym e ∙ f in cc

-- and at a line that breaks a rule
pub breaks_body : (body rest more : List (List ℕ)) (line : List ℕ) (rule : SheetRule) → BodyBreaks body rest rule → rest ≡ line ∷ more → BodyLines (body ++ line ∷ []) → ⊥
breaks_body body rest more line rule (with_return line' e next bad) is h =
    bad (subst (Lacks 13) (first_line rest more next.0 line line' is next.1) (All_last (Lacks 13) body line h.no_return))
breaks_body body rest more line rule (too_long line' e next other clear long) is h =
    let same : line' ≡ line = first_line rest next.0 more line' line next.1 is in
    omega (arith, h.short, subst (λ (l : List ℕ). 16384 < length (stored_body (body ++ l ∷ []))) same long)
breaks_body body rest more line rule (no_dot e none) is h = no_first rest more line is none

dot_clear : Lacks 13 dot
dot_clear = All-cons (λ b. b ≢ 13) 46 [] (λ e. omega arith) (All-nil (λ b. b ≢ 13))

-- the line of one dot breaks no rule
pub dot_is_right : (body rest more : List (List ℕ)) (rule : SheetRule) → BodyBreaks body rest rule → rest ≡ dot ∷ more → ⊥
dot_is_right body rest more rule (with_return line e next bad) is = bad (subst (Lacks 13) (first_line rest more next.0 dot line is next.1) dot_clear)
dot_is_right body rest more rule (too_long line e next other clear long) is = other (first_line rest next.0 more line dot next.1 is)
dot_is_right body rest more rule (no_dot e none) is = no_first rest more dot is none

-- what follows breaks one rule
pub body_breaks_once : (body rest : List (List ℕ)) (q r : SheetRule) → BodyBreaks body rest q → BodyBreaks body rest r → q ≡ r
body_breaks_once body rest q r (with_return line e next bad) (with_return line' e' next' bad') = e ∙ sym e'
body_breaks_once body rest q r (with_return line e next bad) (too_long line' e' next' other clear long) = absurd (bad (subst (Lacks 13) (first_line rest next'.0 next.0 line' line next'.1 next.1) clear))
body_breaks_once body rest q r (with_return line e next bad) (no_dot e' none) = absurd (no_first rest next.0 line next.1 none)
body_breaks_once body rest q r (too_long line e next other clear long) (with_return line' e' next' bad) = absurd (bad (subst (Lacks 13) (first_line rest next.0 next'.0 line line' next.1 next'.1) clear))
body_breaks_once body rest q r (too_long line e next other clear long) (too_long line' e' next' other' clear' long') = e ∙ sym e'
body_breaks_once body rest q r (too_long line e next other clear long) (no_dot e' none) = absurd (no_first rest next.0 line next.1 none)
body_breaks_once body rest q r (no_dot e none) (with_return line' e' next' bad) = absurd (no_first rest next'.0 line' next'.1 none)
body_breaks_once body rest q r (no_dot e none) (too_long line' e' next' other clear long) = absurd (no_first rest next'.0 line' next'.1 none)
body_breaks_once body rest q r (no_dot e none) (no_dot e' none') = e ∙ sym e'

-- what follows the lines that were taken breaks a rule
pub broken_body : (all left taken : List (List ℕ)) (number at : ℕ) (rule : SheetRule) → Ahead all number left at taken → BodyLines taken → BodyBreaks taken left rule → BodyFaultAt all number at rule
broken_body all left taken number at rule x h b = (taken, left, x.whole, h, b, x.count)
