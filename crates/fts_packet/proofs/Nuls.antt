-- Which rule a field breaks, by where its first NUL stands.
use Rattle.std.proofs.Common.{◌≡◌, ◌≢◌, ℕ, zero, suc, ◌<◌, ◌≤◌, Bool, true, false, ◌||◌, cond, eqb, Option, Some, None, List, [], ◌∷◌, ◌++◌, length, take, refl, sym, ap, ◌∙◌, arith, ne_eqb}
use Rattle.std.proofs.lemmas.List.{take-append-le}
use Rattle.std.proofs.lemmas.List.Elements.{All-head, All-tail, All-take}
use Rattle.std.specs.Option.{option_or}
use Rattle.text_fields.specs.Split.{Lacks, SplitsAt}
use Rattle.fts_packet.specs.Fault.{has_nul, past_nul, field_fault, field_rule, text_rule}
use Rattle.fts_packet.specs.declared.fault.FtsRule.{FtsRule}
use Rattle.fts_packet.specs.declared.fault.FtsRule.TheVariants.{Cut}

-- ---- whether there is a NUL
pub no_nul : (text : List ℕ) → Lacks 0 text → has_nul text ≡ false
no_nul [] lacks = refl
no_nul (b ∷ text) lacks = ap (λ t. t || has_nul text) (ne_eqb b 0 (All-head (λ x. x ≢ 0) b text lacks)) ∙ no_nul text (All-tail (λ x. x ≢ 0) b text lacks)

or_true : (a b : Bool) → b ≡ true → (a || b) ≡ true
or_true true b e = refl
or_true false b e = e

nul_at : (text more : List ℕ) → has_nul (text ++ 0 ∷ more) ≡ true
nul_at [] more = refl
nul_at (b ∷ text) more = or_true (eqb b 0) (has_nul (text ++ 0 ∷ more)) (nul_at text more)

nul_in_front : (width : ℕ) (text more : List ℕ) → length text < width → has_nul (take width (text ++ 0 ∷ more)) ≡ true
nul_in_front zero text more short = absurd (omega (arith, short))
nul_in_front (suc width) [] more short = refl
nul_in_front (suc width) (b ∷ text) more short = or_true (eqb b 0) (has_nul (take width (text ++ 0 ∷ more))) (nul_in_front width text more (omega (arith, short)))

past_at : (text more : List ℕ) → Lacks 0 text → past_nul (text ++ 0 ∷ more) ≡ more
past_at [] more lacks = refl
past_at (b ∷ text) more lacks =
    ap (λ t. cond t (text ++ 0 ∷ more) (past_nul (text ++ 0 ∷ more))) (ne_eqb b 0 (All-head (λ x. x ≢ 0) b text lacks)) ∙ past_at text more (All-tail (λ x. x ≢ 0) b text lacks)

-- ---- a field
field_kept : (width : ℕ) (rest text more : List ℕ) → SplitsAt 0 rest text more → length text < width → field_rule width rest ≡ None
field_kept width rest text more s short =
    let front : has_nul (take width rest) ≡ true = ap (λ xs. has_nul (take width xs)) s.whole ∙ nul_in_front width text more short in
    ap (λ t. cond t None (Some (field_fault width rest))) front

field_broken : (width : ℕ) (rest : List ℕ) → has_nul (take width rest) ≡ false → field_rule width rest ≡ Some (field_fault width rest)
field_broken width rest none = ap (λ t. cond t None (Some (field_fault width rest))) none

-- there is no NUL at all
pub field_without : (width : ℕ) (rest : List ℕ) (r : FtsRule) → Lacks 0 rest → r ≡ field_fault width rest → field_rule width rest ≡ Some r
field_without width rest r lacks is = field_broken width rest (no_nul (take width rest) (All-take (λ x. x ≢ 0) width rest lacks)) ∙ ap Some (sym is)

-- it stands behind these bytes
pub field_long : (width : ℕ) (rest text more : List ℕ) (r : FtsRule) → SplitsAt 0 rest text more → width ≤ length text → r ≡ field_fault width rest → field_rule width rest ≡ Some r
field_long width rest text more r s long is =
    let front : take width rest ≡ take width text = ap (take width) s.whole ∙ take-append-le width text (0 ∷ more) long in
    field_broken width rest (ap has_nul front ∙ no_nul (take width text) (All-take (λ x. x ≢ 0) width text s.first)) ∙ ap Some (sym is)

-- ---- a text
pub text_without : (rest : List ℕ) → Lacks 0 rest → text_rule rest ≡ Some Cut
text_without rest lacks = ap (λ t. cond t None (Some Cut)) (no_nul rest lacks)

pub text_kept : (rest text more : List ℕ) → SplitsAt 0 rest text more → text_rule rest ≡ None
text_kept rest text more s = ap (λ t. cond t None (Some Cut)) (ap has_nul s.whole ∙ nul_at text more)

-- ---- one after the other
pub stage_broken : (width : ℕ) (next : List ℕ → Option FtsRule) (rest : List ℕ) (r : FtsRule) → field_rule width rest ≡ Some r → option_or (field_rule width rest) (next (past_nul rest)) ≡ Some r
stage_broken width next rest r e = ap (λ o. option_or o (next (past_nul rest))) e

pub stage_passed : (width : ℕ) (next : List ℕ → Option FtsRule) (rest text more : List ℕ) → SplitsAt 0 rest text more → length text < width
    → option_or (field_rule width rest) (next (past_nul rest)) ≡ next more
stage_passed width next rest text more s short =
    ap (λ o. option_or o (next (past_nul rest))) (field_kept width rest text more s short) ∙ ap next (ap past_nul s.whole ∙ past_at text more s.first)
