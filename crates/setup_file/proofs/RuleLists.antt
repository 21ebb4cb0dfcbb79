-- Which rule of a line is broken first, by its key, its value or the lines before it.
use Rattle.std.proofs.Common.{◌≡◌, ℕ, ◌-◌, ◌≤◌, Bool, true, false, not, cond, eqb, List, [], ◌∷◌, length, Option, Some, None, refl, sym, ap, ◌∙◌, arith, eq-eqb, ne_eqb}
use Rattle.std.proofs.lemmas.Bool.{false≢true}
use Rattle.std.proofs.lemmas.Bool.Decides.{nat_tests}
use Rattle.std.specs.List.{slice_get}
use Rattle.setup_file.specs.Words.{begins_with, value_behind}
use Rattle.setup_file.specs.Rules.{LineRules, broken_in, keys, key_text, fits, key_rules, zones_key, zones_fit, zones_rules, conference_rules, number_before, rules_at, broken_rule}
use Rattle.setup_file.specs.State.{NoneBroken}
use Rattle.setup_file.specs.declared.error.SetupRule.{SetupRule}
use Rattle.setup_file.specs.declared.key.Key.{Key}

abbrev none : Option SetupRule
none = None

-- no rule of the list is broken
abbrev pub Passes : LineRules → Type 0
Passes [] = Unit {0}
Passes (r ∷ rules) = (r.1 ≡ false) × Passes rules

first_none : (b : Bool) (r : SetupRule) (o : Option SetupRule) → cond b (Some r) o ≡ none → (b ≡ false) × (o ≡ none)
first_none true r o e = absurd cc
first_none false r o e = (refl, e)

none_first : (b : Bool) (r : SetupRule) (o : Option SetupRule) → b ≡ false → o ≡ none → cond b (Some r) o ≡ none
none_first true r o e f = absurd cc
none_first false r o e f = f

pub passes : (rules : LineRules) → NoneBroken rules → Passes rules
passes [] e = tt
passes (r ∷ rules) e = let g = first_none r.1 r.0 (broken_in rules) e in (g.0, passes rules g.1)

pub none_broken : (rules : LineRules) → Passes rules → NoneBroken rules
none_broken [] h = refl
none_broken (r ∷ rules) h = none_first r.1 r.0 (broken_in rules) h.0 (none_broken rules h.1)

pub not_false : (b : Bool) → not b ≡ false → b ≡ true
not_false true e = refl
not_false false e = absurd (false≢true (sym e))

pub false_not : (b : Bool) → b ≡ true → not b ≡ false
false_not true e = refl
false_not false e = absurd (false≢true e)

-- which rules a line has by its place
pub rule_by_key : (before : List (List ℕ)) (line : List ℕ) (key : Key) → slice_get keys (length before) ≡ Some key → broken_rule before line ≡ broken_in (key_rules key line)
unfolding broken_rule
rule_by_key before line key e = ap (λ (o : Option Key). broken_in (rules_at o before line)) e

pub no_key : (n : ℕ) → 6 ≤ n → slice_get keys n ≡ None
no_key n h = grind (arith, nat_tests)

rule_past_keys : (before : List (List ℕ)) (line : List ℕ) → 6 ≤ length before → broken_rule before line ≡ broken_in (rules_at None before line)
unfolding broken_rule
rule_past_keys before line h = ap (λ (o : Option Key). broken_in (rules_at o before line)) (no_key (length before) h)

pub rule_by_zones : (before : List (List ℕ)) (line : List ℕ) → length before ≡ 6 → broken_rule before line ≡ broken_in (zones_rules line)
rule_by_zones before line e = rule_past_keys before line (omega arith) ∙ (let t : eqb (length before) 6 ≡ true = eq-eqb (length before) 6 e in rw t refl)

pub rule_by_conference : (before : List (List ℕ)) (line : List ℕ) → 7 ≤ length before → broken_rule before line ≡ broken_in (conference_rules (length before - 7) (number_before before) line)
rule_by_conference before line h = rule_past_keys before line (omega arith) ∙ (let t : eqb (length before) 6 ≡ false = ne_eqb (length before) 6 (λ e. omega arith) in rw t refl)

-- what a line that breaks no rule has
pub record KeyPasses (key : Key) (line : List ℕ) : Type 0 where
  pub begins : begins_with (key_text key) line ≡ true
  pub fit : fits key (value_behind (key_text key) line) ≡ true

pub key_passes : (key : Key) (line : List ℕ) → NoneBroken (key_rules key line) → KeyPasses key line
key_passes key line e =
    let p : Passes (key_rules key line) = passes (key_rules key line) e in
    record { begins = not_false (begins_with (key_text key) line) p.0; fit = not_false (fits key (value_behind (key_text key) line)) p.1.0 }

pub passes_key : (key : Key) (line : List ℕ) → begins_with (key_text key) line ≡ true → fits key (value_behind (key_text key) line) ≡ true → NoneBroken (key_rules key line)
passes_key key line b f = none_broken (key_rules key line) (false_not (begins_with (key_text key) line) b, (false_not (fits key (value_behind (key_text key) line)) f, tt))

pub record ZonesPass (line : List ℕ) : Type 0 where
  pub begins : begins_with zones_key line ≡ true
  pub fit : zones_fit (value_behind zones_key line) ≡ true

pub zones_pass : (line : List ℕ) → NoneBroken (zones_rules line) → ZonesPass line
zones_pass line e =
    let p : Passes (zones_rules line) = passes (zones_rules line) e in
    record { begins = not_false (begins_with zones_key line) p.0; fit = not_false (zones_fit (value_behind zones_key line)) p.1.0 }

pub pass_zones : (line : List ℕ) → begins_with zones_key line ≡ true → zones_fit (value_behind zones_key line) ≡ true → NoneBroken (zones_rules line)
pass_zones line b f = none_broken (zones_rules line) (false_not (begins_with zones_key line) b, (false_not (zones_fit (value_behind zones_key line)) f, tt))
