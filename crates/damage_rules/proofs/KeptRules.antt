-- What it says that no rule is broken, and steps that stop at the first broken one.
use Rattle.std.proofs.Common.{◌≡◌, ℕ, Bool, true, false, cond, List, [], ◌∷◌, ◌++◌, Option, Some, None, Result, Ok, Err, refl, sym, ap, ◌∙◌, append_assoc}
use Rattle.jam_records.specs.declared.damage.Damage.{Damage}
use Rattle.jam_records.specs.declared.damage.DamageRule.{DamageRule}
use Rattle.damage_rules.specs.Rules.{Rules, first_broken, unless_broken, by_rules, ◌>>=◌, Stops}

-- no r is broken
abbrev pub Kept : Rules → Type 0
Kept [] = Unit {0}
Kept (r ∷ rules) = (r.1 ≡ false) × Kept rules

abbrev done : {A : Type 0} → A → Result A Damage
done x = Ok x

abbrev none : Option DamageRule
none = None

pub ok_is : {A : Type 0} (x y : A) → done x ≡ done y → x ≡ y
ok_is x y e = cc

guard_none : (b : Bool) (r : DamageRule) (o : Option DamageRule) → cond b (Some r) o ≡ none → (b ≡ false) × (o ≡ none)
guard_none true r o e = absurd cc
guard_none false r o e = (refl, e)

none_guard : (b : Bool) (r : DamageRule) (o : Option DamageRule) → b ≡ false → o ≡ none → cond b (Some r) o ≡ none
none_guard true r o e f = absurd cc
none_guard false r o e f = f

pub none_kept : (rules : Rules) → first_broken rules ≡ none → Kept rules
none_kept [] e = tt
none_kept (r ∷ rules) e = let g = guard_none r.1 r.0 (first_broken rules) e in (g.0, none_kept rules g.1)

pub kept_none : (rules : Rules) → Kept rules → first_broken rules ≡ none
kept_none [] k = refl
kept_none (r ∷ rules) k = none_guard r.1 r.0 (first_broken rules) k.0 (kept_none rules k.1)

unless_ok : {A : Type 0} (file item : ℕ) (o : Option DamageRule) (x y : A) → unless_broken file item o x ≡ done y → (o ≡ none) × (x ≡ y)
unless_ok file item None x y e = (refl, ok_is x y e)
unless_ok file item (Some r) x y e = absurd cc

pub rules_kept : {A : Type 0} (file item : ℕ) (rules : Rules) (x y : A) → by_rules file item rules x ≡ Ok y → Kept rules × (x ≡ y)
rules_kept file item rules x y e = let u = unless_ok file item (first_broken rules) x y e in (none_kept rules u.0, u.1)

pub kept_rules : {A : Type 0} (file item : ℕ) (rules : Rules) (x : A) → Kept rules → by_rules file item rules x ≡ Ok x
kept_rules file item rules x k = ap (λ o. unless_broken file item o x) (kept_none rules k)

pub kept_both : (a b : Rules) → Kept a → Kept b → Kept (a ++ b)
kept_both [] b j k = k
kept_both (r ∷ a) b j k = (j.0, kept_both a b j.1 k)

pub both_kept : (a b : Rules) → Kept (a ++ b) → Kept a × Kept b
both_kept [] b k = (tt, k)
both_kept (r ∷ a) b k = let h = both_kept a b k.1 in ((k.0, h.0), h.1)

cond_front : (t : Bool) (m r : DamageRule) (x y : Option DamageRule) → (x ≡ Some r → y ≡ Some r) → cond t (Some m) x ≡ Some r → cond t (Some m) y ≡ Some r
cond_front true m r x y f e = e
cond_front false m r x y f e = f e

pub broken_front : (a b : Rules) (r : DamageRule) → first_broken a ≡ Some r → first_broken (a ++ b) ≡ Some r
broken_front [] b r e = absurd cc
broken_front (x ∷ a) b r e = cond_front x.1 x.0 r (first_broken a) (first_broken (a ++ b)) (broken_front a b r) e

behind_guard : (t : Bool) (m : DamageRule) (x y : Option DamageRule) → t ≡ false → x ≡ y → cond t (Some m) x ≡ y
behind_guard true m x y e f = absurd cc
behind_guard false m x y e f = f

pub kept_front : (a b : Rules) → Kept a → first_broken (a ++ b) ≡ first_broken b
kept_front [] b k = refl
kept_front (r ∷ a) b k = behind_guard r.1 r.0 (first_broken (a ++ b)) (first_broken b) k.0 (kept_front a b k.1)

-- the value of a step that did not fail
pub bind_ok : {A B : Type 0} (r : Result A Damage) (f : A → Result B Damage) (y : B) → (r >>= f) ≡ Ok y → (x : A) × (r ≡ Ok x) × (f x ≡ Ok y)
bind_ok (Ok x) f y e = (x, refl, e)
bind_ok (Err d) f y e = absurd cc

-- what was read before, and what is still read
abbrev pub with_front : {A : Type 0} → List A → Result (List A) Damage → Result (List A) Damage
with_front front read = read >>= λ xs. Ok (front ++ xs)

pub regroup : {A : Type 0} (front : List A) (x : A) (read : Result (List A) Damage) → with_front front (read >>= λ xs. Ok (x ∷ xs)) ≡ with_front (front ++ x ∷ []) read
regroup front x (Ok xs) = ap (λ ys. Ok ys) (sym (append_assoc front (x ∷ []) xs))
regroup front x (Err f) = refl

-- a step that fails, or wants memory, ends the reading
pub step_fails : {A B : Type 0} (e : Option Damage) (r : Result A Damage) (f : A → Result B Damage) → Stops e r → Stops e (r >>= f)
step_fails None r f h = tt
step_fails (Some d) r f h = ap (λ k. k >>= f) h

-- one item more
pub one_more : {A B : Type 0} (front new : List A) (here others total : Result (List A) Damage) (one : Result B Damage) (b : B) (value : B → A)
    → here ≡ (one >>= λ x. others >>= λ xs. Ok (value x ∷ xs)) → one ≡ Ok b → new ≡ front ++ value b ∷ [] → with_front front here ≡ total → with_front new others ≡ total
one_more front new here others total one b value is ok n so_far =
    let a : here ≡ (others >>= λ xs. Ok (value b ∷ xs)) = is ∙ ap (λ r. r >>= λ x. others >>= λ xs. Ok (value x ∷ xs)) ok in
    rw n (sym (ap (with_front front) a ∙ regroup front (value b) others) ∙ so_far)

pub one_fails : {A B : Type 0} (front : List A) (here others total : Result (List A) Damage) (one : Result B Damage) (value : B → A) (e : Option Damage)
    → here ≡ (one >>= λ x. others >>= λ xs. Ok (value x ∷ xs)) → Stops e one → with_front front here ≡ total → Stops e total
one_fails front here others total one value e is h so_far =
    rw (sym so_far ∙ ap (with_front front) is) (step_fails e (one >>= λ x. others >>= λ xs. Ok (value x ∷ xs)) (λ xs. Ok (front ++ xs)) (step_fails e one (λ x. others >>= λ xs. Ok (value x ∷ xs)) h))

-- ---- rules in two parts
pub part_fails : {A : Type 0} (file item : ℕ) (a b : Rules) (r : DamageRule) (x : A) → first_broken a ≡ Some r → by_rules file item (a ++ b) x ≡ Err (record { file = file; item = item; rule = r })
part_fails file item a b r x e = ap (λ o. unless_broken file item o x) (broken_front a b r e)

pub part_passes : {A : Type 0} (file item : ℕ) (a b : Rules) (x : A) → first_broken a ≡ none → by_rules file item (a ++ b) x ≡ by_rules file item b x
part_passes file item a b x e = ap (λ o. unless_broken file item o x) (kept_front a b (none_kept a e))

pub then_fails : {A : Type 0} (file item : ℕ) (a b : Rules) (r : DamageRule) (x : A) → first_broken a ≡ none → first_broken b ≡ Some r → by_rules file item (a ++ b) x ≡ Err (record { file = file; item = item; rule = r })
then_fails file item a b r x e f = part_passes file item a b x e ∙ ap (λ o. unless_broken file item o x) f

pub both_pass : {A : Type 0} (file item : ℕ) (a b : Rules) (x : A) → first_broken a ≡ none → first_broken b ≡ none → by_rules file item (a ++ b) x ≡ Ok x
both_pass file item a b x e f = part_passes file item a b x e ∙ ap (λ o. unless_broken file item o x) f

by_first : {A B : Type 0} (file item : ℕ) (a b : Rules) (u : A) (x : B) (o : Option DamageRule) → first_broken a ≡ o → by_rules file item (a ++ b) x ≡ (unless_broken file item o u >>= λ v. by_rules file item b x)
by_first file item a b u x None e = part_passes file item a b x e
by_first file item a b u x (Some r) e = part_fails file item a b r x e

-- rules in two parts, one after the other
pub in_parts : {A B : Type 0} (file item : ℕ) (a b : Rules) (u : A) (x : B) → by_rules file item (a ++ b) x ≡ (by_rules file item a u >>= λ v. by_rules file item b x)
in_parts file item a b u x = by_first file item a b u x (first_broken a) refl
