-- A reading by rules stops at the first test of a flat list that is broken.
use Rattle.std.proofs.Common.{◌≡◌, ◌↔◌, ℕ, Bool, true, false, cond, [], ◌∷◌, ◌++◌, Option, Some, None, Result, Ok, Err, refl, ap, ◌∙◌}
use Rattle.std.proofs.lemmas.List.{append-nil}
use Rattle.std.proofs.lemmas.List.Elements.{All-nil, All-cons, All-head, All-tail}
use Rattle.jam_records.specs.declared.damage.Damage.{Damage}
use Rattle.jam_records.specs.declared.damage.DamageRule.{DamageRule}
use Rattle.damage_rules.specs.Rules.{Rules, first_broken, unless_broken, by_rules, ◌>>=◌, damage_of}
use Rattle.damage_rules.specs.Tests.{Tests, at_record, AllHold, IsFirstBroken}

-- the value of a reading, unless a test is broken
abbrev pub by_tests : {A : Type 0} → Tests → A → Result A Damage
by_tests [] x = Ok x
by_tests (t ∷ tests) x = cond t.1 (Err t.0) (by_tests tests x)

-- all hold, one after the other
abbrev pub Hold : Tests → Type 0
Hold [] = Unit {0}
Hold (t ∷ tests) = (t.1 ≡ false) × Hold tests

-- ---- the rules of one record
one_rule : {A : Type 0} (broken : Bool) (file item : ℕ) (first_rule : DamageRule) (o : Option DamageRule) (x : A) (others : Result A Damage) → unless_broken file item o x ≡ others
    → unless_broken file item (cond broken (Some first_rule) o) x ≡ cond broken (Err (record { file = file; item = item; rule = first_rule })) others
one_rule true file item first_rule o x others e = refl
one_rule false file item first_rule o x others e = e

pub rules_listed : {A : Type 0} (file item : ℕ) (rules : Rules) (x : A) → by_rules file item rules x ≡ by_tests (at_record file item rules) x
rules_listed file item [] x = refl
rules_listed file item (r ∷ rules) x = one_rule r.1 file item r.0 (first_broken rules) x (by_tests (at_record file item rules) x) (rules_listed file item rules x)

-- ---- one reading behind another
or_stop : {A B : Type 0} (broken : Bool) (d : Damage) (first : Result A Damage) (f : A → Result B Damage) (all : Result B Damage) → (broken ≡ false → (first >>= f) ≡ all)
    → (cond broken (Err d) first >>= f) ≡ cond broken (Err d) all
or_stop true d first f all e = refl
or_stop false d first f all e = e refl

pub then_listed : {A B : Type 0} (a b : Tests) (x : A) (f : A → Result B Damage) (y : B) → (Hold a → f x ≡ by_tests b y) → (by_tests a x >>= f) ≡ by_tests (a ++ b) y
then_listed [] b x f y e = e tt
then_listed (t ∷ a) b x f y e = or_stop t.1 t.0 (by_tests a x) f (by_tests (a ++ b) y) (λ held. then_listed a b x f y (λ others. e (held, others)))

-- a reading, and what is made of its value
pub value_listed : {A B : Type 0} (a : Tests) (x : A) (f : A → B) → (by_tests a x >>= λ v. Ok (f v)) ≡ by_tests a (f x)
value_listed a x f = then_listed a [] x (λ v. Ok (f v)) (f x) (λ held. refl) ∙ ap (λ tests. by_tests tests (f x)) (append-nil a)

pub then_gives : {A B : Type 0} (a b : Tests) (x : A) (y : B) (read : Result A Damage) (f : A → Result B Damage) → read ≡ by_tests a x → f x ≡ by_tests b y → (read >>= f) ≡ by_tests (a ++ b) y
then_gives a b x y read f first next = ap (λ r. r >>= f) first ∙ then_listed a b x f y (λ held. next)

-- ---- what is named
hold_all : (tests : Tests) → Hold tests → AllHold tests
hold_all [] held = All-nil (λ (t : Damage × Bool). t.1 ≡ false)
hold_all (t ∷ tests) held = All-cons (λ (t : Damage × Bool). t.1 ≡ false) t tests held.0 (hold_all tests held.1)

all_hold : (tests : Tests) → AllHold tests → Hold tests
all_hold [] all = tt
all_hold (t ∷ tests) all = (All-head (λ (t : Damage × Bool). t.1 ≡ false) t tests all, all_hold tests (All-tail (λ (t : Damage × Bool). t.1 ≡ false) t tests all))

some_once : (d e : Damage) → Some d ≡ Some e → d ≡ e
some_once d e h = cc

none_here : {A : Type 0} (broken : Bool) (d : Damage) (read : Result A Damage) → damage_of (cond broken (Err d) read) ≡ None → (broken ≡ false) × (damage_of read ≡ None)
none_here true d read e = absurd cc
none_here false d read e = (refl, e)

pub none_named : {A : Type 0} (tests : Tests) (x : A) → damage_of (by_tests tests x) ≡ None → Hold tests
none_named [] x e = tt
none_named (t ∷ tests) x e = let here = none_here t.1 t.0 (by_tests tests x) e in (here.0, none_named tests x here.1)

pub hold_named : {A : Type 0} (tests : Tests) (x : A) → Hold tests → damage_of (by_tests tests x) ≡ None
hold_named [] x held = refl
hold_named (t ∷ tests) x held = rw held.0 (hold_named tests x held.1)

-- the first that is broken is here, or behind a test that holds
first_here : {A : Type 0} (broken : Bool) (d : Damage) (tests : Tests) (read : Result A Damage) (e : Damage) → (damage_of read ≡ Some e → IsFirstBroken tests e)
    → damage_of (cond broken (Err d) read) ≡ Some e → IsFirstBroken ((d, broken) ∷ tests) e
first_here true d tests read e others is = record {
  before = [];
  behind = tests;
  whole = ap (λ (x : Damage). (x, true) ∷ tests) (some_once d e is);
  hold = All-nil (λ (t : Damage × Bool). t.1 ≡ false);
}
first_here false d tests read e others is =
    let f : IsFirstBroken tests e = others is in
    record {
      before = (d, false) ∷ f.before;
      behind = f.behind;
      whole = ap (λ (ts : Tests). (d, false) ∷ ts) f.whole;
      hold = All-cons (λ (t : Damage × Bool). t.1 ≡ false) (d, false) f.before refl f.hold;
    }

pub damage_named : {A : Type 0} (tests : Tests) (x : A) (d : Damage) → damage_of (by_tests tests x) ≡ Some d → IsFirstBroken tests d
damage_named [] x d e = absurd cc
damage_named (t ∷ tests) x d e = first_here t.1 t.0 tests (by_tests tests x) d (damage_named tests x d) e

stops_there : {A : Type 0} (before behind : Tests) (x : A) (d : Damage) → Hold before → damage_of (by_tests (before ++ (d, true) ∷ behind) x) ≡ Some d
stops_there [] behind x d held = refl
stops_there (t ∷ before) behind x d held = rw held.0 (stops_there before behind x d held.1)

pub broken_named : {A : Type 0} (tests : Tests) (x : A) (d : Damage) → IsFirstBroken tests d → damage_of (by_tests tests x) ≡ Some d
broken_named tests x d f = rw f.whole (stops_there f.before f.behind x d (all_hold f.before f.hold))

-- ---- a part
-- The reading gives a value, unless one of the tests is broken: then it stops at the first of these.
pub record IsTested {A : Type 0} (tests : Tests) (read : Result A Damage) : Type 0 where
  pub value : A
  pub is : read ≡ by_tests tests value

abbrev pub record_tested : {A : Type 0} (file item : ℕ) (rules : Rules) (x : A) → IsTested (at_record file item rules) (by_rules file item rules x)
record_tested file item rules x = record { value = x; is = rules_listed file item rules x }

abbrev pub then_tested : {A B : Type 0} (a b : Tests) (read : Result A Damage) (f : A → Result B Damage) → (first : IsTested a read) → IsTested b (f first.value) → IsTested (a ++ b) (read >>= f)
then_tested a b read f first next = record {
  value = next.value;
  is = ap (λ r. r >>= f) first.is ∙ then_listed a b first.value f next.value (λ held. next.is);
}

same_past : {A : Type 0} (broken : Bool) (d : Damage) (r s : Result A Damage) → (broken ≡ false → r ≡ s) → cond broken (Err d) r ≡ cond broken (Err d) s
same_past true d r s e = refl
same_past false d r s e = e refl

-- other tests behind some, which are the same where those hold
pub same_behind : {A : Type 0} (a b c : Tests) (x : A) → (Hold a → b ≡ c) → by_tests (a ++ b) x ≡ by_tests (a ++ c) x
same_behind [] b c x e = ap (λ tests. by_tests tests x) (e tt)
same_behind (t ∷ a) b c x e = same_past t.1 t.0 (by_tests (a ++ b) x) (by_tests (a ++ c) x) (λ held. same_behind a b c x (λ others. e (held, others)))

abbrev pub same_tested : {A : Type 0} (a b c : Tests) (read : Result A Damage) → (Hold a → b ≡ c) → IsTested (a ++ b) read → IsTested (a ++ c) read
same_tested a b c read e first = record { value = first.value; is = first.is ∙ same_behind a b c first.value e }

-- what is named is the first test that is broken, and nothing where all hold
pub first_named : {A : Type 0} (tests : Tests) (read : Result A Damage) → IsTested tests read → (d : Damage) → (damage_of read ≡ Some d) ↔ IsFirstBroken tests d
first_named tests read t d = rw t.is (damage_named tests t.value d, broken_named tests t.value d)

pub all_named : {A : Type 0} (tests : Tests) (read : Result A Damage) → IsTested tests read → (damage_of read ≡ None) ↔ AllHold tests
all_named tests read t = rw t.is (λ e. hold_all tests (none_named tests t.value e), λ all. hold_named tests t.value (all_hold tests all))
