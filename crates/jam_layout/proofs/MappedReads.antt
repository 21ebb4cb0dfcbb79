-- A reading whose value is passed on through a function.
use Rattle.std.proofs.Common.{◌≡◌, ℕ, Option, Some, None, Result, Ok, Err, refl, ap}
use Rattle.jam_records.specs.declared.damage.Damage.{Damage}
use Rattle.jam_records.specs.declared.damage.DamageRule.{DamageRule}
use Rattle.damage_rules.specs.Rules.{Rules, first_broken, unless_broken, by_rules, ◌>>=◌, damage_of, Stops}
use Rattle.damage_rules.proofs.KeptRules.{bind_ok, ok_is}

abbrev pub mapped : {A B : Type 0} → (A → B) → Result A Damage → Result B Damage
mapped f read = read >>= λ x. Ok (f x)

unless_mapped : {A B : Type 0} (f : A → B) (file item : ℕ) (broken : Option DamageRule) (x : A) → unless_broken file item broken (f x) ≡ mapped f (unless_broken file item broken x)
unless_mapped f file item None x = refl
unless_mapped f file item (Some r) x = refl

pub rules_mapped : {A B : Type 0} (f : A → B) (file item : ℕ) (rules : Rules) (x : A) → by_rules file item rules (f x) ≡ mapped f (by_rules file item rules x)
rules_mapped f file item rules x = unless_mapped f file item (first_broken rules) x

-- what was read, where something was passed on
pub mapped_ok : {A B : Type 0} (f : A → B) (read : Result A Damage) (y : B) → mapped f read ≡ Ok y → (x : A) × (read ≡ Ok x) × (f x ≡ y)
mapped_ok f read y e = let a = bind_ok read (λ x. Ok (f x)) y e in (a.0, a.1, ok_is (f a.0) y a.2)

-- its damage is that of the reading
pub damage_mapped : {A B : Type 0} (f : A → B) (read : Result A Damage) → damage_of (mapped f read) ≡ damage_of read
damage_mapped f (Ok x) = refl
damage_mapped f (Err d) = refl

pub stops_before : {A B : Type 0} (e : Option Damage) (f : A → B) (read : Result A Damage) → Stops e (mapped f read) → Stops e read
stops_before None f read h = tt
stops_before (Some d) f (Ok x) h = absurd cc
stops_before (Some d) f (Err b) h = let same : b ≡ d = cc in ap (λ k. Err k) same
