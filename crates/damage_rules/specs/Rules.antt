-- Rules of a record, and reading that stops at the first that is broken.
use Rattle.std.specs.Prelude.{◌≡◌, ℕ, Bool, List, [], ◌∷◌, Option, Some, None, Result, Ok, Err, if◌then◌else◌}
use Rattle.jam_records.specs.declared.damage.Damage.{Damage}
use Rattle.jam_records.specs.declared.damage.DamageRule.{DamageRule}

-- each rule in order, and whether the record breaks it
abbrev pub Rules : Type 0
Rules = List (DamageRule × Bool)

-- the first rule that is broken
abbrev pub first_broken : Rules → Option DamageRule
first_broken [] = None
first_broken (r ∷ rules) = if r.1 then Some r.0 else first_broken rules

-- the value of a record of a file, unless the record breaks a rule
abbrev pub unless_broken : {A : Type 0} → ℕ → ℕ → Option DamageRule → A → Result A Damage
unless_broken file item None value = Ok value
unless_broken file item (Some r) value = Err (record { file = file; item = item; rule = r })

-- the value of a record of a file, or the first rule that the record breaks
abbrev pub by_rules : {A : Type 0} → ℕ → ℕ → Rules → A → Result A Damage
by_rules file item rules value = unless_broken file item (first_broken rules) value

infixl 10 ◌>>=◌
abbrev pub ◌>>=◌ : {A B : Type 0} → Result A Damage → (A → Result B Damage) → Result B Damage
(Ok x) >>= f = f x
(Err e) >>= f = Err e

-- the damage that a reading stops at, or none
abbrev pub damage_of : {A : Type 0} → Result A Damage → Option Damage
damage_of (Ok x) = None
damage_of (Err d) = Some d

-- this damage; with none told, memory ran out, which may come at any time
abbrev pub Stops : {Y : Type 0} → Option Damage → Result Y Damage → Type 0
Stops None read = Unit {0}
Stops (Some d) read = read ≡ Err d

-- what a function answered, seen by view, is what is read, unless memory ran out; `told` gives the damage
-- that an error tells of
abbrev pub Answers : {X Y E : Type 0} → (E → Option Damage) → (X → Y) → Result X E → Result Y Damage → Type 0
Answers told view (Ok x) read = read ≡ Ok (view x)
Answers told view (Err e) read = Stops (told e) read
