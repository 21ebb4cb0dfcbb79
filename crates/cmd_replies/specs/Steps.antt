-- Steps of a command, one after the other: the first that is refused refuses the command.
use Rattle.std.specs.Prelude.{◌⊎◌, Option, Some, None, Result, Ok, Err}
use Rattle.shelf_files.specs.declared.refusal.Refusal.{Refusal}

-- one step, and what follows with its value
abbrev pub Then : {A B : Type 0} → (Result A Refusal → Type 0) → (A → Result B Refusal → Type 0) → Result B Refusal → Type 0
Then {A} First Next (Ok value) = (found : A) × First (Ok found) × Next found (Ok value)
Then {A} First Next (Err why) = First (Err why) ⊎ ((found : A) × First (Ok found) × Next found (Err why))

-- what is there, or a refusal
abbrev pub or_refused : {A : Type 0} → Refusal → Option A → Result A Refusal
or_refused why None = Err why
or_refused why (Some value) = Ok value
