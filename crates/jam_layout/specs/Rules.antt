-- What the functions of this crate answer where they read by rules.
use Rattle.std.specs.Prelude.{Option, Some, None, Result}
use Rattle.jam_records.specs.declared.damage.Damage.{Damage}
use Rattle.damage_rules.specs.Rules.{Stops, Answers}
use Rattle.jam_layout.specs.declared.error.BaseError.{BaseError}
use Rattle.jam_layout.specs.declared.error.BaseError.TheVariants.{Damaged, OutOfMemory}

-- the damage that an error tells of, or none where memory ran out
abbrev pub damage_of_base : BaseError → Option Damage
damage_of_base OutOfMemory = None
damage_of_base (Damaged d) = Some d

-- that damage, or want of memory, which may come at any time
abbrev pub BaseFails : {Y : Type 0} → BaseError → Result Y Damage → Type 0
BaseFails e read = Stops (damage_of_base e) read

-- what a function answered, seen by view, is what is read, unless memory ran out
abbrev pub BaseGives : {X Y : Type 0} → (X → Y) → Result X BaseError → Result Y Damage → Type 0
BaseGives view result read = Answers damage_of_base view result read
