-- What the functions of this crate answer where they read by rules.
use Rattle.std.specs.Prelude.{Option, Some, None, Result}
use Rattle.jam_records.specs.declared.damage.Damage.{Damage}
use Rattle.damage_rules.specs.Rules.{Answers}
use Rattle.board_ledger.specs.declared.error.LedgerError.{LedgerError}
use Rattle.board_ledger.specs.declared.error.LedgerError.TheVariants.{Damaged, OutOfMemory}

-- the damage that an error tells of, or none where memory ran out
abbrev pub damage_of_ledger : LedgerError → Option Damage
damage_of_ledger OutOfMemory = None
damage_of_ledger (Damaged d) = Some d

-- what a function answered, seen by view, is what is read, unless memory ran out
abbrev pub LedgerGives : {X Y : Type 0} → (X → Y) → Result X LedgerError → Result Y Damage → Type 0
LedgerGives view result read = Answers damage_of_ledger view result read
