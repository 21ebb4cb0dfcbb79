-- The error of reading a ledger tells of a damage, or of want of memory.
use Rattle.std.proofs.Common.{◌≡◌, ◌⊎◌, refl, inl, inr}
use Rattle.jam_records.specs.declared.damage.Damage.{Damage}
use Rattle.damage_rules.proofs.ReadingClauses.{TellsDamage}
use Rattle.board_ledger.specs.declared.error.LedgerError.{LedgerError}
use Rattle.board_ledger.specs.declared.error.LedgerError.TheVariants.{Damaged, OutOfMemory}
use Rattle.board_ledger.specs.Rules.{damage_of_ledger}

damage_or_memory : (e : LedgerError) → ((d : Damage) × (e ≡ Damaged d)) ⊎ (e ≡ OutOfMemory)
damage_or_memory (Damaged d) = inl (d, refl)
damage_or_memory OutOfMemory = inr refl

pub ledger_tells : TellsDamage damage_of_ledger (λ d. Damaged d) OutOfMemory
ledger_tells = record { each = damage_or_memory; damage = λ d. refl }
