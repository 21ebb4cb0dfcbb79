-- The error of reading a conference tells of a damage, or of want of memory.
use Rattle.std.proofs.Common.{◌≡◌, ◌⊎◌, refl, inl, inr}
use Rattle.jam_records.specs.declared.damage.Damage.{Damage}
use Rattle.damage_rules.proofs.ReadingClauses.{TellsDamage}
use Rattle.jam_layout.specs.declared.error.BaseError.{BaseError}
use Rattle.jam_layout.specs.declared.error.BaseError.TheVariants.{Damaged, OutOfMemory}
use Rattle.jam_layout.specs.Rules.{damage_of_base}

damage_or_memory : (e : BaseError) → ((d : Damage) × (e ≡ Damaged d)) ⊎ (e ≡ OutOfMemory)
damage_or_memory (Damaged d) = inl (d, refl)
damage_or_memory OutOfMemory = inr refl

pub base_tells : TellsDamage damage_of_base (λ d. Damaged d) OutOfMemory
base_tells = record { each = damage_or_memory; damage = λ d. refl }
