-- A value that is longer than any address is none.
use Rattle.std.proofs.Common.{◌≡◌, ℕ, ◌<◌, true, false, List, length, refl, arith}
use Rattle.jam_layout.specs.Address.{is_address}
use Rattle.jam_layout.proofs.LayoutBounds.{address_most}

pub long_is_none : (text : List ℕ) → 23 < length text → is_address text ≡ false
long_is_none text long = elim (is_address text) as (λ b. is_address text ≡ b → b ≡ false) [
  | true ↦ λ e. absurd (let few = address_most text e in omega arith)
  | false ↦ λ e. refl
] refl
