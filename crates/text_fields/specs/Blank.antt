-- The bytes that are blanks around a text.
use Rattle.std.specs.Prelude.{◌≡◌, ◌⊎◌, ◌==◌, ℕ, Bool}
use Rattle.text_fields.specs.declared.blank.Blank.{Blank}
use Rattle.text_fields.specs.declared.blank.Blank.TheVariants.{Spaces, SpacesAndNuls}

abbrev pub IsBlank : Blank → ℕ → Type 0
IsBlank Spaces b = b ≡ 32
IsBlank SpacesAndNuls b = (b ≡ 32) ⊎ (b ≡ 0)

abbrev pub is_space : ℕ → Bool
is_space b = b == 0x20
