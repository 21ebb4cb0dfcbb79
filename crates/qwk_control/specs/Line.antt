-- What single lines of CONTROL.DAT say. Lines count from 1.
use Rattle.std.specs.Prelude.{ℕ, ◌-◌, ◌≤◌, List, [], Option, length, map, slice_get, unwrap_or, All}
use Rattle.std.specs.Borrow.{Bor}
use Rattle.text_fields.specs.Blank.{IsBlank}
use Rattle.text_fields.specs.Number.{Number}
use Rattle.text_fields.specs.Split.{SplitsAt}
use Rattle.text_fields.specs.Trim.{Trimmed}
use Rattle.text_fields.specs.declared.blank.Blank.TheVariants.{Spaces}

abbrev pub line : List (List ℕ) → ℕ → Option (List ℕ)
line all k = slice_get all (k - 1)

-- a line that may be missing, and is then empty
abbrev pub or_empty : List (List ℕ) → ℕ → List ℕ
or_empty all k = unwrap_or (line all k) []

-- the lines that are borrowed
abbrev pub texts : List (Bor (List ℕ)) → List (List ℕ)
texts borrowed = map (λ line. line.now) borrowed

abbrev pub IsSpace : ℕ → Type 0
IsSpace b = IsBlank Spaces b

-- one to nine digits of the value n, with spaces on either side
abbrev pub NumberLine : List ℕ → ℕ → Type 0
NumberLine text n = Number IsSpace 9 text n

-- the number of a conference, or of the conferences minus 1
pub record PlaceLine (text : List ℕ) (n : ℕ) : Type 0 where
  pub number : NumberLine text n
  pub small : n ≤ 65535

-- a board id: 1 to 8 bytes from 21h to 7Eh
pub record IsId (id : List ℕ) : Type 0 where
  pub some : 1 ≤ length id
  pub short : length id ≤ 8
  pub printed : All (λ b. (0x21 ≤ b) × (b ≤ 0x7E)) id

-- the serial, the first comma, and the board id with spaces on either side
pub record IdLine (text serial id : List ℕ) : Type 0 where
  pub rest : List ℕ
  pub comma : SplitsAt 44 text serial rest
  pub trimmed : Trimmed IsSpace rest id
  pub valid : IsId id
