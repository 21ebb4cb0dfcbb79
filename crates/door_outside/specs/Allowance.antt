-- How much of a file may still be asked for.
use Rattle.std.specs.Prelude.{ℕ, ◌+◌, ◌-◌}
use Rattle.door_outside.specs.declared.shelf.Piece.{Piece}
use Rattle.door_outside.specs.declared.shelf.Piece.TheVariants.{Missing, Count}

-- how many bytes came, from the start of the file on, and how many more may be asked for
pub record AllowanceState : Type 0 where
  pub taken : ℕ
  pub left : ℕ

-- after a piece more
abbrev pub after_piece : AllowanceState → Piece → AllowanceState
after_piece a Missing = a
after_piece a (Count n) = record { taken = a.taken + n; left = a.left - n }
