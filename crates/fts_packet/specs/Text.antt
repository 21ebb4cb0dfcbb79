-- The text of a packed message (FTS-0001, "Message text"): a carriage return ends a line, and line feeds are dropped.
use Rattle.std.specs.Prelude.{ℕ, List, [], ◌∷◌, ◌==◌, if◌then◌else◌}
use Rattle.std.specs.List.{onto_first}
pub use Rattle.text_fields.specs.Lines.{if_any, without_feeds}

-- The lines. What follows the last carriage return is one more where it isn't empty.
abbrev pub text_lines : List ℕ → List (List ℕ)
text_lines [] = []
text_lines (b ∷ rest) =
    if b == 0x0D then [] ∷ text_lines rest
    else (if b == 0x0A then text_lines rest else onto_first b (text_lines rest))
