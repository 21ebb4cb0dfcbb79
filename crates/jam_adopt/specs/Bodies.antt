-- The body that is made of a text.
use Rattle.std.specs.Prelude.{ℕ, ◌-◌, List, [], ◌∷◌, ◌++◌, length, slice_index, Bool, ◌||◌, ◌==◌, if◌then◌else◌}
pub use Rattle.text_fields.specs.Lines.{without_feeds}

-- it is empty or ends with 0Dh
abbrev pub is_ended : List ℕ → Bool
is_ended text = length text == 0 || slice_index text (length text - 1) == 0x0D

-- with 0Dh at its end, where it isn't empty
abbrev pub ended_text : List ℕ → List ℕ
ended_text text = if is_ended text then text else text ++ 0x0D ∷ []

abbrev pub adopted_body : List ℕ → List ℕ
adopted_body text = ended_text (without_feeds text)
