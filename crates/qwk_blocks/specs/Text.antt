-- The text of a message, by Lee's layout: lines that each end with the byte E3h.
use Rattle.std.specs.Prelude.{◌≡◌, ℕ, List, [], ◌∷◌, ◌++◌, All}
use Rattle.std.specs.List.{flat_map}
use Rattle.text_fields.specs.Lines.{if_any}
use Rattle.text_fields.specs.Split.{Lacks}
use Rattle.text_fields.specs.Trim.{TrimmedEnd}
use Rattle.qwk_blocks.specs.Header.{IsPad}

-- each line, and E3h behind it
abbrev pub joined_lines : List (List ℕ) → List ℕ
joined_lines lines = flat_map (λ line. line ++ 0xE3 ∷ []) lines

abbrev pub IsLine : List ℕ → Type 0
IsLine line = Lacks 0xE3 line

-- The bytes are lines, each with its E3h, and a rest without one. The rest without the spaces and NULs
-- at its end is one more line where it isn't empty.
pub record TextReads (bytes : List ℕ) (lines : List (List ℕ)) : Type 0 where
  pub ended_lines : List (List ℕ)
  pub rest : List ℕ
  pub last : List ℕ
  pub whole : bytes ≡ joined_lines ended_lines ++ rest
  pub each : All IsLine ended_lines
  pub no_end : IsLine rest
  pub trimmed : TrimmedEnd IsPad rest last
  pub all : lines ≡ ended_lines ++ if_any last
