-- Lines as they are written, each with CR and LF behind it, those that count for nothing, one that may be missing, and
-- texts without LF.
use Rattle.std.specs.Prelude.{ℕ, Bool, true, List, [], ◌∷◌, ◌++◌, filter, not, ◌==◌}
use Rattle.std.specs.List.{flat_map}

abbrev pub crlf_line : List ℕ → List ℕ
crlf_line line = line ++ 13 ∷ 10 ∷ []

abbrev pub text_of_lines : List (List ℕ) → List ℕ
text_of_lines all = flat_map crlf_line all

-- an empty line, and one that begins with `#`
abbrev pub is_skipped : List ℕ → Bool
is_skipped [] = true
is_skipped (b ∷ rest) = b == 0x23

-- a line that is there where it isn't empty
abbrev pub if_any : List ℕ → List (List ℕ)
if_any [] = []
if_any (b ∷ bytes) = (b ∷ bytes) ∷ []

-- without the line feeds
abbrev pub without_feeds : List ℕ → List ℕ
without_feeds text = filter (λ b. not (b == 0x0A)) text
