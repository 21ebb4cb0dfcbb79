-- The contents of files, in the order of their numbers. Those past the last are empty.
use Rattle.std.specs.Prelude.{◌≡◌, ℕ, ◌==◌, if◌then◌else◌, List, [], slice_index_or}

abbrev pub content : List (List ℕ) → ℕ → List ℕ
content files file = slice_index_or files file []

-- no content changed
abbrev pub SameContents : List (List ℕ) → List (List ℕ) → Type 0
SameContents old new = (file : ℕ) → content new file ≡ content old file

-- this file has these bytes, and the others are as they were
abbrev pub Sets : ℕ → List ℕ → List (List ℕ) → List (List ℕ) → Type 0
Sets to bytes old new = (file : ℕ) → content new file ≡ (if file == to then bytes else content old file)
