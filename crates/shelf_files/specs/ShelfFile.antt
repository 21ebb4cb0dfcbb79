-- What a file of the shelf is read as.
use Rattle.std.specs.Prelude.{◌≡◌, ℕ, nat_le, if◌then◌else◌, List, length, Option, Some, None, Result, Ok, Err}
use Rattle.door_outside.specs.Shelf.{ShelfFiles, held}
use Rattle.shelf_files.specs.declared.refusal.Refusal.{Refusal}
use Rattle.shelf_files.specs.declared.refusal.Refusal.TheVariants.{NoFile, TooLarge}

-- the most bytes of a MESSAGES.DAT that is read
abbrev pub packet_limit : ℕ
packet_limit = 41943040

-- the most bytes of another file of the shelf that is read
abbrev pub file_limit : ℕ
file_limit = 4194304

-- the most bytes of a reply packet
abbrev pub rep_limit : ℕ
rep_limit = 1048576

-- the most bytes of each file of another tool's base
abbrev pub foreign_limit : ℕ
foreign_limit = 16777216

-- a file of at most so many bytes, or why there is none
abbrev pub within : List ℕ → ℕ → Option (List ℕ) → Result (List ℕ) Refusal
within name most None = Err (NoFile name)
within name most (Some file) = if nat_le (length file) most then Ok file else Err (TooLarge name)

abbrev pub file_within : ShelfFiles → List ℕ → ℕ → Result (List ℕ) Refusal
file_within shelf name most = within name most (held shelf name)

-- a file reads as a value, or its first fault refuses it
module _ {Value Fault : Type 0} (Reads : List ℕ → Value → Type 0) (Breaks : List ℕ → Fault → Type 0) (refusal : Fault → Refusal) where
  abbrev pub ReadAs : Result (List ℕ) Refusal → Result Value Refusal → Type 0
  ReadAs (Err why) (Ok value) = ⊥
  ReadAs (Err why) (Err other) = other ≡ why
  ReadAs (Ok file) (Ok value) = Reads file value
  ReadAs (Ok file) (Err why) = (fault : Fault) × Breaks file fault × (why ≡ refusal fault)
