-- Commands that write a reply packet.
use Rattle.std.specs.Prelude.{◌≡◌, ℕ, List, [], ◌∷◌, ◌++◌, length, codes, decimal, Result, Ok, Err}
use Rattle.std.specs.FinMap as map
use Rattle.door_outside.specs.Shelf.{ShelfFiles, SameBut}
use Rattle.entry_runs.specs.Entry.{ShelfAct}
use Rattle.rep_packet.specs.Written.{rep_text}
use Rattle.shelf_files.specs.Halts.{replied}
use Rattle.shelf_files.specs.declared.halt.Halt.{Halt}
use Rattle.shelf_files.specs.declared.halt.Halt.TheVariants.{Refused, ShelfFault, OutOfMemory}
use Rattle.shelf_files.specs.declared.refusal.Refusal.{Refusal}
use Rattle.cmd_replies.specs.declared.enlarging.Enlarged.{Enlarged}
use Rattle.cmd_replies.specs.declared.putting.Added.{Added}

-- how many messages were added, and how many there are
abbrev pub added_in : Enlarged → Added
added_in made = record { messages = made.added; total = length made.rep.messages }

-- the shelf with the reply packet that a command made under its name; where it is refused nothing changes
abbrev pub with_rep : ShelfFiles → List ℕ → Result Enlarged Refusal → ShelfFiles
with_rep shelf name (Ok made) = map.insert shelf name (rep_text made.rep)
with_rep shelf name (Err why) = shelf

-- what a command does that makes a reply packet of the shelf, and writes it under its name
abbrev pub writes : List ℕ → (ShelfFiles → Result Enlarged Refusal → Type 0) → (Added → List ℕ) → ShelfAct
writes name Makes text = record {
  step = λ old new reply. (made : Result Enlarged Refusal) × Makes old made × (new ≡ with_rep old name made) × (reply ≡ replied (λ m. text (added_in m)) made);
  names = name ∷ [];
}

-- the reply packet that was made is written, or only its name differs, or nothing
abbrev pub Puts : List ℕ → Enlarged → ShelfFiles → ShelfFiles → Result Added Halt → Type 0
Puts name made old new (Ok added) = (added ≡ added_in made) × (new ≡ with_rep old name (Ok made))
Puts name made old new (Err (Refused why)) = ⊥
Puts name made old new (Err ShelfFault) = SameBut (name ∷ []) old new
Puts name made old new (Err OutOfMemory) = new ≡ old

-- how many messages a reply packet has, at the end of a line
abbrev pub total_text : ℕ → List ℕ → List ℕ
total_text total name = codes ", " ++ (decimal total ++ (codes " in " ++ (name ++ codes "\n")))
