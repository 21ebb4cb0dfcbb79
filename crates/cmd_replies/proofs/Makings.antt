-- What a command that writes a reply packet did, by what it made.
use Rattle.std.proofs.Common.{◌≡◌, ℕ, List, [], ◌∷◌, Result, Ok, Err, refl, ◌∙◌, ap, subst}
use Rattle.door_outside.specs.Shelf.{ShelfFiles, SameBut}
use Rattle.entry_runs.specs.Entry.{Serves}
use Rattle.shelf_files.specs.Halts.{Comes, done, served}
use Rattle.shelf_files.specs.declared.halt.Halt.{Halt}
use Rattle.shelf_files.specs.declared.halt.Halt.TheVariants.{Refused, ShelfFault, OutOfMemory}
use Rattle.shelf_files.specs.declared.refusal.Refusal.{Refusal}
use Rattle.cmd_replies.specs.Writing.{writes, with_rep, Puts}
use Rattle.cmd_replies.specs.declared.enlarging.Enlarged.{Enlarged}
use Rattle.cmd_replies.specs.declared.putting.Added.{Added}
use Rattle.door_outside.proofs.Shelves.{same_at}

-- the reply packet was made, and then it was put
pub serves_put : (name : List ℕ) (Makes : ShelfFiles → Result Enlarged Refusal → Type 0) (text : Added → List ℕ) (old mid new : ShelfFiles) (made : Enlarged) (result : Result Added Halt)
    → mid ≡ old → Makes old (Ok made) → Puts name made mid new result → Serves (writes name Makes text) old new (served text result)
serves_put name Makes text old mid new made (Ok added) same makes puts =
    (Ok made, makes, puts.1 ∙ ap (λ (files : ShelfFiles). with_rep files name (Ok made)) same, ap (λ (a : Added). done (text a)) puts.0)
serves_put name Makes text old mid new made (Err (Refused why)) same makes puts = absurd puts
serves_put name Makes text old mid new made (Err ShelfFault) same makes puts = subst (λ (files : ShelfFiles). SameBut (name ∷ []) files new) same puts
serves_put name Makes text old mid new made (Err OutOfMemory) same makes puts = puts ∙ same

-- none was made
pub serves_halt : (name : List ℕ) (Makes : ShelfFiles → Result Enlarged Refusal → Type 0) (text : Added → List ℕ) (old new : ShelfFiles) (halt : Halt)
    → new ≡ old → Comes {Value = Enlarged} (Err halt) (Makes old) → Serves (writes name Makes text) old new (served {Value = Added} text (Err halt))
serves_halt name Makes text old new (Refused why) same comes = (Err why, comes, same, refl)
serves_halt name Makes text old new ShelfFault same comes = same_at (name ∷ []) old new same
serves_halt name Makes text old new OutOfMemory same comes = same
