-- What is known where a command over the shelf may stop.
use Rattle.std.specs.Prelude.{◌≡◌, ◌⊎◌, ℕ, ◌≤◌, List, Result, Ok, Err, IsErrOf}
use Rattle.door_outside.specs.Cause.{Rose}
use Rattle.entry_runs.specs.Entry.{Reply}
use Rattle.entry_runs.specs.declared.class.Class.TheVariants as class
use Rattle.entry_runs.specs.declared.stop.Stop.{Stop}
use Rattle.entry_runs.specs.declared.stop.Stop.TheVariants as stop
use Rattle.shelf_files.specs.Refusals.{refusal_line}
use Rattle.shelf_files.specs.declared.halt.Halt.{Halt}
use Rattle.shelf_files.specs.declared.halt.Halt.TheVariants.{Refused, ShelfFault, OutOfMemory}
use Rattle.shelf_files.specs.declared.refusal.Refusal.{Refusal}

-- P holds of the value, or of the refusal
abbrev pub Comes : {Value : Type 0} → Result Value Halt → (Result Value Refusal → Type 0) → Type 0
Comes (Ok value) P = P (Ok value)
Comes (Err (Refused refusal)) P = P (Err refusal)
Comes (Err ShelfFault) P = Unit {0}
Comes (Err OutOfMemory) P = Unit {0}

-- The count of faults doesn't fall. A fault is answered only where it rose, and any other answer leaves it.
pub record ShelfCauses {T : Type 0} (old new : ℕ) (result : Result T Halt) : Type 0 where
  pub later : old ≤ new
  pub rose : IsErrOf result ShelfFault → Rose old new
  pub kept : IsErrOf result ShelfFault ⊎ (new ≡ old)

-- what is said of a command that was carried out
abbrev pub done : List ℕ → Reply
done text = record { text = text; class = class.Done }

-- and of one that was refused
abbrev pub refused : Refusal → Reply
refused refusal = record { text = refusal_line refusal; class = class.Refused }

-- a value's text is said, or a refusal
abbrev pub replied : {Value : Type 0} → (Value → List ℕ) → Result Value Refusal → Reply
replied text (Ok value) = done (text value)
replied text (Err refusal) = refused refusal

-- what a command answers, as it is to be said, or why the run stops
abbrev pub served : {Value : Type 0} → (Value → List ℕ) → Result Value Halt → Result Reply Stop
served text (Ok value) = Ok (done (text value))
served text (Err (Refused refusal)) = Ok (refused refusal)
served text (Err ShelfFault) = Err stop.ShelfFault
served text (Err OutOfMemory) = Err stop.OutOfMemory
