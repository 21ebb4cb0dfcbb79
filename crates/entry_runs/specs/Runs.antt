-- A list of entries, one after the other, whatever an entry does.
use Rattle.std.specs.Prelude.{◌≡◌, ◌⊎◌, ℕ, Bool, true, false, List, [], ◌∷◌, ◌++◌, Result, Ok, Err}
use Rattle.entry_runs.specs.declared.class.Class.{Class}
use Rattle.entry_runs.specs.declared.class.Class.TheVariants.{Done, Refused, Usage, Damaged}
use Rattle.entry_runs.specs.declared.status.Status.{Status}
use Rattle.entry_runs.specs.declared.status.Status.TheVariants as status
use Rattle.entry_runs.specs.declared.stop.Stop.{Stop}
use Rattle.entry_runs.specs.declared.stop.Stop.TheVariants as stop

-- what an entry does: the world after it, its reply and its class
pub record Stepped (World : Type 0) : Type 0 where
  pub world : World
  pub reply : List ℕ
  pub class : Class

-- what entries do: the world after them, their replies joined, and their classes in order
pub record RunOutcome (World : Type 0) : Type 0 where
  pub world : World
  pub replies : List ℕ
  pub classes : List Class

-- an entry of this class is the last that is taken
abbrev pub is_last : Class → Bool
is_last Done = false
is_last Refused = false
is_last Usage = true
is_last Damaged = true

-- a status after one entry more
abbrev pub with_class : Status → Class → Status
with_class so_far Done = so_far
with_class so_far Refused = status.Refused
with_class so_far Usage = status.Usage
with_class so_far Damaged = status.Damaged

-- the status after entries of these classes
abbrev pub status_after : Status → List Class → Status
status_after so_far [] = so_far
status_after so_far (class ∷ classes) = status_after (with_class so_far class) classes

abbrev pub status_of : List Class → Status
status_of classes = status_after status.Done classes

-- the status of a run that an entry stopped
abbrev pub stopped_status : Stop → Status
stopped_status stop.DiskFault = status.DiskFault
stopped_status stop.ShelfFault = status.ShelfFault
stopped_status stop.VoiceFault = status.VoiceFault
stopped_status stop.OutOfMemory = status.OutOfMemory

-- how an entry went whose reply was said so
abbrev pub once_said : {T E : Type 0} → Class → Result T E → Result Class Stop
once_said class (Ok value) = Ok class
once_said class (Err fault) = Err stop.VoiceFault

-- a run goes on after each of these classes
abbrev pub GoesOn : List Class → Type 0
GoesOn [] = Unit {0}
GoesOn (class ∷ classes) = (is_last class ≡ false) × GoesOn classes

-- a run gets as far as the last of these classes: it goes on after each before it
abbrev pub IsReached : List Class → Type 0
IsReached [] = Unit {0}
IsReached (class ∷ classes) = (classes ≡ []) ⊎ ((is_last class ≡ false) × IsReached classes)

-- All entries were taken, or those up to and with the first whose class ends the run.
abbrev pub AreTaken : {Entry : Type 0} → List Class → List Entry → Type 0
AreTaken [] left = left ≡ []
AreTaken (class ∷ classes) left = ((is_last class ≡ true) × (classes ≡ [])) ⊎ ((is_last class ≡ false) × AreTaken classes left)

module _ {World Entry : Type 0} (Step : World → Entry → Stepped World → Type 0) where
  -- from a world on, the entries have this outcome
  abbrev pub Runs : World → List Entry → RunOutcome World → Type 0
  Runs world [] outcome = outcome ≡ record { world = world; replies = []; classes = [] }
  Runs world (entry ∷ entries) outcome =
      (stepped : Stepped World) × (rest : RunOutcome World) × Step world entry stepped × Runs stepped.world entries rest
      × (outcome ≡ record { world = rest.world; replies = stepped.reply ++ rest.replies; classes = stepped.class ∷ rest.classes })
