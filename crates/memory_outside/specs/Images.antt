-- The images that a host in memory can be made of.
use Rattle.std.specs.Prelude.{◌≡◌, ◌≢◌, ℕ, List, length}
use Rattle.door_outside.specs.Disk.{Torn, Cut}
use Rattle.memory_outside.specs.Events.{read, synced}
use Rattle.memory_outside.specs.MemoryHost.{Hosted}
use Rattle.memory_outside.specs.declared.event.Event.{Event}
use Rattle.memory_outside.specs.declared.event.Event.TheVariants.{Write, Shorten, Sync, Put, Say}
use Rattle.memory_outside.specs.declared.image.ImageChoice.{ImageChoice}
use Rattle.memory_outside.specs.declared.image.ImageChoice.TheVariants.{Synced, Written, Mixed}
use Rattle.memory_outside.specs.declared.plan.FaultPlan.{FaultPlan}

-- one file changes by a step, and no other
pub record OneFile (file : ℕ) (step : List ℕ → List ℕ → Type 0) (old new : ℕ → List ℕ) : Type 0 where
  pub changed : step (old file) (new file)
  pub others : (other : ℕ) → other ≢ file → new other ≡ old other

-- What an event may make of the files of an image, where the disk read so before it: what was written or cut may
-- take hold or not, and what was synced is as it read.
abbrev pub TakesEvent : Event → (ℕ → List ℕ) → (ℕ → List ℕ) → (ℕ → List ℕ) → Type 0
TakesEvent (Write to at bytes) reads old new = OneFile to (Torn at (length bytes)) old new
TakesEvent (Shorten to len) reads old new = OneFile to (Cut len) old new
TakesEvent (Sync to) reads old new = OneFile to (λ before after. after ≡ reads to) old new
TakesEvent (Put to bytes) reads old new = OneFile to (λ before after. after ≡ bytes) old new
TakesEvent (Say bytes) reads old new = (file : ℕ) → new file ≡ old file

-- what a choice says of the files
abbrev pub Chosen : ImageChoice → List Event → (ℕ → List ℕ) → Type 0
Chosen Synced events files = (file : ℕ) → files file ≡ synced events file
Chosen Written events files = (file : ℕ) → files file ≡ read events file
Chosen (Mixed seed) events files = Unit {0}

-- no call was made yet
pub record IsFresh (plan : FaultPlan) (host : Hosted) : Type 0 where
  pub planned : host.counts.plan ≡ plan
  pub calls : host.counts.calls ≡ 0
  pub starved : host.counts.starved ≡ 0
  pub wrote : host.wrote ≡ 0
  pub disk_faults : host.disk_faults ≡ 0
  pub voice_faults : host.voice_faults ≡ 0
