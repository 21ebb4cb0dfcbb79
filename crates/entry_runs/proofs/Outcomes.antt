-- What the statuses of a run tell of its start.
use Rattle.std.proofs.Common.{◌≡◌, ◌⊎◌, inl, inr, ⊎_elim, List, [], ◌∷◌, sym, ◌∙◌, ap, subst}
use Rattle.entry_runs.specs.Door.{World, Door, Step}
use Rattle.entry_runs.specs.Promise.{EndsAs}
use Rattle.entry_runs.specs.Runs.{Stepped, RunOutcome, Runs, with_class, status_after, stopped_status}
use Rattle.entry_runs.specs.declared.class.Class.{Class}
use Rattle.entry_runs.specs.declared.class.Class.TheVariants.{Done, Refused, Usage, Damaged}
use Rattle.entry_runs.specs.declared.status.Status.{Status}
use Rattle.entry_runs.specs.declared.status.Status.TheVariants as status
use Rattle.entry_runs.specs.declared.stop.Stop.{Stop}
use Rattle.entry_runs.specs.declared.stop.Stop.TheVariants.{DiskFault, ShelfFault, VoiceFault, OutOfMemory}
use Rattle.door_outside.specs.Disk.{Disk}
use Rattle.door_outside.specs.Shelf.{ShelfFiles}

abbrev AnyDamaged : List Class → Type 0
AnyDamaged [] = ⊥
AnyDamaged (class ∷ classes) = (class ≡ Damaged) ⊎ AnyDamaged classes

by_class : (so_far : Status) (class : Class) → with_class so_far class ≡ status.Damaged → (so_far ≡ status.Damaged) ⊎ (class ≡ Damaged)
by_class so_far Done is = inl is
by_class so_far Refused is = absurd (cc is)
by_class so_far Usage is = absurd (cc is)
by_class so_far Damaged is = inr (λ i. Damaged)

by_classes : (so_far : Status) (classes : List Class) → status_after so_far classes ≡ status.Damaged → (so_far ≡ status.Damaged) ⊎ AnyDamaged classes
by_classes so_far [] is = inl is
by_classes so_far (class ∷ classes) is = ⊎_elim
    (λ earlier. ⊎_elim (λ before. inl before) (λ here. inr (inl here)) (by_class so_far class earlier)) (λ later. inr (inr later)) (by_classes (with_class so_far class) classes is)

module _ {State Entry : Type 0} (door : Door State Entry) (Spoiled : State → Type 0)
    (only : (world : World State) (entry : Entry) (stepped : Stepped (World State)) → (door.act entry).Step world stepped → stepped.class ≡ Damaged → Spoiled world.state)
    (kept : (world : World State) (entry : Entry) (stepped : Stepped (World State)) → (door.act entry).Step world stepped → Spoiled stepped.world.state → Spoiled world.state) where
  from_start : (start : World State) (entries : List Entry) (outcome : RunOutcome (World State)) → Runs (Step door) start entries outcome → AnyDamaged outcome.classes → Spoiled start.state
  from_start start [] outcome runs any = absurd (subst AnyDamaged (ap (λ (o : RunOutcome (World State)). o.classes) runs) any)
  from_start start (entry ∷ entries) outcome runs any = ⊎_elim (λ here. only start entry runs.0 runs.2 here)
      (λ later. kept start entry runs.0 runs.2 (from_start runs.0.world entries runs.1 runs.3 later)) (subst AnyDamaged (ap (λ (o : RunOutcome (World State)). o.classes) runs.4) any)

  not_stopped : (stop : Stop) → stopped_status stop ≡ status.Damaged → ⊥
  not_stopped DiskFault is = absurd (cc is)
  not_stopped ShelfFault is = absurd (cc is)
  not_stopped VoiceFault is = absurd (cc is)
  not_stopped OutOfMemory is = absurd (cc is)

  -- a run ends as damaged only from a spoiled board
  pub damaged_start : {result ended : Status} {start : World State} {entries : List Entry} {old new : Disk} {shelf : ShelfFiles} → result ≡ ended
      → EndsAs door ended start entries old new shelf → result ≡ status.Damaged → Spoiled start.state
  damaged_start {start = start} same (inl whole) is = ⊎_elim (λ never. absurd (cc never)) (λ any. from_start start whole.taken whole.outcome whole.runs any)
      (by_classes status.Done whole.outcome.classes (sym whole.status_is ∙ sym same ∙ is))
  damaged_start same (inr cut) is = absurd (not_stopped cut.stop (sym cut.status_is ∙ sym same ∙ is))
