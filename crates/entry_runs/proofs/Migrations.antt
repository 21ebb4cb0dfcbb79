-- Where nothing is migrated, the promise of a run is that of the board itself.
use Rattle.std.proofs.Common.{◌≡◌, ⊎_elim, List, subst}
use Rattle.std.specs.Prelude.{IsTrue}
use Rattle.door_outside.specs.Disk.{Disk, Image}
use Rattle.intent_journal.specs.Patches as Data
use Rattle.intent_journal.specs.Recovered.{recovered}
use Rattle.entry_runs.specs.Door.{World, Act, Door, touches}
use Rattle.entry_runs.specs.Promise.{Before, IsHeld}

-- a board that the entry doesn't migrate stands as it did
pub before_itself : {State : Type 0} (Stores : State → Data.HostFiles → Type 0) (act : Act State) (state : State) (files : Data.HostFiles) → (IsTrue act.reach.board → act.migrated state ≡ state)
    → Before Stores act state files → Stores state files
before_itself Stores act state files same either = ⊎_elim (λ still. still) (λ migrated. subst (λ s. Stores s files) (same migrated.0) migrated.1) either

module _ {State Entry : Type 0} (door : Door State Entry) where
  -- where no entry that touches the board migrates it, a crash leaves that board itself
  pub held_itself : {start : World State} {entries : List Entry} {old : Disk} {image : Image} (held : IsHeld door start entries old image)
      → ((entry : Entry) → IsTrue (touches door entry) → (door.act entry).migrated held.reply.outcome.world.state ≡ held.reply.outcome.world.state)
      → door.Stores held.reply.outcome.world.state (recovered image.files)
  held_itself {image = image} held same =
      ⊎_elim (λ still. still) (λ it. subst (λ (s : State). door.Stores s (recovered image.files)) (same it.next it.touched) it.stores) held.stores
