-- A run whose entries were read, and one whose entries weren't.
use Rattle.std.proofs.Common.{◌≡◌, ◌⊎◌, inl, inr, ⊎_elim, ℕ, List, [], refl, subst}
use Rattle.std.specs.Prelude.{Ok}
use Rattle.cmd_entries.specs.Entries.{EntriesRead, UnreadCauses}
use Rattle.cmd_entries.specs.declared.entry.Entry.{Entry}
use Rattle.door_outside.specs.Disk.{Disk}
use Rattle.door_outside.specs.Shelf.{ShelfFiles}
use Rattle.entry_runs.proofs.Running.{completes, starts, survives}
use Rattle.entry_runs.specs.Door.{here}
use Rattle.entry_runs.specs.Promise.{FaultCounts, HasCauses, EndsAs, Survives, counts}
use Rattle.entry_runs.specs.Runs.{stopped_status}
use Rattle.entry_runs.specs.declared.status.Status.{Status}
use Rattle.entry_runs.specs.declared.stop.Stop.{Stop}
use Rattle.entry_runs.specs.declared.stop.Stop.TheVariants.{OutOfMemory, ShelfFault}
use Rattle.intent_journal.specs.Hosts.{IsSettled}
use Rattle.mail_cli.proofs.EntryLaws.{lawful}
use Rattle.mail_cli.specs.Run.{EntriesEnd, EntriesSurvive, RunCompletes, RunEnds, RunSurvives}
use Rattle.mail_cli.specs.Step.{door}

module _ (now : ℕ) (words : List (List ℕ)) where
  -- ---- they weren't read, and nothing was done
  pub unread_ends : (stop : Stop) (result : Status) (disk : Disk) (shelf later : ShelfFiles) → (stop ≡ ShelfFault) ⊎ (stop ≡ OutOfMemory) → result ≡ stopped_status stop → later ≡ shelf
      → RunEnds now words result disk disk shelf later
  unread_ends stop result disk shelf later from is same state stores = inr (record {
    stop = stop;
    status_is = is;
    from_shelf = from;
    stores = stores;
    said_is = refl;
    shelf_is = same;
    rests = λ firm. firm;
  })

  pub unread_survives : (disk : Disk) (shelf : ShelfFiles) → IsSettled disk → RunSurvives now words disk disk shelf
  unread_survives disk shelf settled state stores = (
    [],
    inr refl,
    survives (door now) (lawful now) stores (starts (door now) [] (record {
      board = record { settled = settled; stores = stores };
      shelf_is = refl;
    })),
  )

  -- ---- they were, and the shelf holds what it did
  module _ (entries : List Entry) (old new : Disk) (shelf between : ShelfFiles) (same : between ≡ shelf) (reads : EntriesRead words shelf entries) where
    pub read_ends : (result : Status) (later : ShelfFiles) → EntriesEnd now entries result old new between later → RunEnds now words result old new shelf later
    read_ends result later leaves state stores =
        inl (entries, reads, subst (λ (files : ShelfFiles). EndsAs (door now) result (here state files) entries old new later) same (leaves state stores))

    pub read_survives : EntriesSurvive now entries old new between → RunSurvives now words old new shelf
    read_survives survive state stores = (entries, inl reads, subst (λ (files : ShelfFiles). Survives (door now) (here state files) entries old new) same (survive state stores))

    pub read_completes : (before after : FaultCounts) (result : Status) (later : ShelfFiles) → HasCauses before after result → EntriesEnd now entries result old new between later
        → RunCompletes now words before after result old new shelf later
    read_completes before after result later causes leaves state stores none = ⊎_elim
        (λ memory. inl memory)
        (λ whole. inr (entries, reads, whole))
        (completes (door now) causes (subst (λ (files : ShelfFiles). EndsAs (door now) result (here state files) entries old new later) same (leaves state stores)) none)

-- the entries were read without a fault of the shelf
pub read_kept : {T : Type 0} {old between : ℕ} (entries : T) → UnreadCauses old between (Ok entries) → between ≡ old
read_kept entries causes = ⊎_elim (λ fault. absurd (cc fault)) (λ kept. kept) causes.kept

pub read_causes : (disk voice old between : ℕ) (after : FaultCounts) (result : Status) → between ≡ old → HasCauses (counts disk voice between) after result → HasCauses (counts disk voice old) after result
read_causes disk voice old between after result same causes = subst (λ (shelf : ℕ). HasCauses (counts disk voice shelf) after result) same causes
