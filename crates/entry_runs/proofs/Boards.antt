-- From the journal's calls to what a crate says of its board.
use Rattle.std.proofs.Common.{◌≡◌, ◌≢◌, ◌⊎◌, inl, inr, ⊎_elim, sym, ◌∙◌, ap, subst}
use Rattle.std.specs.Prelude.{List, Result, Ok, Err, OnOk, IsErrOf}
use Rattle.door_outside.specs.Disk.{Disk, Image, AllNow, Between, Unchanged, as_read}
use Rattle.door_outside.proofs.Moments.{joined, weaker, by_nothing, reads_have}
use Rattle.intent_journal.specs.Hosts.{IsCalm, IsFirm, IsSettled}
use Rattle.intent_journal.specs.Patches.{HostFiles, patched, data_files}
use Rattle.intent_journal.specs.Recovered.{recovered, OldOrPatched}
use Rattle.intent_journal.specs.declared.patch.Patch.{Patch}
use Rattle.intent_journal.proofs.Hosts.{calm_is_firm, calm_is_settled, calm_recovers, firm_unchanged, settled_unchanged}
use Rattle.entry_runs.specs.declared.stop.Stop.{Stop}
use Rattle.entry_runs.specs.declared.stop.Stop.TheVariants.{DiskFault, VoiceFault}
use Rattle.entry_runs.specs.Entry.{Recovers, Keeps, HasBoard, Finds, Changes}

module _ {State : Type 0} (Stores : State → HostFiles → Type 0) {state : State} {old : Disk} (board : HasBoard Stores state old) where
  -- the data files of a host at rest
  pub at_rest : IsCalm old → Stores state (data_files old.files)
  at_rest calm = subst (Stores state) (calm_recovers old calm) board.stores

  -- a board that is as it was, on a host at rest
  rests_at : {next : State} {new : Disk} → IsCalm new → Stores next (data_files new.files) → HasBoard Stores next new × IsFirm new
  rests_at {next = next} {new = new} calm stores = (
    record { settled = calm_is_settled new calm; stores = subst (Stores next) (sym (calm_recovers new calm)) stores },
    calm_is_firm new calm,
  )

  -- A call looked for the board: what a crash in it leaves stands for the board, or for the migrated one.
  module _ {next : State} {new : Disk} (Leaves : Image → Type 0) (each : (image : Image) → Leaves image → Recovers (λ files. Stores state files ⊎ Stores next files) old.said image)
      (moments : Between old new Leaves) (same : Leaves (as_read new)) where
    keeps_either : IsSettled new → Keeps (λ files. Stores state files ⊎ Stores next files) old new
    keeps_either settled = record { moments = weaker moments each; reads = each (as_read new) same; settled = settled }

    -- it found the migrated board
    pub opened_finds : {T : Type 0} {value : T} → IsCalm new → Stores next (data_files new.files) → Finds Stores state next old new (Ok value)
    opened_finds calm stores = record {
      keeps = keeps_either (calm_is_settled new calm);
      firm = λ sound was. calm_is_firm new calm;
      silent = λ is. absurd (cc is);
      done = rests_at calm stores;
    }

    -- it was stopped
    pub opening_stops : {T : Type 0} (stop : Stop) → stop ≢ VoiceFault → IsSettled new → (stop ≢ DiskFault → IsFirm old → IsFirm new) → Finds Stores {T = T} state next old new (Err stop)
    opening_stops stop silent settled firm = record {
      keeps = keeps_either settled;
      firm = λ sound was. firm (λ is. sound (ap Err is)) was;
      silent = λ is. let same : stop ≡ VoiceFault = cc in silent same;
      done = tt;
    }

  -- The board was found, and calls that change nothing went by, to their end or not.
  pub found_still : {migrated : State} {mid new : Disk} {T U : Type 0} {value : T} (result : Result U Stop) → Finds Stores state migrated old mid (Ok value) → Unchanged mid new
      → ¬ IsErrOf result VoiceFault → Finds Stores state migrated old new result
  found_still {migrated} {mid} {new} {U = U} result finds same silent =
      let files : new.files ≡ mid.files = same.files in
      let firm : IsFirm new = firm_unchanged mid new finds.done.1 same in
      record {
        keeps = record {
          moments = joined finds.keeps.moments (by_nothing same);
          reads = record {
            files = subst (λ (f : HostFiles). Stores state (recovered f) ⊎ Stores migrated (recovered f)) (sym files) finds.keeps.reads.files;
            said = same.said ∙ finds.keeps.reads.said;
          };
          settled = settled_unchanged mid new finds.keeps.settled same;
        };
        firm = λ sound was. firm;
        silent = silent;
        done = on_ok result (still_has, firm);
      }
    where
      still_has : HasBoard Stores migrated new
      still_has = record {
        settled = settled_unchanged mid new finds.done.0.settled same;
        stores = subst (λ (f : HostFiles). Stores migrated (recovered f)) (sym same.files) finds.done.0.stores;
      }

      on_ok : {P : Type 0} (r : Result U Stop) → P → OnOk r P
      on_ok (Ok x) holds = holds
      on_ok (Err e) holds = tt

  -- A change was committed, or not.
  pub committed_changes : {next : State} {intent : List Patch} {new : Disk} {T E : Type 0} (result : Result T E)
      → IsCalm old → (Stores state (data_files old.files) → Stores next (data_files (patched intent old.files)))
      → Between old new (OldOrPatched intent old) → AllNow new (OldOrPatched intent old) → IsSettled new
      → OnOk result (IsCalm new × (data_files new.files ≡ data_files (patched intent old.files))) → Changes Stores state next old new result
  committed_changes {next} {intent} {new} {T} {E} result calm leads moments now settled done = record {
    keeps = record { moments = weaker moments each; reads = each (as_read new) (reads_have new _ now); settled = settled };
    done = on_ok result done;
  }
    where
      each : (image : Image) → OldOrPatched intent old image → Recovers (λ files. Stores state files ⊎ Stores next files) old.said image
      each image it = record {
        files = ⊎_elim (λ still. inl (subst (Stores state) (sym still) (at_rest calm))) (λ then. inr (subst (Stores next) (sym then) (leads (at_rest calm)))) it.files;
        said = it.said;
      }

      on_ok : (r : Result T E) → OnOk r (IsCalm new × (data_files new.files ≡ data_files (patched intent old.files))) → OnOk r (HasBoard Stores next new × IsFirm new)
      on_ok (Ok x) is = rests_at is.0 (subst (Stores next) (sym is.1) (leads (at_rest calm)))
      on_ok (Err e) none = tt
