-- All that a run promises, from its entries that were read, or weren't.
use Rattle.std.proofs.Common.{◌≡◌, ◌⊎◌, inl, inr, ⊎_elim, ℕ, List, refl, ◌∙◌, ap, subst, arith}
use Rattle.std.specs.Prelude.{◌≤◌, Err}
use Rattle.cmd_entries.specs.Entries.{EntriesRead, UnreadCauses}
use Rattle.cmd_entries.specs.declared.entry.Entry.{Entry}
use Rattle.cmd_entries.specs.declared.unread.Unread.{Unread}
use Rattle.cmd_entries.specs.declared.unread.Unread.TheVariants as unread
use Rattle.door_outside.specs.Disk.{Disk}
use Rattle.door_outside.specs.Shelf.{ShelfFiles}
use Rattle.entry_runs.specs.Promise.{FaultCounts, HasCauses, counts}
use Rattle.entry_runs.specs.Runs.{stopped_status}
use Rattle.entry_runs.specs.declared.status.Status.{Status}
use Rattle.entry_runs.specs.declared.status.Status.TheVariants as status
use Rattle.entry_runs.specs.declared.stop.Stop.{Stop}
use Rattle.entry_runs.specs.declared.stop.Stop.TheVariants.{OutOfMemory, ShelfFault}
use Rattle.intent_journal.specs.Hosts.{IsSettled}
use Rattle.mail_cli.proofs.CommandBounds.{run_bound, unwritten}
use Rattle.mail_cli.proofs.Histories.{run_continues}
use Rattle.mail_cli.proofs.Passages.{read_passage, run_joins, run_spoils_none, unread_passage}
use Rattle.mail_cli.proofs.Reading.{read_completes, read_ends, read_survives, unread_ends, unread_survives}
use Rattle.mail_cli.specs.CommandBound.{OneKeepsBound}
use Rattle.mail_cli.specs.Promises.{RunPromises}
use Rattle.mail_cli.specs.Run.{EntriesEnd, EntriesSurvive}

-- the shelf failed while the entries were read
faulty : {T : Type 0} (disk voice : ℕ) {old new : ℕ} → UnreadCauses {T = T} old new (Err unread.ShelfFault) → HasCauses (counts disk voice old) (counts disk voice new) status.ShelfFault
faulty disk voice causes = record {
  disk_later = omega arith;
  voice_later = omega arith;
  shelf_later = causes.later;
  disk_rose = λ is. absurd (cc is);
  voice_rose = λ is. absurd (cc is);
  shelf_rose = λ is. causes.rose refl;
  disk_kept = inr refl;
  voice_kept = inr refl;
  shelf_kept = inl refl;
}

pub faulty_causes : {T : Type 0} (disk voice : ℕ) {old new : ℕ} {why : Unread} → why ≡ unread.ShelfFault → UnreadCauses {T = T} old new (Err why) → HasCauses (counts disk voice old) (counts disk voice new) status.ShelfFault
faulty_causes {T} disk voice {old} {new} {why} is causes = faulty disk voice (subst (λ (w : Unread). UnreadCauses {T = T} old new (Err w)) is causes)

-- memory ran out
starved : {T : Type 0} (disk voice : ℕ) {old new : ℕ} → UnreadCauses {T = T} old new (Err unread.OutOfMemory) → HasCauses (counts disk voice old) (counts disk voice new) status.OutOfMemory
starved disk voice causes = record {
  disk_later = omega arith;
  voice_later = omega arith;
  shelf_later = causes.later;
  disk_rose = λ is. absurd (cc is);
  voice_rose = λ is. absurd (cc is);
  shelf_rose = λ is. absurd (cc is);
  disk_kept = inr refl;
  voice_kept = inr refl;
  shelf_kept = inr (⊎_elim (λ is. absurd (cc is)) (λ same. same) causes.kept);
}

pub starved_causes : {T : Type 0} (disk voice : ℕ) {old new : ℕ} {why : Unread} → why ≡ unread.OutOfMemory → UnreadCauses {T = T} old new (Err why) → HasCauses (counts disk voice old) (counts disk voice new) status.OutOfMemory
starved_causes {T} disk voice {old} {new} {why} is causes = starved disk voice (subst (λ (w : Unread). UnreadCauses {T = T} old new (Err w)) is causes)

module _ (now : ℕ) (words : List (List ℕ)) where
  -- the entries weren't read, and nothing was done
  pub unread_promises : (stop : Stop) (result : Status) (disk : Disk) (shelf : ShelfFiles) {before after : FaultCounts} → (stop ≡ ShelfFault) ⊎ (stop ≡ OutOfMemory) → result ≡ stopped_status stop → IsSettled disk
      → HasCauses before after result → RunPromises now words before after result disk disk shelf shelf
  unread_promises stop result disk shelf from is settled causes =
      let ends = unread_ends now words stop result disk shelf shelf from is refl in
      let survives = unread_survives now words disk shelf settled in
      let passage = unread_passage now words stop result disk shelf shelf from is refl settled in
      record {
        ends = ends;
        survives = survives;
        continues = run_continues now words result disk disk shelf shelf ends survives;
        passage = passage;
        joins = run_joins passage (omega arith);
        unspoiled = run_spoils_none passage;
        completes = λ state stores none. ⊎_elim
            (λ fault. let faulty : result ≡ status.ShelfFault = is ∙ ap stopped_status fault in absurd (none.shelf (causes.shelf_rose faulty)))
            (λ memory. let starved : result ≡ status.OutOfMemory = is ∙ ap stopped_status memory in inl starved)
            from;
        wrote = unwritten now words disk shelf;
      }

  -- they were
  pub read_promises : (entries : List Entry) (result : Status) (old new : Disk) (shelf : ShelfFiles) {before after : FaultCounts} → EntriesRead words shelf entries → HasCauses before after result
      → EntriesEnd now entries result old new shelf shelf → EntriesSurvive now entries old new shelf → old.clock ≤ new.clock → OneKeepsBound now entries old new shelf
      → RunPromises now words before after result old new shelf shelf
  read_promises entries result old new shelf {before} {after} reads causes entries_end entries_survive order bound =
      let ends = read_ends now words entries old new shelf shelf refl reads result shelf entries_end in
      let survives = read_survives now words entries old new shelf shelf refl reads entries_survive in
      let passage = read_passage now words entries result old new shelf shelf shelf refl reads entries_end entries_survive in
      record {
        ends = ends;
        survives = survives;
        continues = run_continues now words result old new shelf shelf ends survives;
        passage = passage;
        joins = run_joins passage order;
        unspoiled = run_spoils_none passage;
        completes = read_completes now words entries old new shelf shelf refl reads before after result shelf causes entries_end;
        wrote = run_bound now words old new shelf shelf entries refl reads bound;
      }
