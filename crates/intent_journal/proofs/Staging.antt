-- A commit up to the whole body behind a closed gate.
use Rattle.std.proofs.Common.{◌≡◌, inl, inr, ⊎_elim, ℕ, ◌<◌, ◌≤◌, List, [], ◌∷◌, length, take, length-take, refl, sym, ◌∙◌, ap, subst, arith}
use Rattle.std.specs.Prelude.{All, true, ◌==◌}
use Rattle.std.proofs.lemmas.Bool.{cases_eq, eq-eqb, ne_eqb, cond-true, cond-false}
use Rattle.std.proofs.lemmas.List.{nil_from_length}
use Rattle.door_outside.specs.Disk.{Disk, Image, AllNow, Between, Passes, InFile, Torn, HoldsBytes, Reached, Unchanged, as_read, written}
use Rattle.door_outside.proofs.Moments.{joined, by_call, by_nothing, now_by, now_unchanged, reads_have}
use Rattle.intent_journal.specs.Hosts.{IsCalm, IsSettled}
use Rattle.intent_journal.specs.Journal.{spelled, body_patches, open_patches, IsClosed}
use Rattle.intent_journal.specs.Patches.{HostFiles, SameFiles, are_within, patched, data_files}
use Rattle.intent_journal.specs.Recovered.{OldOrPatched}
use Rattle.intent_journal.specs.Spells.{IsFit}
use Rattle.intent_journal.specs.Steps.{BehindGate, HasJournalBody, JournalKept, Quiet, IsStaged, IsShut}
use Rattle.intent_journal.specs.declared.patch.Patch.{Patch}
use Rattle.intent_journal.proofs.DataFiles.{data_patched, data_same, intent_same, kept_unchanged, within_same}
use Rattle.intent_journal.proofs.Moves.{closed_by, intent_closed, intent_none, quiet_recovers, settled_by_data}

-- one byte is no intent
short_closed : (journal : List ℕ) → length journal ≤ 1 → open_patches journal ≡ []
unfolding body_patches
short_closed [] short = refl
short_closed (gate ∷ []) short = elim (cases_eq gate 79) [
  | inl is ↦ cond-true (gate == 79) _ _ (eq-eqb gate 79 is)
  | inr ne ↦ cond-false (gate == 79) _ _ (ne_eqb gate 79 ne)
]
short_closed (gate ∷ b ∷ rest) short = absurd (omega arith)

module _ (old mid new : Disk) (calm : IsCalm old) (same : Unchanged old mid) (file : ℕ) (is_journal : file ≡ 1) (is_empty : length (old.files file) ≡ 0) (call : Passes (InFile 1 (Torn 0 1)) (InFile 1 (Torn 0 1)) mid new) where
  none : mid.files 1 ≡ []
  none = ap (λ (f : HostFiles). f 1) same.files ∙ ap old.files (sym is_journal) ∙ nil_from_length (old.files file) is_empty

  kept_mid : AllNow mid (λ image. SameFiles image.files old.files)
  kept_mid = now_unchanged same calm.kept

  quiet_at : (image : Image) → Reached (InFile 1 (Torn 0 1)) mid image → Quiet (as_read old) image
  quiet_at image from =
      let is = kept_mid from.0 from.1 in
      let empty : from.0.files 1 ≡ [] = is.journal ∙ ap (λ (f : HostFiles). f 1) (sym same.files) ∙ none in
      record {
        said = from.2.said ∙ mid.stays from.0 from.1 ∙ same.said;
        files = data_same image.files from.0.files from.2.others ∙ is.files;
        closed = intent_none image.files (short_closed (image.files 1) (omega (arith, from.2.changed.no_longer, ap length empty)));
      }

  pub shut_moments : Between old new (Quiet (as_read old))
  shut_moments = joined (by_nothing same) (by_call call quiet_at)

  pub shut_now : AllNow new (Quiet (as_read old))
  shut_now = now_by call quiet_at

  pub shut_done : HoldsBytes 1 (written (mid.files 1) 0 (67 ∷ [])) mid.files new.files → JournalKept new → IsShut old new
  shut_done holds kept =
      let journal : new.files 1 ≡ 67 ∷ [] = holds.holds ∙ ap (λ (l : List ℕ). written l 0 (67 ∷ [])) none in
      record {
        closed = closed_by (mid.files 1) (new.files 1) holds.holds;
        gate = omega (arith, ap length journal);
        files = data_same new.files mid.files holds.others ∙ ap data_files same.files;
        kept = λ image left.
            let from = call.now image left in
            record {
              journal = kept image left;
              files = data_same image.files from.0.files from.2.others ∙ (kept_mid from.0 from.1).files ∙ sym (ap data_files same.files) ∙ sym (data_same new.files mid.files holds.others);
            };
      }

module _ (old mid : Disk) (calm : IsCalm old) (same : Unchanged old mid) where
  pub quiet_still : AllNow mid (Quiet (as_read old))
  quiet_still image left =
      let is = now_unchanged same calm.kept image left in
      record {
        said = mid.stays image left ∙ same.said;
        files = is.files;
        closed = intent_same image.files old.files is ∙ intent_closed old.files calm.closed;
      }

  pub shut_already : 0 < length (mid.files 1) → IsShut old mid
  shut_already some = record {
    closed = subst (λ (f : HostFiles). IsClosed (f 1)) (sym same.files) calm.closed;
    gate = some;
    files = ap data_files same.files;
    kept = kept_unchanged old mid calm.kept same;
  }

module _ (old mid new : Disk) (so_far : Between old mid (Quiet (as_read old))) (quiet : AllNow mid (Quiet (as_read old))) (is_shut : IsShut old mid) (call : Passes (InFile 1 BehindGate) (InFile 1 BehindGate) mid new) where
  behind_quiet : (image : Image) → Reached (InFile 1 BehindGate) mid image → Quiet (as_read old) image
  behind_quiet image from =
      let is = is_shut.kept from.0 from.1 in
      let some : 0 < length (from.0.files 1) = subst (λ (l : List ℕ). 0 < length l) (sym is.journal) is_shut.gate in
      let gate : take 1 (image.files 1) ≡ take 1 (mid.files 1) = from.2.changed some ∙ ap (take 1) is.journal in
      record {
        said = from.2.said ∙ (quiet from.0 from.1).said;
        files = data_same image.files from.0.files from.2.others ∙ (quiet from.0 from.1).files;
        closed = intent_closed image.files (λ open_gate. is_shut.closed (sym gate ∙ open_gate));
      }

  pub body_moments : Between old new (Quiet (as_read old))
  body_moments = joined so_far (by_call call behind_quiet)

  pub body_now : AllNow new (Quiet (as_read old))
  body_now = now_by call behind_quiet

  pub staged : (count : ℕ) (text : List ℕ) → (0 < length (mid.files 1) → HasJournalBody count text mid.files new.files) → JournalKept new → IsStaged (spelled count text) old new
  staged count text bodies kept =
      let body = bodies is_shut.gate in
      record {
        body = body.body;
        gate = omega (arith, is_shut.gate, ap length body.gate, length-take 1 (new.files 1), length-take 1 (mid.files 1));
        files = data_same new.files mid.files body.others ∙ is_shut.files;
        kept = λ image left.
            let from = call.now image left in
            record {
              journal = kept image left;
              files = data_same image.files from.0.files from.2.others ∙ (is_shut.kept from.0 from.1).files ∙ sym (data_same new.files mid.files body.others);
            };
      }

module _ (patches : List Patch) (old mid : Disk) (quiet : AllNow mid (Quiet (as_read old))) where
  pub quiet_settled : IsSettled mid
  quiet_settled = settled_by_data mid old.files (λ image left. (quiet image left).files)

  pub quiet_as : (image : Image) → Quiet (as_read old) image → OldOrPatched patches old image
  quiet_as image q = record { said = q.said; files = inl (quiet_recovers (as_read old) image q) }

  same_data : data_files mid.files ≡ data_files old.files
  same_data = (reads_have mid (Quiet (as_read old)) quiet).files

  pub same_patched : data_files (patched patches mid.files) ≡ data_files (patched patches old.files)
  same_patched = data_patched patches mid.files old.files same_data

  pub staged_within : All IsFit patches → are_within patches old.files ≡ true → are_within patches mid.files ≡ true
  staged_within fit within = within_same patches old.files mid.files fit (sym same_data) within

  pub staged_as : (image : Image) → OldOrPatched patches mid image → OldOrPatched patches old image
  staged_as image o = record {
    said = o.said ∙ (reads_have mid (Quiet (as_read old)) quiet).said;
    files = ⊎_elim (λ as_old. inl (as_old ∙ same_data)) (λ as_new. inr (as_new ∙ same_patched)) o.files;
  }
