-- The gate is opened over a whole body.
use Rattle.std.proofs.Common.{◌≡◌, inl, inr, ⊎_elim, ℕ, ◌<◌, List, [], ◌∷◌, length, take, drop, sym, ◌∙◌, ap, subst}
use Rattle.std.specs.Prelude.{All, true, Some, unwrap_or}
use Rattle.door_outside.specs.Disk.{Disk, Image, Now, AllNow, Between, Passes, InFile, Torn, HoldsBytes, Reached, written}
use Rattle.door_outside.proofs.Moments.{joined, weaker, by_call, now_by, said_by}
use Rattle.intent_journal.specs.declared.patch.Patch.{Patch}
use Rattle.intent_journal.specs.Hosts.{IsSettled}
use Rattle.intent_journal.specs.Journal.{body_patches, open_patches}
use Rattle.intent_journal.specs.Patches.{SameFiles, are_within, patched, data_files}
use Rattle.intent_journal.specs.Recovered.{recovered, OldOrPatched, Back}
use Rattle.intent_journal.specs.Spells.{IsFit}
use Rattle.intent_journal.specs.Steps.{IsOpen, IsStaged, IsSure, JournalKept}
use Rattle.intent_journal.proofs.DataFiles.{data_patched, data_same, recovered_same, within_same}
use Rattle.intent_journal.proofs.Moves.{body_behind, gate_outcome, gate_written, intent_by, recovered_by, settled_by_data, settled_by_outcome}

-- what holds at each end of it
pub record Ended (patches : List Patch) (old new : Disk) : Type 0 where
  pub moments : Between old new (OldOrPatched patches old)
  pub now : AllNow new (OldOrPatched patches old)
  pub settled : IsSettled new

module _ (patches : List Patch) (old : Disk) (fit : All IsFit patches) (staged : IsStaged patches old old) (within : are_within patches old.files ≡ true) where
  image_opening : (before image : Image) → Now old before → InFile 1 (Torn 0 1) before image → OldOrPatched patches old image
  image_opening before image left step =
      let is = staged.kept before left in
      let same_data : data_files image.files ≡ data_files old.files = data_same image.files before.files step.others ∙ is.files in
      let body : body_patches (before.files 1) ≡ Some patches = ap body_patches is.journal ∙ staged.body in
      record {
        said = step.said ∙ old.stays before left;
        files = ⊎_elim (λ as_old. inl (as_old ∙ same_data)) (λ as_new. inr (as_new ∙ data_patched patches image.files old.files same_data))
            (gate_outcome patches before image body (subst (λ (l : List ℕ). 0 < length l) (sym is.journal) staged.gate) (within_same patches old.files image.files fit (sym same_data) within) step);
      }

  -- while the gate is opened
  pub opening : (new : Disk) → Passes (InFile 1 (Torn 0 1)) (InFile 1 (Torn 0 1)) old new → Ended patches old new
  opening new call =
      let each : (image : Image) → Reached (InFile 1 (Torn 0 1)) old image → OldOrPatched patches old image = λ image from. image_opening from.0 image from.1 from.2 in
      record {
        moments = by_call call each;
        now = now_by call each;
        settled = settled_by_data new old.files (now_by call (λ image from. data_same image.files from.0.files from.2.others ∙ (staged.kept from.0 from.1).files));
      }

  module _ (mid : Disk) (call : Passes (InFile 1 (Torn 0 1)) (InFile 1 (Torn 0 1)) old mid) (holds : HoldsBytes 1 (written (old.files 1) 0 (79 ∷ [])) old.files mid.files) (kept : JournalKept mid) where
    journal : mid.files 1 ≡ 79 ∷ drop 1 (old.files 1)
    journal = holds.holds ∙ gate_written (old.files 1) 79

    body : body_patches (79 ∷ drop 1 (old.files 1)) ≡ Some patches
    body = body_behind 79 (old.files 1) staged.gate ∙ staged.body

    pub opened : IsOpen patches (mid.files 1)
    opened = record {
      intent = ap open_patches journal ∙ ap (λ o. unwrap_or o []) body;
      body = ap body_patches journal ∙ body;
      gate = ap (take 1) journal;
    }

    data_mid : data_files mid.files ≡ data_files old.files
    data_mid = data_same mid.files old.files holds.others

    pub open_within : are_within patches mid.files ≡ true
    open_within = within_same patches old.files mid.files fit (sym data_mid) within

    as_it_reads : AllNow mid (λ image. SameFiles image.files mid.files)
    as_it_reads image left =
        let from = call.now image left in
        record { journal = kept image left; files = data_same image.files from.0.files from.2.others ∙ (staged.kept from.0 from.1).files ∙ sym data_mid }

    pub open_sure : IsSure mid
    open_sure = record { firm = λ image left. recovered_same image.files mid.files (as_it_reads image left); journal = kept }

    pub outcome : recovered mid.files ≡ data_files (patched patches old.files)
    outcome = recovered_by patches mid.files (intent_by patches mid.files opened.intent open_within) ∙ data_patched patches mid.files old.files data_mid

    back_as : (image : Image) → Back mid image → OldOrPatched patches old image
    back_as image back = record { said = back.said ∙ said_by call; files = inr (back.files ∙ outcome) }

    -- while the patches are carried out and the gate is closed
    pub ended : (new : Disk) → Between mid new (Back mid) → AllNow new (Back mid) → Ended patches old new
    ended new since now = record {
      moments = joined (opening mid call).moments (weaker since back_as);
      now = λ image left. back_as image (now image left);
      settled = settled_by_outcome new (recovered mid.files) (λ image left. (now image left).files);
    }
