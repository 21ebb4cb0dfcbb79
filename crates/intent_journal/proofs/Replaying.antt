-- The patches of an open journal are carried out, and the gate is closed.
use Rattle.std.proofs.Common.{◌≡◌, inl, inr, ⊎_elim, ℕ, ◌<◌, List, [], ◌∷◌, length, take, sym, ◌∙◌, ap, subst, arith}
use Rattle.std.specs.Prelude.{All, true}
use Rattle.std.proofs.lemmas.Bool.{cases_Bool}
use Rattle.door_outside.specs.Disk.{Disk, Image, Now, AllNow, Passes, InFile, Torn, HoldsBytes, Reached, as_read, written}
use Rattle.door_outside.proofs.Moments.{reads_have}
use Rattle.intent_journal.specs.declared.patch.Patch.{Patch}
use Rattle.intent_journal.specs.Hosts.{IsCalm}
use Rattle.intent_journal.specs.Journal.{body_patches, intent_of, open_patches}
use Rattle.intent_journal.specs.Patches.{is_once, are_within, patched, data_files}
use Rattle.intent_journal.specs.Recovered.{recovered, Back}
use Rattle.intent_journal.specs.Spells.{IsFit}
use Rattle.intent_journal.specs.Steps.{IsOpen, IsSure, JournalKept, Stands}
use Rattle.intent_journal.proofs.DataFiles.{data_patched, data_same, within_data, within_same}
use Rattle.intent_journal.proofs.Moves.{closed_by, gate_outcome, intent_by, intent_past, recovered_by}

pub some_by : (journal : List ℕ) → take 1 journal ≡ 79 ∷ [] → 0 < length journal
some_by [] is = absurd (omega (arith, ap length is))
some_by (gate ∷ body) is = omega arith

module _ (patches : List Patch) (fit : All IsFit patches) (once : is_once patches ≡ true) (old : Disk) (sure : IsSure old) (is_open : IsOpen patches (old.files 1)) (within : are_within patches old.files ≡ true) where
  outcome : data_files (patched patches old.files) ≡ recovered old.files
  outcome = sym (recovered_by patches old.files (intent_by patches old.files is_open.intent within))

  pub intent_there : intent_of old.files ≡ patches
  intent_there = intent_by patches old.files is_open.intent within

  -- the patches begin within the files of every image, since else these were the outcome, within which they begin
  image_within : (image : Image) → Now old image → are_within patches image.files ≡ true
  image_within image left = elim (cases_Bool (are_within patches image.files)) [
    | inl fits ↦ fits
    | inr past ↦ within_data patches old.files image.files fit once within
        (sym (recovered_by [] image.files (intent_past patches image.files (ap open_patches (sure.journal image left) ∙ is_open.intent) past)) ∙ sure.firm image left ∙ sym outcome)
  ]

  pub sure_stands : AllNow old (Stands patches (as_read old))
  sure_stands image left =
      let journal = sure.journal image left in
      let same : data_files (patched patches image.files) ≡ data_files (patched patches old.files) =
      sym (recovered_by patches image.files (intent_by patches image.files (ap open_patches journal ∙ is_open.intent) (image_within image left))) ∙ sure.firm image left ∙ sym outcome in
      record {
        said = old.stays image left;
        journal = journal;
        within = image_within image left;
        result = same;
      }

  pub back_by : (image : Image) → Stands patches (as_read old) image → Back old image
  back_by image stands = record { said = stands.said; files = recovered_by patches image.files (intent_by patches image.files (ap open_patches stands.journal ∙ is_open.intent) stands.within) ∙ stands.result ∙ outcome }

  -- while the gate is closed
  module _ (done new : Disk) (stands : AllNow done (Stands patches (as_read old))) (all_done : AllNow done (λ image. data_files image.files ≡ data_files (patched patches old.files))) (call : Passes (InFile 1 (Torn 0 1)) (InFile 1 (Torn 0 1)) done new) where
    image_closing : (before image : Image) → Now done before → InFile 1 (Torn 0 1) before image → recovered image.files ≡ recovered old.files
    image_closing before image left step =
        let journal = (stands before left).journal in
        let some : 0 < length (before.files 1) = subst (λ (l : List ℕ). 0 < length l) (sym journal) (some_by (old.files 1) is_open.gate) in
        let begin : are_within patches image.files ≡ true = within_same patches before.files image.files fit (sym (data_same image.files before.files step.others)) (stands before left).within in
        let same : data_files image.files ≡ recovered old.files = data_same image.files before.files step.others ∙ all_done before left ∙ outcome in
        let again : data_files (patched patches image.files) ≡ recovered old.files =
        data_patched patches image.files before.files (data_same image.files before.files step.others) ∙ (stands before left).result ∙ outcome in
        ⊎_elim (λ as_old. as_old ∙ same) (λ as_new. as_new ∙ again) (gate_outcome patches before image (ap body_patches journal ∙ is_open.body) some begin step)

    pub back_closing : (image : Image) → Reached (InFile 1 (Torn 0 1)) done image → Back old image
    back_closing image from = record { said = from.2.said ∙ (stands from.0 from.1).said; files = image_closing from.0 image from.1 from.2 }

    module _ (holds : HoldsBytes 1 (written (done.files 1) 0 (67 ∷ [])) done.files new.files) (kept : JournalKept new) where
      reads_done : data_files done.files ≡ data_files (patched patches old.files)
      reads_done = reads_have done (λ image. data_files image.files ≡ data_files (patched patches old.files)) all_done

      pub calm_after : IsCalm new
      calm_after = record {
        closed = closed_by (done.files 1) (new.files 1) holds.holds;
        kept = λ image left.
            let from = call.now image left in
            record {
              journal = kept image left;
              files = data_same image.files from.0.files from.2.others ∙ all_done from.0 from.1 ∙ sym reads_done ∙ sym (data_same new.files done.files holds.others);
            };
      }

      pub files_after : data_files new.files ≡ recovered old.files
      files_after = data_same new.files done.files holds.others ∙ reads_done ∙ outcome
