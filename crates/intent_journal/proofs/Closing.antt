-- An open gate over a body that is no intent is closed.
use Rattle.std.proofs.Common.{◌≡◌, inl, inr, ℕ, List, [], ◌∷◌, length, take, drop, get_or, refl, sym, ◌∙◌, ap, subst, arith}
use Rattle.std.proofs.lemmas.Bool.{cases_eq, cases_Bool, true≢false}
use Rattle.std.specs.Prelude.{false}
use Rattle.door_outside.specs.Disk.{Disk, Image, Now, AllNow, Passes, InFile, Torn, HoldsBytes, Reached, written}
use Rattle.intent_journal.specs.declared.patch.Patch.{Patch}
use Rattle.intent_journal.specs.Hosts.{IsCalm}
use Rattle.intent_journal.specs.Journal.{IsClosed, open_patches, intent_of}
use Rattle.intent_journal.specs.Patches.{SameFiles, are_within, patched, data_files}
use Rattle.intent_journal.specs.Recovered.{recovered, Back}
use Rattle.intent_journal.specs.Steps.{IsSure, JournalKept}
use Rattle.intent_journal.proofs.DataFiles.{data_same, intent_same, sound, within_data}
use Rattle.intent_journal.proofs.Moves.{closed_by, gate_torn, intent_by, intent_closed, intent_none, intent_past, recovered_by}
use Rattle.intent_journal.proofs.Replaying.{some_by}

split_gate : (journal : List ℕ) → take 1 journal ≡ 79 ∷ [] → journal ≡ 79 ∷ drop 1 journal
split_gate [] is = absurd (omega (arith, ap length is))
split_gate (gate ∷ body) is = ap (λ (x : ℕ). x ∷ body) (ap (λ (l : List ℕ). get_or l 0 0) is)

module _ (disk : Disk) (sure : IsSure disk) (none : intent_of disk.files ≡ []) where
  abbrev there : List Patch
  there = open_patches (disk.files 1)

  -- where one of the patches begins past the end of its file, one does in every image
  past_kept : (image : Image) → Now disk image → are_within there disk.files ≡ false → are_within there image.files ≡ false
  past_kept image left past = elim (cases_Bool (are_within there image.files)) [
    | inr too ↦ too
    | inl fits ↦
        let good = sound (disk.files 1) in
        let same : data_files disk.files ≡ data_files (patched there image.files) =
        sym (recovered_by [] disk.files none) ∙ sym (sure.firm image left) ∙ recovered_by there image.files (intent_by there image.files (ap open_patches (sure.journal image left)) fits) in
        absurd (true≢false (sym (within_data there image.files disk.files good.fit good.once fits same) ∙ past))
  ]

  none_there : (image : Image) → Now disk image → intent_of image.files ≡ []
  none_there image left =
      let patches : open_patches (image.files 1) ≡ there = ap open_patches (sure.journal image left) in
      elim (cases_Bool (are_within there disk.files)) [
        | inl fits ↦ intent_none image.files (patches ∙ sym (intent_by there disk.files refl fits) ∙ none)
        | inr past ↦ intent_past there image.files patches (past_kept image left past)
      ]

  -- where no intent stands there, every image is as read
  pub unread_kept : AllNow disk (λ image. SameFiles image.files disk.files)
  unread_kept image left = record {
    journal = sure.journal image left;
    files = sym (recovered_by [] image.files (none_there image left)) ∙ sure.firm image left ∙ recovered_by [] disk.files none;
  }

  pub calm_closed : IsClosed (disk.files 1) → IsCalm disk
  calm_closed shut = record { closed = shut; kept = unread_kept }

  pub unread_files : data_files disk.files ≡ recovered disk.files
  unread_files = sym (recovered_by [] disk.files none)

  module _ (gate : take 1 (disk.files 1) ≡ 79 ∷ []) (new : Disk) (call : Passes (InFile 1 (Torn 0 1)) (InFile 1 (Torn 0 1)) disk new) where
    still_none : (image : Image) → data_files image.files ≡ data_files disk.files → Torn 0 1 (disk.files 1) (image.files 1) → intent_of image.files ≡ []
    still_none image same_data torn =
        let is = gate_torn (disk.files 1) (image.files 1) (some_by (disk.files 1) gate) torn in
        elim (cases_eq is.0 79) [
          | inl same ↦
              let journal : image.files 1 ≡ disk.files 1 = is.1 ∙ ap (λ (x : ℕ). x ∷ drop 1 (disk.files 1)) same ∙ sym (split_gate (disk.files 1) gate) in
              intent_same image.files disk.files (record { journal = journal; files = same_data }) ∙ none
          | inr ne ↦ intent_closed image.files (λ open_there. ne (ap (λ (l : List ℕ). get_or l 0 0) (sym (ap (take 1) is.1) ∙ open_there)))
        ]

    pub back_unread : (image : Image) → Reached (InFile 1 (Torn 0 1)) disk image → Back disk image
    back_unread image from =
        let is = unread_kept from.0 from.1 in
        let same_data : data_files image.files ≡ data_files disk.files = data_same image.files from.0.files from.2.others ∙ is.files in
        record {
          said = from.2.said ∙ disk.stays from.0 from.1;
          files = recovered_by [] image.files (still_none image same_data (subst (λ (l : List ℕ). Torn 0 1 l (image.files 1)) is.journal from.2.changed)) ∙ same_data ∙ unread_files;
        }

    module _ (holds : HoldsBytes 1 (written (disk.files 1) 0 (67 ∷ [])) disk.files new.files) (kept : JournalKept new) where
      pub unread_calm : IsCalm new
      unread_calm = record {
        closed = closed_by (disk.files 1) (new.files 1) holds.holds;
        kept = λ image left.
            let from = call.now image left in
            record {
              journal = kept image left;
              files = data_same image.files from.0.files from.2.others ∙ (unread_kept from.0 from.1).files ∙ sym (data_same new.files disk.files holds.others);
            };
      }

      pub unread_after : data_files new.files ≡ recovered disk.files
      unread_after = data_same new.files disk.files holds.others ∙ unread_files
