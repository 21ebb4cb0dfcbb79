-- The change of a base, for another base with its outline.
use Rattle.std.proofs.Common.{◌≡◌, ℕ, ◌+◌, ◌*◌, ◌≤◌, List, length, sym, ap, ◌∙◌, subst}
use Rattle.std.specs.Prelude.{All}
use Rattle.board_changes.specs.Outlined.{ChangesEach}
use Rattle.board_layout.proofs.OneOutline.{alike_base_size}
use Rattle.board_layout.specs.Layout.{files_in}
use Rattle.intent_journal.specs.Journal.{patches_text}
use Rattle.intent_journal.specs.Patches.{bytes_of, patch_offset}
use Rattle.intent_journal.specs.declared.patch.Patch.{Patch}
use Rattle.board_layout.specs.jam_base.Change.{SuitsIntent, Turns}
use Rattle.board_layout.specs.jam_base.Contents.{Contents}
use Rattle.board_layout.specs.jam_base.Outlined.{outlined, TurnsEach}
use Rattle.board_layout.specs.jam_layout.Layout.{files_size}
use Rattle.board_layout.specs.jam_layout.declared.files.BaseFiles.{BaseFiles}

-- an intent asks the same of patches for files of the same size
pub suits_alike : (place : ℕ) (a b : BaseFiles) (patches : List Patch) → files_size a ≡ files_size b → SuitsIntent place a patches → SuitsIntent place b patches
suits_alike place a b patches size suits = record {
  within = suits.within;
  once = suits.once;
  ends = subst (λ (n : ℕ). All (λ patch. patch_offset patch + length (bytes_of patch) ≤ n) patches) size suits.ends;
  short = subst (λ (n : ℕ). 5 * length (patches_text patches) ≤ 5 * (4 * 11) + 6 * n) size suits.short;
}

module _ (old : Contents) (change : Contents → Contents) (patches : List Patch) (each : ChangesEach old change patches) (base : Contents) (alike : outlined base ≡ outlined old) where
  place_is : old.shape.place ≡ base.shape.place
  place_is = ap (λ (c : Contents). c.shape.place) (sym alike)

  pub each_shape : (change old).shape ≡ old.shape → (change base).shape ≡ base.shape
  each_shape stays = ap (λ (c : Contents). c.shape) (each.outline base alike) ∙ (stays ∙ ap (λ (c : Contents). c.shape) (sym alike))

  pub each_turns : Turns base.shape.place (files_in base) (files_in (change base)) patches
  each_turns = subst (λ (k : ℕ). Turns k (files_in base) (files_in (change base)) patches) place_is (each.files.turns base alike)

  pub each_suits : SuitsIntent old.shape.place (files_in (change old)) patches → SuitsIntent base.shape.place (files_in (change base)) patches
  each_suits suits =
      subst (λ (k : ℕ). SuitsIntent k (files_in (change base)) patches) place_is
      (suits_alike old.shape.place (files_in (change old)) (files_in (change base)) patches (alike_base_size (change old) (change base) (sym (each.outline base alike))) suits)

-- a change that is another one for each base with the outline
pub turns_as : (old : Contents) (change other : Contents → Contents) (patches : List Patch) → ((base : Contents) → outlined base ≡ outlined old → change base ≡ other base) → TurnsEach old change patches → TurnsEach old other patches
turns_as old change other patches same each = record {
  turns = λ base alike. subst (λ (c : Contents). Turns old.shape.place (files_in base) (files_in c) patches) (same base alike) (each.turns base alike);
}
