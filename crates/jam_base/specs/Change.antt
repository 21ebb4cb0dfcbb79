-- A change of the four files of a conference, as patches.
use Rattle.std.specs.Prelude.{◌≡◌, ◌⊎◌, ℕ, ◌+◌, ◌*◌, ◌≤◌, ◌<◌, List, [], ◌∷◌, length, All, IsTrue}
use Rattle.intent_journal.specs.Patches.{HostFiles, file_of, patch_offset, bytes_of, patched, are_within, is_once}
use Rattle.intent_journal.specs.Journal.{patches_text}
use Rattle.intent_journal.specs.declared.patch.Patch.{Patch}
use Rattle.intent_journal.specs.declared.patch.Patch.TheVariants.{Whole}
use Rattle.intent_journal.specs.door_outside.File.{jhr_file, jdt_file, jdx_file, jlr_file}
use Rattle.jam_writing.specs.jam_layout.Layout.{files_size}
use Rattle.jam_writing.specs.jam_layout.declared.files.BaseFiles.{BaseFiles}

-- the four files of a place
abbrev pub files_of_place : ℕ → HostFiles → BaseFiles
files_of_place place files = record {
  jhr = files (jhr_file place);
  jdt = files (jdt_file place);
  jdx = files (jdx_file place);
  jlr = files (jlr_file place);
}

abbrev pub IsOfPlace : ℕ → ℕ → Type 0
IsOfPlace place file = (jhr_file place ≤ file) × (file ≤ jlr_file place)

abbrev pub IsElsewhere : ℕ → ℕ → Type 0
IsElsewhere place file = (file < jhr_file place) ⊎ (jlr_file place < file)

-- The patches make the new four files of the old ones, and leave every other file. Each begins at most at its file's
-- end.
pub record Turns (place : ℕ) (old new : BaseFiles) (patches : List Patch) : Type 0 where
  pub starts : (files : HostFiles) → files_of_place place files ≡ old → IsTrue (are_within patches files)
  pub base : (files : HostFiles) → files_of_place place files ≡ old → files_of_place place (patched patches files) ≡ new
  pub others : (files : HostFiles) (file : ℕ) → IsElsewhere place file → patched patches files file ≡ files file

-- What an intent asks of patches. Each is of one of the four files, and no two clash. None ends behind as many bytes as
-- the new files have. But for 11 bytes for each file, they are spelled in no more than these bytes and a fifth of them.
pub record SuitsIntent (place : ℕ) (new : BaseFiles) (patches : List Patch) : Type 0 where
  pub within : All (λ patch. IsOfPlace place (file_of patch)) patches
  pub once : IsTrue (is_once patches)
  pub ends : All (λ patch. patch_offset patch + length (bytes_of patch) ≤ files_size new) patches
  pub short : 5 * length (patches_text patches) ≤ 5 * (4 * 11) + 6 * files_size new

-- all four files of a place, whole
abbrev pub whole_files : ℕ → BaseFiles → List Patch
whole_files place files =
    Whole (jhr_file place) files.jhr ∷ Whole (jdt_file place) files.jdt ∷ Whole (jdx_file place) files.jdx ∷ Whole (jlr_file place) files.jlr ∷ []

-- .JHR, .JDT and .JDX of a place, whole
abbrev pub message_files : ℕ → BaseFiles → List Patch
message_files place files = Whole (jhr_file place) files.jhr ∷ Whole (jdt_file place) files.jdt ∷ Whole (jdx_file place) files.jdx ∷ []
