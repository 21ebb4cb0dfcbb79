-- Patches that change one file.
use Rattle.std.specs.Prelude.{◌≡◌, ◌≢◌, ℕ, List, IsTrue}
use Rattle.intent_journal.specs.Patches.{HostFiles, are_within, patched}
use Rattle.intent_journal.specs.declared.patch.Patch.{Patch}

-- the patches make the new text of one file of its old one, begin within it, and leave every other file
pub record TurnsFile (file : ℕ) (old new : List ℕ) (patches : List Patch) : Type 0 where
  pub starts : (files : HostFiles) → files file ≡ old → IsTrue (are_within patches files)
  pub makes : (files : HostFiles) → files file ≡ old → patched patches files file ≡ new
  pub others : (files : HostFiles) (other : ℕ) → other ≢ file → patched patches files other ≡ files other
