-- The four files of each place, one base after the other.
use Rattle.std.proofs.Common.{◌≡◌, ℕ, zero, suc, ◌+◌, ◌<◌, List, [], ◌∷◌, ◌++◌, length, map, get_or, refl, ap, ◌∙◌, arith}
use Rattle.std.specs.Prelude.{All}
use Rattle.std.specs.List.{AllZip}
use Rattle.std.proofs.lemmas.List.Elements.{All-drop}
use Rattle.board_ledger.specs.declared.ledger.Ledger.{Ledger}
use Rattle.board_ledger.specs.intent_journal.Patches.{HostFiles}
use Rattle.jam_base.specs.Change.{files_of_place}
use Rattle.jam_base.specs.Contents.{Contents}
use Rattle.jam_base.specs.jam_layout.Valid.{IsConference}
use Rattle.jam_base.specs.jam_layout.declared.conference.ConferenceContents.{ConferenceContents}
use Rattle.jam_base.specs.jam_layout.declared.files.BaseFiles.{BaseFiles}
use Rattle.jam_base.specs.jam_layout.declared.shape.Shape.{Shape}
use Rattle.board_ledger.specs.setup_file.declared.conference.Conference.{Conference as SetupConference}
use Rattle.board_layout.specs.Board.{shapes_from, shapes_in, conferences_in}
use Rattle.board_layout.specs.Layout.{no_base, layouts, files_in, AreAt}

pub same_place : (j k : ℕ) (files : HostFiles) → j ≡ k → files_of_place j files ≡ files_of_place k files
same_place j k files e = ap (λ n. files_of_place n files) e

pub at_place : (place k : ℕ) (bases : List BaseFiles) (files : HostFiles) → AreAt place bases files → k < length bases → files_of_place (place + k) files ≡ get_or bases k no_base
at_place place k [] files there within = absurd (omega arith)
at_place place zero (b ∷ bases) files there within = same_place (place + zero) place files (omega arith) ∙ there.0
at_place place (suc k) (b ∷ bases) files there within = same_place (place + suc k) (place + 1 + k) files (omega arith) ∙ at_place (place + 1) k bases files there.1 (omega arith)

pub all_at : (place : ℕ) (bases : List BaseFiles) (files : HostFiles) → ((k : ℕ) → k < length bases → files_of_place (place + k) files ≡ get_or bases k no_base) → AreAt place bases files
all_at place [] files each = tt
all_at place (b ∷ bases) files each = (
  same_place place (place + 0) files (omega arith) ∙ each 0 (omega arith),
  all_at (place + 1) bases files (λ k within. same_place (place + 1 + k) (place + suc k) files (omega arith) ∙ each (suc k) (omega arith)),
)

pub one_more_at : (place : ℕ) (bases : List BaseFiles) (b : BaseFiles) (files : HostFiles) → AreAt place bases files → files_of_place (place + length bases) files ≡ b → AreAt place (bases ++ b ∷ []) files
one_more_at place [] b files there e = (same_place place (place + 0) files (omega arith) ∙ e, tt)
one_more_at place (x ∷ bases) b files there e = (there.0, one_more_at (place + 1) bases b files there.1 (same_place (place + 1 + length bases) (place + suc (length bases)) files (omega arith) ∙ e))

-- ---- how many there are
pub shapes_count : (l : Ledger) (place : ℕ) (conferences : List SetupConference) → length (shapes_from l place conferences) ≡ length conferences
shapes_count l place [] = refl
shapes_count l place (c ∷ conferences) = ap suc (shapes_count l (place + 1) conferences)

pub layouts_count : (shapes : List Shape) (conferences : List ConferenceContents) → AllZip IsConference shapes conferences → length (layouts shapes conferences) ≡ length shapes
layouts_count [] [] zip = refl
layouts_count [] (c ∷ conferences) zip = refl
layouts_count (s ∷ shapes) [] zip = absurd zip
layouts_count (s ∷ shapes) (c ∷ conferences) zip = ap suc (layouts_count shapes conferences zip.1)

-- ---- bases
pub layouts_in : (bases : List Contents) → layouts (shapes_in bases) (conferences_in bases) ≡ map files_in bases
layouts_in [] = refl
layouts_in (b ∷ bases) = ap (λ (xs : List BaseFiles). files_in b ∷ xs) (layouts_in bases)

-- its conference is one of its shape
abbrev pub IsBase : Contents → Type 0
IsBase base = IsConference base.shape base.conference

pub zipped : (bases : List Contents) → All IsBase bases → AllZip IsConference (shapes_in bases) (conferences_in bases)
zipped [] all = tt
zipped (b ∷ bases) all = (all 0 b (omega arith), zipped bases (All-drop IsBase 1 (b ∷ bases) all))
