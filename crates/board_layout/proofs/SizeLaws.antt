-- How many bytes the data files have.
use Rattle.std.proofs.Common.{◌≡◌, ◌↔◌, ℕ, zero, suc, ◌+◌, ◌≤◌, ◌<◌, List, [], ◌∷◌, length, map, take, get_or, refl, sym, ap, ◌∙◌, arith, below_more}
use Rattle.std.specs.Prelude.{sum_by}
use Rattle.std.proofs.lemmas.List.{nil_from_length, take_all}
use Rattle.std.proofs.lemmas.List.Sums.{sum_by-cons}
use Rattle.board_ledger.specs.Ledger.{ledger_text, text_in}
use Rattle.board_ledger.specs.declared.ledger.Ledger.{Ledger}
use Rattle.door_outside.specs.File.{ledger_file}
use Rattle.board_ledger.specs.intent_journal.Patches.{HostFiles}
use Rattle.jam_base.specs.Change.{files_of_place}
use Rattle.jam_base.specs.Contents.{Contents}
use Rattle.jam_base.specs.jam_layout.Layout.{files_size}
use Rattle.jam_base.specs.jam_layout.declared.files.BaseFiles.{BaseFiles}
use Rattle.jam_base.specs.jam_layout.declared.shape.Shape.{Shape}
use Rattle.board_ledger.specs.open_offers.declared.version.Version.TheVariants.{First}
use Rattle.board_layout.specs.Board.{Board, board_with, conferences_in, shapes_in, shapes_of}
use Rattle.board_layout.specs.Layout.{no_base, layouts, base_files, HasPlaces, IsLayout, AreEmpty, places_size, data_size, board_size, files_in, base_size}
use Rattle.board_layout.specs.OldLayout.{old_size}
use Rattle.board_layout.proofs.BasePlaces.{layouts_in}

-- ---- places
sum_more : (n : ℕ) (bases : List BaseFiles) → sum_by files_size (take (suc n) bases) ≡ sum_by files_size (take n bases) + files_size (get_or bases n no_base)
sum_more zero [] = refl
sum_more (suc n) [] = refl
sum_more zero (b ∷ bases) = omega arith
sum_more (suc n) (b ∷ bases) = omega (arith, sum_by-cons files_size b (take (suc n) bases), sum_by-cons files_size b (take n bases), sum_more n bases)

first_places : (n : ℕ) (bases : List BaseFiles) (files : HostFiles) → ((place : ℕ) → place < n → files_of_place place files ≡ get_or bases place no_base) → places_size n files ≡ sum_by files_size (take n bases)
unfolding places_size
first_places zero bases files at = refl
first_places (suc n) bases files at =
    let before = first_places n bases files (λ place within. at place (omega arith)) in
    let last : files_size (files_of_place n files) ≡ files_size (get_or bases n no_base) = ap files_size (at n (omega arith)) in
    omega (arith, before, last, sum_more n bases)

-- a loop over the places: what was added up, and one place more
pub size_none : (files : HostFiles) (size : ℕ) → size ≡ length (files ledger_file) → size ≡ length (files ledger_file) + places_size 0 files
unfolding places_size
size_none files size e = omega arith

places_more : (n k : ℕ) (files : HostFiles) → k ≡ suc n → places_size k files ≡ places_size n files + files_size (files_of_place n files)
unfolding places_size
places_more n k files e = ap (λ j. places_size j files) e

pub size_more : (n size more : ℕ) (old now : HostFiles) → now ≡ old → size ≡ length (old ledger_file) + places_size n old → more ≡ files_size (files_of_place n now)
    → size + more ≡ length (old ledger_file) + places_size (n + 1) old
size_more n size more old now same so_far here =
    let this : more ≡ files_size (files_of_place n old) = here ∙ ap (λ (files : HostFiles). files_size (files_of_place n files)) same in
    omega (arith, so_far, this, places_more n (n + 1) old (omega arith))

pub place_within : (n : ℕ) (files : HostFiles) (place : ℕ) → place < n → files_size (files_of_place place files) ≤ places_size n files
unfolding places_size
place_within zero files place within = absurd (omega arith)
place_within (suc n) files place within =
    below_more (λ k. files_size (files_of_place k files) ≤ places_size n files + files_size (files_of_place n files)) n (λ k under. let h = place_within n files k under in omega arith) (omega arith) place (omega arith)

-- ---- the board's size
places_of_board : (b : Board) (files : HostFiles) → length (base_files b) ≤ 64 → HasPlaces b files → places_size 64 files ≡ sum_by files_size (base_files b)
places_of_board b files few places = first_places 64 (base_files b) files places ∙ ap (sum_by files_size) (take_all 64 (base_files b) few)

pub same_size : (b : Board) (files : HostFiles) → length (base_files b) ≤ 64 → IsLayout b files → data_size files ≡ board_size b
same_size b files few laid =
    let places = places_of_board b files few laid.places in
    let text : length (files ledger_file) ≡ length (ledger_text b.ledger) = ap length laid.ledger in
    omega (arith, places, text)

-- and in version 1
pub old_same_size : (b : Board) (files : HostFiles) → length (base_files b) ≤ 64 → files ledger_file ≡ text_in First b.ledger → HasPlaces b files → data_size files ≡ old_size b
old_same_size b files few text there =
    let places = places_of_board b files few there in
    let length_is : length (files ledger_file) ≡ length (text_in First b.ledger) = ap length text in
    omega (arith, places, length_is)

pub sizes_in : (bases : List Contents) → sum_by files_size (map files_in bases) ≡ sum_by base_size bases
sizes_in [] = refl
sizes_in (b ∷ bases) = omega (arith, sum_by-cons files_size (files_in b) (map files_in bases), sum_by-cons base_size b bases, sizes_in bases)

pub size_in : (l : Ledger) (bases : List Contents) → shapes_in bases ≡ shapes_of l → board_size (board_with l bases) ≡ length (ledger_text l) + sum_by base_size bases
size_in l bases shapes =
    ap (λ (s : List Shape). length (ledger_text l) + sum_by files_size (layouts s (conferences_in bases))) (sym shapes)
    ∙ (ap (λ (files : List BaseFiles). length (ledger_text l) + sum_by files_size files) (layouts_in bases)
    ∙ ap (λ (n : ℕ). length (ledger_text l) + n) (sizes_in bases))

-- ---- no bytes
no_files : (files : BaseFiles) → files_size files ≡ 0 → files ≡ no_base
no_files files e =
    let jhr = nil_from_length files.jhr (omega arith) in
    let jdt = nil_from_length files.jdt (omega arith) in
    let jdx = nil_from_length files.jdx (omega arith) in
    let jlr = nil_from_length files.jlr (omega arith) in
    λ i. record { jhr = jhr i; jdt = jdt i; jdx = jdx i; jlr = jlr i }

no_places : (n : ℕ) (files : HostFiles) → places_size n files ≡ 0 → (place : ℕ) → place < n → files_of_place place files ≡ no_base
unfolding places_size
no_places zero files e place within = absurd (omega arith)
no_places (suc n) files e place within =
    let sum : places_size n files + files_size (files_of_place n files) ≡ 0 = e in
    below_more (λ k. files_of_place k files ≡ no_base) n (no_places n files (omega arith)) (no_files (files_of_place n files) (omega arith)) place (omega arith)

no_size : (n : ℕ) (files : HostFiles) → ((place : ℕ) → place < n → files_of_place place files ≡ no_base) → places_size n files ≡ 0
unfolding places_size
no_size zero files none = refl
no_size (suc n) files none =
    let before = no_size n files (λ place within. none place (omega arith)) in
    let last : files_size (files_of_place n files) ≡ 0 = ap files_size (none n (omega arith)) in
    omega (arith, before, last)

pub empty : (files : HostFiles) → (data_size files ≡ 0) ↔ AreEmpty files
empty files = (
  λ e. record { ledger = nil_from_length (files ledger_file) (omega arith); places = no_places 64 files (omega arith) },
  λ none. let places = no_size 64 files none.places in let text : length (files ledger_file) ≡ 0 = ap length none.ledger in omega (arith, places, text),
)
