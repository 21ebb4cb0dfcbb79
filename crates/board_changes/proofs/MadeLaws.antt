-- A new board is valid, and its files fit the journal.
use Rattle.std.proofs.Common.{◌≡◌, ℕ, ◌+◌, ◌*◌, ◌<◌, ◌≤◌, List, [], ◌∷◌, ◌++◌, length, replicate, refl, sym, subst, arith}
use Rattle.std.specs.Prelude.{All, IsTrue, sum_by, slice_get, Some}
use Rattle.std.specs.List.{AllZip}
use Rattle.std.proofs.Math.ListN.{length-replicate}
use Rattle.std.proofs.lemmas.List.{get_or-replicate}
use Rattle.std.proofs.lemmas.List.Sums.{sum_by-cons}
use Rattle.std.proofs.lemmas.List.Elements.{All-nil}
use Rattle.std.proofs.lemmas.Option.{slice_get_within}
use Rattle.board_changes.specs.Changed.{new_ledger, empty_conferences, made}
use Rattle.board_changes.specs.Gathered.{at_place, Gathered, FitJournal, Joins}
use Rattle.board_changes.proofs.GatherLaws.{gathered_more, joins_more}
use Rattle.board_changes.proofs.LedgerBounds.{setup_at_most, conferences_at_most}
use Rattle.board_changes.proofs.PlaceLaws.{empty_in, layout_in}
use Rattle.board_layout.proofs.BasePlaces.{shapes_count, layouts_count}
use Rattle.board_layout.specs.Board.{shape_of, shapes_from, shapes_of}
use Rattle.board_layout.specs.Layout.{AreEmpty, layouts}
use Rattle.board_layout.specs.Valid.{IsBoard, offers_fit}
use Rattle.board_ledger.specs.Ledger.{ledger_text}
use Rattle.board_ledger.specs.Uploads.{IsUpload}
use Rattle.board_ledger.specs.Users.{IsUser}
use Rattle.board_ledger.specs.Valid.{IsLedger}
use Rattle.board_ledger.specs.declared.ledger.Ledger.{Ledger}
use Rattle.board_ledger.specs.declared.upload.UploadRecord.{UploadRecord}
use Rattle.board_ledger.specs.declared.user.User.{User}
use Rattle.board_ledger.specs.open_offers.declared.version.Version.TheVariants.{Second}
use Rattle.board_ledger.proofs.SizeLaws.{ledger_length}
use Rattle.intent_journal.specs.declared.patch.Patch.{Patch}
use Rattle.board_layout.specs.jam_base.Change.{Turns, SuitsIntent}
use Rattle.board_layout.specs.jam_base.Contents.{no_slots}
use Rattle.board_layout.specs.jam_layout.Layout.{layout, files_size}
use Rattle.board_layout.specs.jam_layout.Messages.{IsSlot}
use Rattle.board_layout.specs.jam_layout.Valid.{IsConference}
use Rattle.board_layout.specs.jam_layout.declared.files.BaseFiles.{BaseFiles}
use Rattle.board_layout.specs.jam_layout.declared.shape.Shape.{Shape}
use Rattle.board_layout.proofs.jam_layout.SlotSizes.{size_is}
use Rattle.jam_records.specs.declared.message.Kind.{Kind}
use Rattle.jam_records.specs.record_numbers.Numbers.{IsU32}
use Rattle.board_ledger.specs.setup_file.Valid.{IsSetup}
use Rattle.board_ledger.specs.setup_file.declared.conference.Conference.{Conference as SetupConference}
use Rattle.board_ledger.specs.setup_file.declared.fields.SetupFields.{SetupFields}

-- ---- the ledger
pub new_is_ledger : (setup : SetupFields) (created : ℕ) → IsSetup setup → IsU32 created → IsLedger (new_ledger setup created)
new_is_ledger setup created ok small = record {
  version = refl;
  setup = ok;
  created = small;
  few_users = omega arith;
  users = All-nil (IsUser (length setup.conferences));
  names = tt;
  few_uploads = omega arith;
  uploads = All-nil (IsUpload 0);
  pairs = tt;
}

ledger_small : (setup : SetupFields) (created : ℕ) → IsSetup setup → length (ledger_text (new_ledger setup created)) ≤ 2000
ledger_small setup created ok = omega (
  arith,
  ledger_length Second (new_ledger setup created) (All-nil (λ (r : UploadRecord). length r.digest ≡ 32)),
  setup_at_most setup ok,
  conferences_at_most setup.conferences ok.conferences.each,
  ok.conferences.many,
)

-- ---- the conferences
zeros_within : (n : ℕ) → All (λ p. p ≤ 0) (replicate n 0)
zeros_within n = λ k d within. omega (arith, get_or-replicate n k 0 d (omega (arith, within, length-replicate {A = ℕ} n 0)))

pub new_is_conference : (shape : Shape) → IsConference shape (no_slots shape)
new_is_conference shape = record {
  counter = omega arith;
  few = omega arith;
  slots = All-nil (IsSlot shape.kind);
  pointers = record { all = length-replicate {A = ℕ} (length shape.readers) 0; within = zeros_within (length shape.readers) };
}

pub are_conferences : (shapes : List Shape) → AllZip IsConference shapes (empty_conferences shapes)
are_conferences [] = tt
are_conferences (shape ∷ shapes) = (new_is_conference shape, are_conferences shapes)

-- no one reads them yet
base_small : (setup : SetupFields) (created place : ℕ) (kind : Kind) → files_size (layout (shape_of (new_ledger setup created) place kind) (no_slots (shape_of (new_ledger setup created) place kind))) ≡ 1024
base_small setup created place kind =
    let shape : Shape = shape_of (new_ledger setup created) place kind in
    omega (arith, size_is shape (no_slots shape) (new_is_conference shape))

files_small : (setup : SetupFields) (created place : ℕ) (conferences : List SetupConference) → let shapes = shapes_from (new_ledger setup created) place conferences in sum_by files_size (layouts shapes (empty_conferences shapes)) ≡ 1024 * length conferences
files_small setup created place [] = refl
files_small setup created place (c ∷ conferences) =
    let shapes : List Shape = shapes_from (new_ledger setup created) (place + 1) conferences in
    let shape : Shape = shape_of (new_ledger setup created) place c.kind in
    omega (
      arith,
      sum_by-cons files_size (layout shape (no_slots shape)) (layouts shapes (empty_conferences shapes)),
      base_small setup created place c.kind,
      files_small setup created (place + 1) conferences,
    )

-- ---- one place
-- The patches of a new base in the next place.
module _ (l : Ledger) (place : ℕ) (kind : Kind) (shape : Shape) (done patches : List Patch) (shape_is : shape ≡ shape_of l place kind) (here : slice_get (shapes_of l) place ≡ Some (shape_of l place kind)) (within : place < 64)
    (gathered : Gathered AreEmpty (ledger_text l) [] (layouts (shapes_of l) (empty_conferences (shapes_of l))) place done)
    (turns : (old : BaseFiles) → Turns shape.place old (layout shape (no_slots shape)) patches) (suits : SuitsIntent shape.place (layout shape (no_slots shape)) patches) where
  bases : List BaseFiles
  bases = layouts (shapes_of l) (empty_conferences (shapes_of l))

  files_are : layout (shape_of l place kind) (no_slots (shape_of l place kind)) ≡ at_place bases place
  unfolding bases
  files_are = sym (layout_in (shapes_of l) (empty_conferences (shapes_of l)) place (shape_of l place kind) (no_slots (shape_of l place kind)) here (empty_in (shapes_of l) place (shape_of l place kind) here))

  counted : place < length bases
  unfolding bases
  counted = omega (arith, slice_get_within (shapes_of l) place (shape_of l place kind) here, layouts_count (shapes_of l) (empty_conferences (shapes_of l)) (are_conferences (shapes_of l)))

  turns_here : Turns place (at_place [] place) (at_place bases place) patches
  turns_here = subst (λ (f : BaseFiles). Turns place (at_place [] place) f patches) files_are (subst (λ (s : Shape). (old : BaseFiles) → Turns s.place old (layout s (no_slots s)) patches) shape_is turns (at_place [] place))

  suits_here : SuitsIntent place (at_place bases place) patches
  suits_here = subst (λ (f : BaseFiles). SuitsIntent place f patches) files_are (subst (λ (s : Shape). SuitsIntent s.place (layout s (no_slots s)) patches) shape_is suits)

  pub fresh_joins : FitJournal (ledger_text l) (layouts (shapes_of l) (empty_conferences (shapes_of l))) → Joins done patches
  unfolding bases
  fresh_joins fit = joins_more AreEmpty (ledger_text l) [] bases place done patches gathered within counted turns_here suits_here fit

  pub fresh_gathers : Gathered AreEmpty (ledger_text l) [] (layouts (shapes_of l) (empty_conferences (shapes_of l))) (place + 1) (done ++ patches)
  unfolding bases
  fresh_gathers = gathered_more AreEmpty (ledger_text l) [] bases place done patches gathered within counted turns_here suits_here

-- ---- the board
pub new_is_board : (setup : SetupFields) (created : ℕ) → IsSetup setup → IsU32 created → IsBoard (made setup created)
new_is_board setup created ok small =
    let l : Ledger = new_ledger setup created in
    record {
      ledger = new_is_ledger setup created ok small;
      conferences = are_conferences (shapes_of l);
      highs = All-nil (λ (u : User). IsTrue (offers_fit (empty_conferences (shapes_of l)) u.offers));
      small = omega (arith, ledger_small setup created ok, files_small setup created 0 setup.conferences, ok.conferences.many);
    }

pub new_fits : (setup : SetupFields) (created : ℕ) → IsSetup setup → FitJournal (ledger_text (new_ledger setup created)) (layouts (shapes_of (new_ledger setup created)) (empty_conferences (shapes_of (new_ledger setup created))))
new_fits setup created ok =
    let l : Ledger = new_ledger setup created in
    omega (
      arith,
      ledger_small setup created ok,
      files_small setup created 0 setup.conferences,
      ok.conferences.many,
      layouts_count (shapes_of l) (empty_conferences (shapes_of l)) (are_conferences (shapes_of l)),
      shapes_count l 0 setup.conferences,
    )
