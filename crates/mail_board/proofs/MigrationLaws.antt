-- What a load and its migration leave: two commits in one call, that of a recovery and then that of the ledger.
use Rattle.std.proofs.Common.{◌≡◌, ◌<◌, inl, inr, ⊎_elim, ℕ, Bool, true, false, eqb, List, [], ◌∷◌, refl, sym, ◌∙◌, ap, subst, arith}
use Rattle.std.proofs.lemmas.Bool.{cond-false, ne_eqb}
use Rattle.std.specs.Prelude.{IsFalse}
use Rattle.board_ledger.specs.Ledger.{ledger_text}
use Rattle.board_ledger.specs.declared.ledger.Ledger.{Ledger}
use Rattle.board_layout.proofs.OneOutline.{alike_ledger}
use Rattle.board_layout.specs.Board.{Board}
use Rattle.board_layout.specs.Layout.{IsLayout}
use Rattle.board_layout.specs.OldLayout.{IsOldLayout}
use Rattle.board_layout.specs.Rules.{IsLaidOutAs}
use Rattle.board_layout.specs.Valid.{IsBoard}
use Rattle.board_layout.specs.declared.read.FoundBoard.{FoundBoard}
use Rattle.door_outside.specs.Disk.{Disk, Image, AllNow, Between, as_read}
use Rattle.door_outside.specs.File.{ledger_file, jhr_file, jdt_file, jdx_file, jlr_file}
use Rattle.door_outside.proofs.Moments.{reads_have, weaker}
use Rattle.intent_journal.specs.Hosts.{IsCalm}
use Rattle.intent_journal.specs.Journal.{intent_of}
use Rattle.intent_journal.specs.Patches.{HostFiles, data_files, patched}
use Rattle.intent_journal.specs.Recovered.{recovered, Back, OldOrPatched}
use Rattle.intent_journal.specs.declared.patch.Patch.{Patch}
use Rattle.intent_journal.specs.declared.patch.Patch.TheVariants.{Whole}
use Rattle.intent_journal.proofs.Hosts.{calm_recovers}
use Rattle.board_layout.specs.jam_base.Change.{files_of_place}
use Rattle.mail_board.specs.Held.{RestsOn, StandsFor}
use Rattle.mail_board.specs.Loading.{AreOld, AreOpened, Opens, StandsFound, StandsOld}
use Rattle.mail_board.proofs.DataLaws.{data_twice, layout_moves, old_layout_moves}
use Rattle.mail_board.proofs.LoadLaws.{found_alike}

-- ---- the ledger of a board alone, in version 2
abbrev pub ledger_patches : Ledger → List Patch
ledger_patches l = Whole ledger_file (ledger_text l) ∷ []

module _ (b : Board) (files : HostFiles) where
  other_stays : (file : ℕ) → 0 < file → patched (ledger_patches b.ledger) files file ≡ files file
  other_stays file above = cond-false (eqb file ledger_file) (ledger_text b.ledger) (files file) (ne_eqb file ledger_file (λ e. omega (arith, e, above)))

  place_stays : (place : ℕ) → files_of_place place (patched (ledger_patches b.ledger) files) ≡ files_of_place place files
  place_stays place =
      let jhr = other_stays (jhr_file place) (omega arith) in
      let jdt = other_stays (jdt_file place) (omega arith) in
      let jdx = other_stays (jdx_file place) (omega arith) in
      let jlr = other_stays (jlr_file place) (omega arith) in
      λ i. record { jhr = jhr i; jdt = jdt i; jdx = jdx i; jlr = jlr i }

  pub migrated_layout : IsOldLayout b files → IsLayout b (patched (ledger_patches b.ledger) files)
  migrated_layout is = record {
    ledger = refl;
    places = λ place within. place_stays place ∙ is.places place within;
  }

-- ---- data files of what is recovered
recovered_twice : (files : HostFiles) → data_files (recovered files) ≡ recovered files
recovered_twice files = data_twice (patched (intent_of files) files)

-- ---- the commit of the ledger of a board that has the outline of the one that the files are of
module _ (held : Board) (old : Disk) (calm : IsCalm old) (stands : StandsOld held old.files) where
  abbrev b : Board
  b = stands.old.board

  old_stands : IsOldLayout b (recovered old.files)
  old_stands = old_layout_moves b old.files (recovered old.files) (sym (calm_recovers old calm) ∙ sym (recovered_twice old.files)) stands.old.layout

  each : (image : Image) → OldOrPatched (ledger_patches b.ledger) old image → Opens old image
  each image it = record {
    said = it.said;
    files = ⊎_elim
        (λ still. inl (still ∙ sym (calm_recovers old calm)))
        (λ then. inr (record {
          board = b;
          valid = stands.old.valid;
          before = old_stands;
          after = layout_moves b (patched (ledger_patches b.ledger) old.files) (recovered image.files) (sym then ∙ sym (recovered_twice image.files)) (migrated_layout b old.files stands.old.layout);
        }))
        it.files;
  }

  module _ (patches : List Patch) (are : patches ≡ ledger_patches held.ledger) (new : Disk) where
    own : patches ≡ ledger_patches b.ledger
    own = are ∙ ap ledger_patches (sym (alike_ledger b held stands.alike))

    pub migrates_moments : Between old new (OldOrPatched patches old) → Between old new (Opens old)
    migrates_moments moments = weaker (subst (λ (p : List Patch). Between old new (OldOrPatched p old)) own moments) each

    pub migrates_now : AllNow new (OldOrPatched patches old) → AllNow new (Opens old)
    migrates_now now image left = each image (subst (λ (p : List Patch). OldOrPatched p old image) own (now image left))

    pub migrates_rests : IsCalm new → data_files new.files ≡ data_files (patched patches old.files) → RestsOn held new
    migrates_rests still done = record {
      calm = still;
      stands = record {
        board = b;
        valid = stands.old.valid;
        alike = stands.alike;
        layout = layout_moves b (patched (ledger_patches b.ledger) old.files) new.files (sym (done ∙ ap (λ (p : List Patch). data_files (patched p old.files)) own)) (migrated_layout b old.files stands.old.layout);
      };
    }

-- ---- what was found, in either version
module _ (found : FoundBoard) (files : HostFiles) (stands : StandsFound found files) where
  pub found_first : found.is_old ≡ true → StandsOld found.board files
  found_first old = record {
    old = record { board = stands.whole; valid = stands.holds.valid; layout = subst (λ (is_old : Bool). IsLaidOutAs is_old stands.whole files) old stands.holds.stored };
    alike = found_alike files found stands.whole stands.holds;
  }

  pub found_second : found.is_old ≡ false → StandsFor found.board files
  found_second new = record {
    board = stands.whole;
    valid = stands.holds.valid;
    alike = found_alike files found stands.whole stands.holds;
    layout = subst (λ (is_old : Bool). IsLaidOutAs is_old stands.whole files) new stands.holds.stored;
  }

-- ---- behind a recovery
module _ (old mid : Disk) (same : Back old (as_read mid)) where
  behind : (image : Image) → Opens mid image → Opens old image
  behind image it = record {
    said = it.said ∙ same.said;
    files = subst (λ (files : HostFiles). AreOpened files (recovered image.files)) same.files it.files;
  }

  pub opens_same : (new : Disk) → AllNow new (Opens mid) → Opens old (as_read new)
  opens_same new now = behind (as_read new) (reads_have new (Opens mid) now)

-- the data files that a calm host holds then
pub opens_done : (old new : Disk) → IsCalm new → Opens old (as_read new) → AreOpened (recovered old.files) (data_files new.files)
opens_done old new calm same = subst (AreOpened (recovered old.files)) (calm_recovers new calm) same.files

-- ---- files of version 2, or of no board, stay what they are

-- a board that was found in version 1 stands in the recovered files
pub found_old : (b : Board) (old mid : Disk) → IsBoard b → data_files mid.files ≡ recovered old.files → IsOldLayout b mid.files → AreOld (recovered old.files)
found_old b old mid valid done stands = record {
  board = b;
  valid = valid;
  layout = old_layout_moves b mid.files (recovered old.files) (done ∙ sym (recovered_twice old.files)) stands;
}

-- where nothing was migrated, nothing was written behind the recovery
wrote_nothing : (is_old : Bool) (b : Board) (old mid : Disk) (wrote : ℕ) → IsBoard b → data_files mid.files ≡ recovered old.files → IsLaidOutAs is_old b mid.files → ¬ AreOld (recovered old.files)
    → (IsFalse is_old → wrote ≡ mid.wrote) → wrote ≡ mid.wrote
wrote_nothing true b old mid wrote valid done stands other same = absurd (other (found_old b old mid valid done stands))
wrote_nothing false b old mid wrote valid done stands other same = same refl

pub writes_nothing : (found : FoundBoard) (old mid : Disk) (wrote : ℕ) → StandsFound found mid.files → data_files mid.files ≡ recovered old.files → ¬ AreOld (recovered old.files)
    → (IsFalse found.is_old → wrote ≡ mid.wrote) → wrote ≡ mid.wrote
writes_nothing found old mid wrote stands done other same =
    wrote_nothing found.is_old stands.whole old mid wrote stands.holds.valid done stands.holds.stored other same
