-- What was found of the board, by a load or before, stands for the state of the host's files.
use Rattle.std.proofs.Common.{◌≡◌, ◌≢◌, ◌⊎◌, inl, inr, Bool, true, false, cond, eqb, Option, Some, None, Result, Ok, Err, refl, sym, ◌∙◌, ap, subst}
use Rattle.std.specs.Prelude.{is_some, IsErrOf}
use Rattle.std.proofs.lemmas.Bool.{cond-true, eq-eqb}
use Rattle.damage_rules.specs.Rules.{damage_of}
use Rattle.door_outside.specs.Disk.{Disk, Image, Between, Unchanged, as_read}
use Rattle.door_outside.proofs.Moments.{still}
use Rattle.entry_runs.proofs.Boards.{opened_finds, opening_stops}
use Rattle.entry_runs.specs.Entry.{Finds, HasBoard, Recovers}
use Rattle.entry_runs.specs.declared.stop.Stop.{Stop}
use Rattle.entry_runs.specs.declared.stop.Stop.TheVariants as stop
use Rattle.intent_journal.proofs.Hosts.{calm_is_settled, calm_recovers}
use Rattle.intent_journal.specs.Hosts.{IsCalm, IsFirm, IsSettled}
use Rattle.intent_journal.specs.Journal.{intent_of}
use Rattle.intent_journal.specs.Patches.{HostFiles, data_files, patched}
use Rattle.intent_journal.specs.Recovered.{recovered}
use Rattle.jam_records.specs.declared.damage.Damage.{Damage}
use Rattle.board_layout.proofs.BoardLaws.{again}
use Rattle.board_layout.proofs.SizeLaws.{empty}
use Rattle.board_layout.specs.Board.{Board}
use Rattle.board_layout.specs.Damage.{board_of, board_in, board_damage, some_board}
use Rattle.board_layout.specs.Layout.{AreEmpty, data_size}
use Rattle.board_layout.specs.declared.error.ReadError.{ReadError}
use Rattle.board_layout.specs.declared.error.ReadError.TheVariants.{Damaged, DiskFault, OutOfMemory}
use Rattle.mail_board.proofs.DataLaws.{data_twice, empty_moves, layout_moves}
use Rattle.mail_board.specs.Loading.{AreOpened, IsTold, Opens, StandsIn}
use Rattle.mail_board.specs.declared.loading.Loaded.{Loaded}
use Rattle.mail_board.specs.declared.loading.Loaded.TheVariants.{NotMade, Ready}
use Rattle.cmd_board.specs.Kept.{AreLike, IsStateFound, IsKept, IsOutlined, found, kept_board}
use Rattle.cmd_board.specs.State.{AreSpoiled, State, Made, Old, Spoiled, Stores, migrated, state_of}
use Rattle.cmd_board.specs.State as state
use Rattle.cmd_board.proofs.StateLaws.{one_state}

-- ---- a board, or none
-- the board that the files are, of which the outline was loaded
real_of : (loaded : Loaded) (files : HostFiles) → StandsIn files loaded → Option Board
real_of NotMade files stands = None
real_of (Ready held) files stands = Some stands.board

real_stores : (loaded : Loaded) (files : HostFiles) (stands : StandsIn files loaded) → Stores (state_of (real_of loaded files stands)) files
unfolding real_of
real_stores NotMade files stands = stands
real_stores (Ready held) files stands = (stands.valid, stands.layout)

real_like : (loaded : Loaded) (files : HostFiles) (stands : StandsIn files loaded) → AreLike (real_of loaded files stands) (kept_board (Some loaded))
unfolding real_of
real_like NotMade files stands = tt
real_like (Ready held) files stands = (stands.valid, stands.alike)

stands_moves : (loaded : Loaded) (f g : HostFiles) → data_files f ≡ data_files g → StandsIn f loaded → StandsIn g loaded
stands_moves NotMade f g same stands = empty_moves f g same stands
stands_moves (Ready held) f g same stands = record { board = stands.board; valid = stands.valid; alike = stands.alike; layout = layout_moves stands.board f g same stands.layout }

-- it stands in the data files too
pub stands_in_data : (loaded : Loaded) (files : HostFiles) → StandsIn files loaded → StandsIn (data_files files) loaded
stands_in_data loaded files stands = stands_moves loaded files (data_files files) (sym (data_twice files)) stands

recovered_data : (files : HostFiles) → data_files (recovered files) ≡ recovered files
recovered_data files = data_twice (patched (intent_of files) files)

-- a board in files of today's version is migrated as it is
pub migrated_to : (board : Option Board) (s : State) → s ≡ state_of board → migrated s ≡ state_of board
migrated_to None s is = ap migrated is
migrated_to (Some b) s is = ap migrated is

-- what stands in files that a load left is the migrated state of those that it found
opened_is : (board : Option Board) (s : State) (files new : HostFiles) → Stores (state_of board) new → AreOpened files new → Stores s files → migrated s ≡ state_of board
opened_is board s files new here (inl same) stores = migrated_to board s (one_state files s (state_of board) stores (subst (Stores (state_of board)) same here))
opened_is board s files new here (inr it) stores =
    ap migrated (one_state files s (Old it.board) stores (it.valid, it.before)) ∙ one_state new (Made it.board) (state_of board) (it.valid, it.after) here

pub loaded_is : (loaded : Loaded) (old new : Disk) (s : State) → StandsIn new.files loaded → AreOpened (recovered old.files) (data_files new.files) → Stores s (recovered old.files) → IsOutlined (migrated s) (kept_board (Some loaded))
loaded_is loaded old new s stands opened stores =
    let there = stands_in_data loaded new.files stands in (
      real_of loaded (data_files new.files) there,
      opened_is (real_of loaded (data_files new.files) there) s (recovered old.files) (data_files new.files) (real_stores loaded (data_files new.files) there) opened stores,
      real_like loaded (data_files new.files) there,
    )

-- it is stored in the files that the load left
loaded_stores : (loaded : Loaded) (old new : Disk) (s : State) (stands : StandsIn new.files loaded) (opened : AreOpened (recovered old.files) (data_files new.files)) (stores : Stores s (recovered old.files)) → Stores (migrated s) (data_files new.files)
loaded_stores loaded old new s stands opened stores =
    let there = stands_in_data loaded new.files stands in
    let real : Option Board = real_of loaded (data_files new.files) there in
    let here = real_stores loaded (data_files new.files) there in
    subst (λ (m : State). Stores m (data_files new.files)) (sym (opened_is real s (recovered old.files) (data_files new.files) here opened stores)) here

-- what is kept
pub kept_calm : (loaded : Loaded) (disk : Disk) → IsKept (Some loaded) disk → IsCalm disk
kept_calm NotMade disk kept = kept.0
kept_calm (Ready held) disk kept = kept.calm

pub kept_stands : (loaded : Loaded) (disk : Disk) → IsKept (Some loaded) disk → StandsIn disk.files loaded
kept_stands NotMade disk kept = kept.1
kept_stands (Ready held) disk kept = kept.stands

pub kept_is : (loaded : Loaded) (disk : Disk) (s : State) → IsKept (Some loaded) disk → Stores s (recovered disk.files) → IsOutlined (migrated s) (kept_board (Some loaded))
kept_is loaded disk s kept stores = loaded_is loaded disk disk s (kept_stands loaded disk kept) (inl (sym (calm_recovers disk (kept_calm loaded disk kept)))) stores

pub kept_settled : (kept : Option Loaded) (disk : Disk) → IsKept kept disk → IsSettled disk
kept_settled None disk kept = kept
kept_settled (Some loaded) disk kept = calm_is_settled disk (kept_calm loaded disk kept)

-- ---- damage
damage_in : (none : Bool) (read : Result Board Damage) (d : Damage) → cond none (Ok None) (some_board read) ≡ Err d → damage_of read ≡ Some d
damage_in true read d e = let never : Ok None ≡ Err d = e in absurd (cc never)
damage_in false (Ok b) d e = let never : Ok (Some b) ≡ Err d = e in absurd (cc never)
damage_in false (Err c) d e = let same : c ≡ d = cc in ap Some same

no_board_in : (files : HostFiles) → AreEmpty files → board_in files ≡ Ok None
no_board_in files none = cond-true (eqb (data_size files) 0) (Ok None) (some_board (board_of files)) (eq-eqb (data_size files) 0 ((empty files).1 none))

damage_is : (files : HostFiles) (s : State) (d : Damage) → data_files files ≡ files → board_in files ≡ Err d → Stores s files → (held : HostFiles) × (s ≡ Spoiled held) × (board_damage held ≡ Some d)
damage_is files state.NotMade d same read stores = let never : Ok None ≡ Err d = sym (no_board_in files stores) ∙ read in absurd (cc never)
damage_is files (Made b) d same read stores =
    let some : damage_of (board_of files) ≡ Some d = damage_in (eqb (data_size files) 0) (board_of files) d read in
    let none : damage_of (board_of files) ≡ None = ap damage_of (again b files stores.0 (inl stores.1)) in
    let never : None ≡ Some d = sym none ∙ some in
    absurd (cc never)
damage_is files (Old b) d same read stores =
    let some : damage_of (board_of files) ≡ Some d = damage_in (eqb (data_size files) 0) (board_of files) d read in
    let none : damage_of (board_of files) ≡ None = ap damage_of (again b files stores.0 (inr stores.1)) in
    let never : None ≡ Some d = sym none ∙ some in
    absurd (cc never)
damage_is files (Spoiled held) d same read stores = (held, refl, ap board_damage (stores.0 ∙ same) ∙ damage_in (eqb (data_size files) 0) (board_of files) d read)

-- files that are no board's are left
spoiled_left : (held files new : HostFiles) → AreSpoiled files → AreOpened files new → new ≡ files
spoiled_left held files new spoiled (inl same) = same
spoiled_left held files new spoiled (inr it) = absurd (spoiled.other it.board it.valid (inr it.before))

spoiled_stores : (s : State) (held files new : HostFiles) → s ≡ Spoiled held → AreOpened files new → Stores s files → Stores (migrated s) new
spoiled_stores s held files new is opened stores =
    subst (λ (m : State). Stores m files → Stores (migrated m) new) (sym is)
    (λ spoiled. subst (Stores (Spoiled held)) (sym (spoiled_left held files new spoiled.1 opened)) spoiled) stores

-- ---- what was found
pub same_host : (disk : Disk) → Unchanged disk disk
same_host disk = record { files = refl; said = refl; clock = refl; wrote = refl; leaves = λ t image left. left; left = λ t image left. left }

has_board : {s : State} {disk : Disk} → IsSettled disk → Stores s (recovered disk.files) → HasBoard Stores s disk
has_board settled stores = record { settled = settled; stores = stores }

-- files as they were, or migrated, stand for the state, or for the migrated one
opened_either : (s : State) (files new : HostFiles) → Stores s files → AreOpened files new → Stores s new ⊎ Stores (migrated s) new
opened_either s files new stores (inl same) = inl (subst (Stores s) (sym same) stores)
opened_either s files new stores (inr it) =
    inr (subst (λ (m : State). Stores m new) (sym (ap migrated (one_state files s (Old it.board) stores (it.valid, it.before)))) (it.valid, it.after))

-- what a crash leaves recovers to such files
opens : (old : Disk) (s : State) → Stores s (recovered old.files) → (image : Image) → Opens old image → Recovers (λ files. Stores s files ⊎ Stores (migrated s) files) old.said image
opens old s stores image it = record { files = opened_either s (recovered old.files) (recovered image.files) stores it.files; said = it.said }

module _ {old new : Disk} {s : State} (before : IsSettled old) (moments : Between old new (Opens old)) (same : Opens old (as_read new)) (settled : IsSettled new) (stores : Stores s (recovered old.files)) where
  ends : IsCalm new → Stores (migrated s) (data_files new.files) → Finds Stores s (migrated s) old new (Ok (tt {0}))
  ends calm left = opened_finds Stores (has_board before stores) (Opens old) (opens old s stores) moments same calm left

  pub told_finds : (loaded : Loaded) → StandsIn new.files loaded → IsCalm new → AreOpened (recovered old.files) (data_files new.files) → Finds Stores s (migrated s) old new (Ok (tt {0}))
  told_finds loaded stands calm opened = ends calm (loaded_stores loaded old new s stands opened stores)

  stops : (e : Stop) → e ≢ stop.VoiceFault → (e ≢ stop.DiskFault → IsFirm old → IsFirm new) → Finds Stores {T = Unit {0}} s (migrated s) old new (Err e)
  stops e silent firm = opening_stops Stores (has_board before stores) (Opens old) (opens old s stores) moments same e silent settled firm

  pub load_finds : {T : Type 0} (e : ReadError) → ((d : Damage) → e ≡ Damaged d → board_in (recovered old.files) ≡ Err d) → (IsErrOf {T = T} (Err e) OutOfMemory → IsFirm new) → (IsTold {T = T} (Err e) → IsCalm new)
      → (IsTold {T = T} (Err e) → AreOpened (recovered old.files) (data_files new.files)) → Finds Stores s (migrated s) old new (found (Err e))
  load_finds (Damaged d) read firm calm opened =
      let it = damage_is (recovered old.files) s d (recovered_data old.files) (read d refl) stores in
      ends (calm tt) (spoiled_stores s it.0 (recovered old.files) (data_files new.files) it.1 (opened tt) stores)
  load_finds DiskFault read firm calm opened = stops stop.DiskFault (λ is. absurd (cc is)) (λ other was. absurd (other refl))
  load_finds OutOfMemory read firm calm opened = stops stop.OutOfMemory (λ is. absurd (cc is)) (λ other was. firm refl)

-- it was kept
kept_finds : (loaded : Loaded) (disk : Disk) (s : State) → IsKept (Some loaded) disk → Stores s (recovered disk.files) → Finds Stores s (migrated s) disk disk (Ok (tt {0}))
kept_finds loaded disk s kept stores =
    let calm = kept_calm loaded disk kept in
    told_finds (calm_is_settled disk calm) (still disk (Opens disk)) (record { said = refl; files = inl refl }) (calm_is_settled disk calm) stores loaded (kept_stands loaded disk kept) calm
    (inl (sym (calm_recovers disk calm)))

pub load_is_found : (e : ReadError) (old : Disk) (s : State) (kept : Option Loaded) → ((d : Damage) → e ≡ Damaged d → board_in (recovered old.files) ≡ Err d) → Stores s (recovered old.files) → IsStateFound s kept (Err e)
load_is_found (Damaged d) old s kept read stores = damage_is (recovered old.files) s d (recovered_data old.files) (read d refl) stores
load_is_found DiskFault old s kept read stores = tt
load_is_found OutOfMemory old s kept read stores = tt

pub still_is : (kept : Option Loaded) (disk : Disk) (s : State) → is_some kept ≡ true → IsKept kept disk → Stores s (recovered disk.files) → IsOutlined (migrated s) (kept_board kept)
still_is None disk s some kept stores = absurd (cc some)
still_is (Some loaded) disk s some kept stores = kept_is loaded disk s kept stores

pub still_finds : (kept : Option Loaded) (disk : Disk) (s : State) → is_some kept ≡ true → IsKept kept disk → Stores s (recovered disk.files) → Finds Stores s (migrated s) disk disk (Ok (tt {0}))
still_finds None disk s some kept stores = absurd (cc some)
still_finds (Some loaded) disk s some kept stores = kept_finds loaded disk s kept stores
