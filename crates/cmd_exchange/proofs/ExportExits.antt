-- The command `export`, once the board was found: from what the export gave to what the command's contract gives.
use Rattle.std.proofs.Common.{◌≡◌, ◌≢◌, ℕ, List, Option, Some, Ok, Err, refl, sym, ◌∙◌, ap, subst}
use Rattle.std.specs.Prelude.{Result, IfOk, IsErrOf, OnOk, option_map}
use Rattle.std.specs.Result.{result_err, result_ok}
use Rattle.cmd_board.proofs.ChangeLaws.{changes_to}
use Rattle.cmd_board.specs.Halts.{halted, told}
use Rattle.cmd_board.specs.State.{State, Made, Stores, migrated}
use Rattle.board_layout.specs.Board.{Board}
use Rattle.board_layout.specs.Layout.{IsLayout}
use Rattle.board_layout.specs.Valid.{IsBoard}
use Rattle.door_export.proofs.ExportLaws.{export_board}
use Rattle.door_export.specs.Export.{ExportRefusal, Handout, after_export, export_of}
use Rattle.door_export.specs.Export as why
use Rattle.door_export.specs.Exporting.{KeepsOffer, ExportLeavesAll, refusal_in}
use Rattle.door_export.specs.Folder.{folder_names, with_packet}
use Rattle.door_export.specs.declared.exporting.ExportError.{ExportError}
use Rattle.door_export.specs.declared.exporting.ExportError.TheVariants.{NoUser, Limit, Packets, DiskFault, Doubt, Damaged, ShelfFault, OutOfMemory}
use Rattle.door_export.specs.declared.exporting.Exported.{Exported}
use Rattle.door_outside.specs.Disk.{Disk, AllNow, Between, Unchanged}
use Rattle.door_outside.specs.Shelf.{ShelfFiles, SameBut}
use Rattle.entry_runs.proofs.Boards.{found_still}
use Rattle.entry_runs.specs.Door.{World}
use Rattle.entry_runs.specs.Entry.{Changes, Finds, IsAt, Works}
use Rattle.entry_runs.specs.declared.stop.Stop.TheVariants as stop
use Rattle.intent_journal.specs.Hosts.{IsSettled}
use Rattle.intent_journal.specs.declared.recovery.JournalError.{JournalError}
use Rattle.intent_journal.specs.declared.recovery.JournalError.TheVariants as journal
use Rattle.jam_records.specs.declared.damage.Damage.{Damage}
use Rattle.cmd_board.specs.mail_board.Held.{BeforeOrNext, Rests}
use Rattle.shelf_files.specs.Halts.{done, refused as says_refusal}
use Rattle.cmd_exchange.proofs.HandingExits.{answered, cut_short, handed, starved, unchanged}
use Rattle.cmd_exchange.specs.Export.{export_handing, exports, handing_of, packet_line, export_refusal}
use Rattle.cmd_exchange.specs.Exporting.{export_halt}
use Rattle.cmd_exchange.specs.Handing.{Handing, refused_handing}

abbrev hands : List ℕ → ℕ → List ℕ → ℕ → ShelfFiles → Option Board → Handing → Type 0
hands name limit folder now files board h = h ≡ export_handing name limit folder now files board

-- what an export of a board left, by what it comes to
pub record Leaves (b : Board) (folder : List ℕ) (mid new : Disk) (shelf later : ShelfFiles) (r : Result Handout ExportRefusal) (result : Result Exported ExportError) : Type 0 where
  pub moments : Between mid new (BeforeOrNext (IsLayout b) (after_export b r) mid)
  pub now_is : AllNow new (BeforeOrNext (IsLayout b) (after_export b r) mid)
  pub settled : IsSettled new
  pub refused_is : refusal_in result ≡ result_err r
  pub certain : result ≢ Err Doubt
  pub undamaged : (d : Damage) → result ≢ Err (Damaged d)
  pub same : ExportLeavesAll result → Unchanged mid new × (later ≡ shelf)
  pub answer : IfOk result (λ e. option_map (λ p. p.answer) (result_ok r) ≡ Some e)
  pub files : OnOk result (Some later ≡ option_map (λ p. with_packet folder p.controls p.messages shelf) (result_ok r))
  pub others : IsErrOf result ShelfFault → SameBut (folder_names folder) shelf later
  pub fault : IsErrOf result DiskFault → later ≡ shelf
  pub rests : KeepsOffer result → Rests (after_export b r) new

module _ (name : List ℕ) (limit : ℕ) (folder : List ℕ) (now : ℕ) (b : Board) (ok : IsBoard b) where
  next_board : (r : Result Handout ExportRefusal) → export_of name limit now b ≡ r → IsBoard (after_export b r)
  next_board r r_is = subst (λ (r : Result Handout ExportRefusal). IsBoard (after_export b r)) r_is (export_board name limit now b ok)

  takes : (files : ShelfFiles) (r : Result Handout ExportRefusal) → export_of name limit now b ≡ r → hands name limit folder now files (Some b) (handing_of folder files b r)
  takes files r r_is = sym (ap (handing_of folder files b) r_is)

  module _ {world : World State} {old mid : Disk} {shelf : ShelfFiles} (at : IsAt Stores world old shelf) (finds : Finds Stores world.state (migrated world.state) old mid (Ok (tt {0}))) (is : migrated world.state ≡ Made b) where
    changes : {new : Disk} {later : ShelfFiles} (r : Result Handout ExportRefusal) → export_of name limit now b ≡ r → (result : Result Exported ExportError) → Leaves b folder mid new shelf later r result
        → {T E : Type 0} (part : Result T E) → OnOk part (Rests (after_export b r) new) → Changes Stores (migrated world.state) (Made (after_export b r)) mid new part
    changes {new} r r_is result leaves part rests =
        subst (λ (s : State). Changes Stores s (Made (after_export b r)) mid new part) (sym is)
        (changes_to (Made b) (IsLayout b) (λ files laid. (ok, laid)) (after_export b r) (next_board r r_is) part leaves.moments leaves.now_is leaves.settled rests)

    -- nothing was changed
    still : {new : Disk} → Unchanged mid new → Finds Stores world.state (migrated world.state) old new (Ok (tt {0}))
    still same = found_still Stores at.board (Ok (tt {0})) finds same (λ never. absurd (cc never))

    refused : {new : Disk} {later : ShelfFiles} → Unchanged mid new × (later ≡ shelf) → (reason : ExportRefusal) → export_of name limit now b ≡ Err reason
        → Works Stores (exports name limit folder now) world old new later (Ok (says_refusal (export_refusal reason)))
    refused {new} same reason r_is =
        subst (λ (f : ShelfFiles). Works Stores (exports name limit folder now) world old new f (Ok (says_refusal (export_refusal reason)))) (sym same.1)
        (answered (folder_names folder) (hands name limit folder now) at {board = Some b} (still same.0) is (refused_handing (export_refusal reason) world.shelf (Some b)) (takes world.shelf (Err reason) r_is) refl refl)

    no_memory : {new : Disk} {later : ShelfFiles} → Unchanged mid new × (later ≡ shelf) → Works Stores (exports name limit folder now) world old new later (Err stop.OutOfMemory)
    no_memory {new} same =
        subst (λ (f : ShelfFiles). Works Stores (exports name limit folder now) world old new f (Err stop.OutOfMemory)) (sym same.1) (starved (folder_names folder) (hands name limit folder now) at (still same.0))

    -- the refusal that was answered is the one that there is
    refused_as : {new : Disk} {later : ShelfFiles} (reason other : ExportRefusal) → Some reason ≡ Some other → export_of name limit now b ≡ Err other → Unchanged mid new × (later ≡ shelf)
        → Works Stores (exports name limit folder now) world old new later (Ok (says_refusal (export_refusal reason)))
    refused_as reason other e r_is same =
        let one : other ≡ reason = cc in
        refused same reason (r_is ∙ ap Err one)

    -- a packet was handed out
    exported : {new : Disk} {later : ShelfFiles} (p : Handout) (e : Exported) → export_of name limit now b ≡ Ok p → Leaves b folder mid new shelf later (Ok p) (Ok e)
        → Works Stores (exports name limit folder now) world old new later (Ok (done (packet_line e)))
    exported {new} {later} p e r_is leaves =
        let answer : p.answer ≡ e = let a = leaves.answer in cc in
        let written : later ≡ with_packet folder p.controls p.messages shelf = let f = leaves.files in cc in
        subst (λ (x : Exported). Works Stores (exports name limit folder now) world old new later (Ok (done (packet_line x)))) answer
        (handed (folder_names folder) (hands name limit folder now) at {board = Some b} finds is (handing_of folder world.shelf b (Ok p)) (takes world.shelf (Ok p) r_is)
        (changes (Ok p) r_is (Ok e) leaves {E = JournalError} (Ok (tt {0})) (leaves.rests tt))
        (written ∙ ap (with_packet folder p.controls p.messages) at.shelf_is))

    pub works : {new : Disk} {later : ShelfFiles} (r : Result Handout ExportRefusal) → export_of name limit now b ≡ r → (result : Result Exported ExportError) → Leaves b folder mid new shelf later r result
        → Works Stores (exports name limit folder now) world old new later (told packet_line (halted export_halt result))
    works (Ok p) r_is (Ok e) leaves = exported p e r_is leaves
    works (Ok p) r_is (Err NoUser) leaves = absurd (cc leaves.refused_is)
    works (Ok p) r_is (Err Limit) leaves = absurd (cc leaves.refused_is)
    works (Ok p) r_is (Err Packets) leaves = absurd (cc leaves.refused_is)
    works {new} (Ok p) r_is (Err DiskFault) leaves =
        subst (λ (f : ShelfFiles). Works Stores (exports name limit folder now) world old new f (Err stop.DiskFault)) (sym (leaves.fault refl))
        (unchanged (folder_names folder) (hands name limit folder now) at {board = Some b} finds is (handing_of folder world.shelf b (Ok p)) (takes world.shelf (Ok p) r_is) packet_line journal.DiskFault
        (changes (Ok p) r_is (Err DiskFault) leaves {T = Unit {0}} (Err journal.DiskFault) tt) (λ never. absurd (cc never)))
    works (Ok p) r_is (Err Doubt) leaves = absurd (leaves.certain refl)
    works (Ok p) r_is (Err (Damaged d)) leaves = absurd (leaves.undamaged d refl)
    works (Ok p) r_is (Err ShelfFault) leaves =
        cut_short (folder_names folder) (hands name limit folder now) at {board = Some b} finds is (handing_of folder world.shelf b (Ok p)) (takes world.shelf (Ok p) r_is)
        (changes (Ok p) r_is (Err ShelfFault) leaves {E = JournalError} (Ok (tt {0})) (leaves.rests tt)) (leaves.others refl)
    works (Ok p) r_is (Err OutOfMemory) leaves = no_memory (leaves.same tt)
    works (Err reason) r_is (Ok e) leaves = absurd (cc leaves.refused_is)
    works (Err reason) r_is (Err NoUser) leaves = refused_as why.NoUser reason leaves.refused_is r_is (leaves.same tt)
    works (Err reason) r_is (Err Limit) leaves = refused_as why.Limit reason leaves.refused_is r_is (leaves.same tt)
    works (Err reason) r_is (Err Packets) leaves = refused_as why.Packets reason leaves.refused_is r_is (leaves.same tt)
    works (Err reason) r_is (Err DiskFault) leaves = absurd (cc leaves.refused_is)
    works (Err reason) r_is (Err Doubt) leaves = absurd (leaves.certain refl)
    works (Err reason) r_is (Err (Damaged d)) leaves = absurd (leaves.undamaged d refl)
    works (Err reason) r_is (Err ShelfFault) leaves = absurd (cc leaves.refused_is)
    works (Err reason) r_is (Err OutOfMemory) leaves = absurd (cc leaves.refused_is)
