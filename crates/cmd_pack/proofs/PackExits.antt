-- The command `pack`, once the conference was found: from what the pack gave to what the command's contract gives.
use Rattle.std.proofs.Common.{◌≡◌, ◌≢◌, ◌⊎◌, inl, inr, Bool, true, false, cond, ℕ, List, Option, Some, None, Ok, Err, refl, sym, ◌∙◌, subst}
use Rattle.std.specs.Prelude.{Result, IfOk, IsErrOf, OnOk}
use Rattle.cmd_board.proofs.CauseLaws.{disk_fails, quiet, unraised}
use Rattle.cmd_board.proofs.ChangeLaws.{changes_to}
use Rattle.cmd_board.proofs.Exits.{starved, turned, unturned}
use Rattle.cmd_board.proofs.KeptLaws.{doubted, next_sure, none_sure, same_sure}
use Rattle.cmd_board.specs.Halts.{halted, told}
use Rattle.cmd_board.specs.Kept.{AreSure, IsKept, unless_doubtful}
use Rattle.cmd_board.specs.State.{State, Made, Stores, migrated}
use Rattle.cmd_board.specs.Turns.{Turn}
use Rattle.board_layout.specs.Board.{Board}
use Rattle.board_layout.specs.Layout.{IsLayout}
use Rattle.board_layout.specs.Valid.{IsBoard}
use Rattle.door_outside.specs.Disk.{Disk, AllNow, Between, Unchanged}
use Rattle.door_outside.specs.Shelf.{ShelfFiles}
use Rattle.entry_runs.proofs.Boards.{found_still}
use Rattle.entry_runs.specs.Door.{World}
use Rattle.entry_runs.specs.Entry.{Changes, Finds, IsAt, Works}
use Rattle.entry_runs.specs.Promise.{HasCauses, counts, ended}
use Rattle.entry_runs.specs.declared.status.Status.TheVariants as status
use Rattle.intent_journal.specs.Hosts.{IsSettled}
use Rattle.intent_journal.specs.declared.recovery.JournalError.{JournalError}
use Rattle.intent_journal.specs.declared.recovery.JournalError.TheVariants as journal
use Rattle.jam_pack.specs.Packing.{PackLeavesAll}
use Rattle.jam_pack.specs.declared.error.PackError.{PackError}
use Rattle.jam_pack.specs.declared.error.PackError.TheVariants.{DiskFault, Doubt, Damaged, OutOfMemory}
use Rattle.jam_records.specs.declared.damage.Damage.{Damage}
use Rattle.jam_pack.specs.mail_board.Causes.{HasFault}
use Rattle.jam_pack.specs.mail_board.Held.{BeforeOrNext, Follows, HeldBoard, Rests, RestsOn}
use Rattle.jam_pack.specs.mail_board.declared.loading.Loaded.TheVariants.{Ready}
use Rattle.jam_pack.proofs.slot_changes.PackLaws.{packed_board}
use Rattle.jam_pack.specs.slot_changes.Packed.{packed}
use Rattle.cmd_pack.proofs.PackAlike.{packing}
use Rattle.cmd_pack.specs.Pack.{pack_turn, packed_line, packs}
use Rattle.cmd_pack.specs.Packing.{pack_halt}

abbrev turns : ℕ → ShelfFiles → Option Board → Turn → Type 0
turns conference files board turn = turn ≡ pack_turn conference board

-- what a pack of a board left
pub record Leaves (place : ℕ) (b : Board) (mid new : Disk) (result : Result ℕ PackError) : Type 0 where
  pub moments : Between mid new (BeforeOrNext (IsLayout b) (packed place b) mid)
  pub now_is : AllNow new (BeforeOrNext (IsLayout b) (packed place b) mid)
  pub settled : IsSettled new
  pub certain : result ≢ Err Doubt
  pub undamaged : (d : Damage) → result ≢ Err (Damaged d)
  pub same : PackLeavesAll result → Unchanged mid new
  pub rests : OnOk result (Rests (packed place b) new)

module _ (conference place : ℕ) (b : Board) (ok : IsBoard b) where
  module _ {world : World State} {old mid : Disk} {shelf : ShelfFiles} (at : IsAt Stores world old shelf) (finds : Finds Stores world.state (migrated world.state) old mid (Ok (tt {0}))) (is : migrated world.state ≡ Made b) where
    changes : {new : Disk} (result : Result ℕ PackError) → Leaves place b mid new result → {T E : Type 0} (part : Result T E) → OnOk part (Rests (packed place b) new) → Changes Stores (migrated world.state) (Made (packed place b)) mid new part
    changes {new} result leaves part rests =
        subst (λ (s : State). Changes Stores s (Made (packed place b)) mid new part) (sym is)
        (changes_to (Made b) (IsLayout b) (λ files laid. (ok, laid)) (packed place b) (packed_board b place ok) part leaves.moments leaves.now_is leaves.settled rests)

    -- nothing was changed
    still : {new : Disk} → Unchanged mid new → Finds Stores world.state (migrated world.state) old new (Ok (tt {0}))
    still same = found_still Stores at.board (Ok (tt {0})) finds same (λ never. absurd (cc never))

    pub works : {new : Disk} (result : Result ℕ PackError) → Leaves place b mid new result → ((count : ℕ) → result ≡ Ok count → packing conference place count b ≡ pack_turn conference (Some b)) → (some : ℕ) → packing conference place some b ≡ pack_turn conference (Some b)
        → Works Stores (packs conference) world old new shelf (told (packed_line conference) (halted pack_halt result))
    works (Ok count) leaves gives some any =
        turned (turns conference) at {board = Some b} finds is (packing conference place count b) (gives count refl) (changes (Ok count) leaves {E = JournalError} (Ok (tt {0})) leaves.rests)
    works (Err DiskFault) leaves gives some any =
        unturned (turns conference) at {board = Some b} finds is (packing conference place some b) any (packed_line conference) journal.DiskFault
        (changes (Err DiskFault) leaves {T = Unit {0}} (Err journal.DiskFault) tt) (λ never. absurd (cc never))
    works (Err Doubt) leaves gives some any = absurd (leaves.certain refl)
    works (Err (Damaged d)) leaves gives some any = absurd (leaves.undamaged d refl)
    works (Err OutOfMemory) leaves gives some any = starved (turns conference) at (still (leaves.same tt))

-- what is answered is so many
pub counted : (result : Result ℕ PackError) (count : ℕ) → result ≡ Ok count → {n : ℕ} → IfOk result (λ m. m ≡ n) → count ≡ n
counted (Ok m) count is counts = let same : count ≡ m = cc in same ∙ counts
counted (Err e) count is counts = absurd (cc is)

-- ---- the counts of faults
module _ {disk voice shelf disk_after voice_after shelf_after : ℕ} (voice_same : voice_after ≡ voice) where
  pub pack_causes : (text : ℕ → List ℕ) (result : Result ℕ PackError) → HasFault DiskFault disk disk_after result → shelf_after ≡ shelf → result ≢ Err Doubt → HasCauses (counts disk voice shelf) (counts disk_after voice_after shelf_after) (ended (told text (halted pack_halt result)))
  pack_causes text (Ok count) d s certain = quiet voice_same status.Done (λ is. absurd (cc is)) (λ is. absurd (cc is)) (λ is. absurd (cc is)) (unraised DiskFault _ d (λ is. cc is)) s
  pack_causes text (Err DiskFault) d s certain = disk_fails voice_same d.later (d.rose refl) s
  pack_causes text (Err Doubt) d s certain = absurd (certain refl)
  pack_causes text (Err (Damaged e)) d s certain = quiet voice_same status.Done (λ is. absurd (cc is)) (λ is. absurd (cc is)) (λ is. absurd (cc is)) (unraised DiskFault _ d (λ is. cc is)) s
  pack_causes text (Err OutOfMemory) d s certain = quiet voice_same status.OutOfMemory (λ is. absurd (cc is)) (λ is. absurd (cc is)) (λ is. absurd (cc is)) (unraised DiskFault _ d (λ is. cc is)) s

-- ---- what is kept of the board
pub pack_kept : (after : HeldBoard) (disk : Disk) → (after.doubtful ≡ false → RestsOn after.board disk) → IsSettled disk → IsKept (unless_doubtful after) disk
pack_kept after disk rests settled = by after.doubtful refl
  where
    by : (doubtful : Bool) → after.doubtful ≡ doubtful → IsKept (cond doubtful None (Some (Ready after))) disk
    by true is = settled
    by false is = rests is

module _ (before after : HeldBoard) (next : Board) (certain : before.doubtful ≡ false) where
  pub pack_sure : (result : Result ℕ PackError) → IsBoard before.board → OnOk result (Follows next after) → (PackLeavesAll result → after ≡ before) → (IsErrOf result DiskFault → (after ≡ before) ⊎ (after ≡ doubted before)) → AreSure (unless_doubtful after)
  pack_sure (Ok count) ok board same fault = next_sure before after certain next board
  pack_sure (Err DiskFault) ok board same fault = elim (fault refl) [ inl left ↦ same_sure before after certain left ok | inr is ↦ none_sure before after certain is ]
  pack_sure (Err Doubt) ok board same fault = same_sure before after certain (same tt) ok
  pack_sure (Err (Damaged d)) ok board same fault = same_sure before after certain (same tt) ok
  pack_sure (Err OutOfMemory) ok board same fault = same_sure before after certain (same tt) ok
