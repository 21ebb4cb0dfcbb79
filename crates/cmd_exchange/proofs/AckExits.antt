-- The command `ack`, once the board was found: from what the acknowledgement gave to what the command's contract gives.
use Rattle.std.proofs.Common.{◌≡◌, ◌≢◌, ℕ, ◌<◌, ◌^◌, List, Option, Some, Ok, Err, refl, sym, ◌∙◌, ap, subst}
use Rattle.std.specs.Prelude.{Result, OnOk}
use Rattle.std.specs.Result.{result_err}
use Rattle.cmd_board.proofs.ChangeLaws.{changes_to}
use Rattle.cmd_board.proofs.Exits.{answered, starved, turned, unturned}
use Rattle.cmd_board.specs.Halts.{halted, told}
use Rattle.cmd_board.specs.State.{State, Made, Stores, migrated}
use Rattle.cmd_board.specs.Turns.{Turn, refuses}
use Rattle.board_layout.specs.Board.{Board}
use Rattle.board_layout.specs.Layout.{IsLayout}
use Rattle.board_layout.specs.Valid.{IsBoard}
use Rattle.door_export.proofs.AckLaws.{ack_board}
use Rattle.door_export.specs.Ack.{AckRefusal, ack_of, after_ack}
use Rattle.door_export.specs.Ack as why
use Rattle.door_export.specs.Acknowledging.{AckLeavesAll, refusal_in}
use Rattle.door_export.specs.declared.acknowledging.AckError.{AckError}
use Rattle.door_export.specs.declared.acknowledging.AckError.TheVariants.{NoUser, NoPacket, DiskFault, Doubt, OutOfMemory}
use Rattle.door_outside.specs.Disk.{Disk, AllNow, Between, Unchanged}
use Rattle.door_outside.specs.Shelf.{ShelfFiles}
use Rattle.entry_runs.proofs.Boards.{found_still}
use Rattle.entry_runs.specs.Door.{World}
use Rattle.entry_runs.specs.Entry.{Changes, Finds, IsAt, Works}
use Rattle.intent_journal.specs.Hosts.{IsSettled}
use Rattle.intent_journal.specs.declared.recovery.JournalError.{JournalError}
use Rattle.intent_journal.specs.declared.recovery.JournalError.TheVariants as journal
use Rattle.cmd_board.specs.mail_board.Held.{BeforeOrNext, Rests}
use Rattle.shelf_files.specs.Halts.{refused as says_refusal}
use Rattle.cmd_exchange.specs.Ack.{ack_turn, acknowledged_line, acknowledges, ack_refusal, acknowledged_turn}
use Rattle.cmd_exchange.specs.Acknowledging.{ack_halt}

abbrev turns : List ℕ → ℕ → ℕ → ShelfFiles → Option Board → Turn → Type 0
turns name packet now files board turn = turn ≡ ack_turn name packet now board

-- what an acknowledgement on a board left, by what it comes to
pub record Leaves (b : Board) (mid new : Disk) (r : Result Board AckRefusal) (result : Result (Unit {0}) AckError) : Type 0 where
  pub moments : Between mid new (BeforeOrNext (IsLayout b) (after_ack b r) mid)
  pub now_is : AllNow new (BeforeOrNext (IsLayout b) (after_ack b r) mid)
  pub settled : IsSettled new
  pub refused_is : refusal_in result ≡ result_err r
  pub certain : result ≢ Err Doubt
  pub same : AckLeavesAll result → Unchanged mid new
  pub rests : OnOk result (Rests (after_ack b r) new)

module _ (name : List ℕ) (packet now : ℕ) (small : now < 2 ^ 32) (b : Board) (ok : IsBoard b) where
  next_board : (r : Result Board AckRefusal) → ack_of name packet now b ≡ r → IsBoard (after_ack b r)
  next_board r r_is = subst (λ (r : Result Board AckRefusal). IsBoard (after_ack b r)) r_is (ack_board name packet now b small ok)

  takes : (files : ShelfFiles) (r : Result Board AckRefusal) → ack_of name packet now b ≡ r → turns name packet now files (Some b) (acknowledged_turn packet b r)
  takes files r r_is = sym (ap (acknowledged_turn packet b) r_is)

  module _ {world : World State} {old mid : Disk} {shelf : ShelfFiles} (at : IsAt Stores world old shelf) (finds : Finds Stores world.state (migrated world.state) old mid (Ok (tt {0}))) (is : migrated world.state ≡ Made b) where
    changes : {new : Disk} (r : Result Board AckRefusal) → ack_of name packet now b ≡ r → (result : Result (Unit {0}) AckError) → Leaves b mid new r result
        → {T E : Type 0} (part : Result T E) → OnOk part (Rests (after_ack b r) new) → Changes Stores (migrated world.state) (Made (after_ack b r)) mid new part
    changes {new} r r_is result leaves part rests =
        subst (λ (s : State). Changes Stores s (Made (after_ack b r)) mid new part) (sym is)
        (changes_to (Made b) (IsLayout b) (λ files laid. (ok, laid)) (after_ack b r) (next_board r r_is) part leaves.moments leaves.now_is leaves.settled rests)

    -- nothing was changed
    still : {new : Disk} → Unchanged mid new → Finds Stores world.state (migrated world.state) old new (Ok (tt {0}))
    still same = found_still Stores at.board (Ok (tt {0})) finds same (λ never. absurd (cc never))

    refused : {new : Disk} → Unchanged mid new → (reason : AckRefusal) → ack_of name packet now b ≡ Err reason → Works Stores (acknowledges name packet now) world old new shelf (Ok (says_refusal (ack_refusal reason)))
    refused same reason r_is = answered (turns name packet now) at {board = Some b} (still same) is (refuses (ack_refusal reason) (Some b)) (takes world.shelf (Err reason) r_is) refl

    -- the refusal that was answered is the one that there is
    refused_as : {new : Disk} (reason other : AckRefusal) → Some reason ≡ Some other → ack_of name packet now b ≡ Err other → Unchanged mid new
        → Works Stores (acknowledges name packet now) world old new shelf (Ok (says_refusal (ack_refusal reason)))
    refused_as reason other e r_is same =
        let one : other ≡ reason = cc in
        refused same reason (r_is ∙ ap Err one)

    pub works : {new : Disk} (r : Result Board AckRefusal) → ack_of name packet now b ≡ r → (result : Result (Unit {0}) AckError) → Leaves b mid new r result
        → Works Stores (acknowledges name packet now) world old new shelf (told (λ _. acknowledged_line packet) (halted ack_halt result))
    works (Ok next) r_is (Ok x) leaves =
        turned (turns name packet now) at {board = Some b} finds is (acknowledged_turn packet b (Ok next)) (takes world.shelf (Ok next) r_is) (changes (Ok next) r_is (Ok x) leaves {E = JournalError} (Ok (tt {0})) leaves.rests)
    works (Ok next) r_is (Err NoUser) leaves = absurd (cc leaves.refused_is)
    works (Ok next) r_is (Err (NoPacket offer)) leaves = absurd (cc leaves.refused_is)
    works (Ok next) r_is (Err DiskFault) leaves =
        unturned (turns name packet now) at {board = Some b} finds is (acknowledged_turn packet b (Ok next)) (takes world.shelf (Ok next) r_is) (λ (x : Unit {0}). acknowledged_line packet) journal.DiskFault
        (changes (Ok next) r_is (Err DiskFault) leaves {T = Unit {0}} (Err journal.DiskFault) tt) (λ never. absurd (cc never))
    works (Ok next) r_is (Err Doubt) leaves = absurd (leaves.certain refl)
    works (Ok next) r_is (Err OutOfMemory) leaves = starved (turns name packet now) at (still (leaves.same tt))
    works (Err reason) r_is (Ok x) leaves = absurd (cc leaves.refused_is)
    works (Err reason) r_is (Err NoUser) leaves = refused_as why.NoUser reason leaves.refused_is r_is (leaves.same tt)
    works (Err reason) r_is (Err (NoPacket offer)) leaves = refused_as (why.NoPacket offer) reason leaves.refused_is r_is (leaves.same tt)
    works (Err reason) r_is (Err DiskFault) leaves = absurd (cc leaves.refused_is)
    works (Err reason) r_is (Err Doubt) leaves = absurd (leaves.certain refl)
    works (Err reason) r_is (Err OutOfMemory) leaves = absurd (cc leaves.refused_is)
