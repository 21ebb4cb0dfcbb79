-- The exits of a command that touches the board, one lemma each: from what was found and changed to what its contract
-- gives.
use Rattle.std.proofs.Common.{◌≡◌, List, ℕ, Option, Some, None, Ok, Err, refl, sym, ◌∙◌, ap, subst}
use Rattle.door_outside.specs.Disk.{Disk, Unchanged}
use Rattle.door_outside.specs.Shelf as Shelf
use Rattle.entry_runs.proofs.Boards.{found_still}
use Rattle.entry_runs.proofs.Commands.{answers, change_fails, changes_board, halts, not_found}
use Rattle.entry_runs.specs.Door.{World, here, migrated_world}
use Rattle.entry_runs.specs.Entry.{Changes, Finds, IsAt, Reply, Works}
use Rattle.entry_runs.specs.Runs.{Stepped}
use Rattle.entry_runs.specs.declared.stop.Stop.TheVariants as stop
use Rattle.intent_journal.specs.declared.recovery.JournalError.{JournalError}
use Rattle.intent_journal.specs.declared.recovery.JournalError.TheVariants as journal
use Rattle.jam_records.specs.declared.damage.Damage.{Damage}
use Rattle.board_layout.specs.Board.{Board}
use Rattle.board_layout.specs.Damage.{board_damage}
use Rattle.board_layout.specs.declared.error.ReadError.{ReadError}
use Rattle.board_layout.specs.declared.error.ReadError.TheVariants.{Damaged, DiskFault, OutOfMemory}
use Rattle.mail_board.specs.declared.loading.Loaded.{Loaded}
use Rattle.cmd_board.specs.Damages.{damaged}
use Rattle.cmd_board.specs.Halts.{told, halt_of_read, of_journal}
use Rattle.cmd_board.specs.Kept.{IsStateFound, found}
use Rattle.cmd_board.specs.State.{State, NotMade, Made, Old, Spoiled, Stores, migrated, state_of}
use Rattle.cmd_board.specs.Turns.{Turn, OnState, on_board}

abbrev stepped_to : World State → Reply → Stepped (World State)
stepped_to world reply = record { world = world; reply = reply.text; class = reply.class }

module _ (turns : Shelf.ShelfFiles → Option Board → Turn → Type 0) {world : World State} {old : Disk} {shelf : Shelf.ShelfFiles} (at : IsAt Stores world old shelf) where
  -- ---- the steps
  turns_to : (board : Option Board) (turn : Turn) → turns world.shelf board turn → OnState (turns world.shelf) (state_of board) (state_of turn.board) turn.reply
  turns_to None turn takes = (turn, takes, refl, refl)
  turns_to (Some b) turn takes = (turn, takes, refl, refl)

  -- from the migrated board, and so from the board
  unmigrated : (s next : State) (reply : Reply) → OnState (turns world.shelf) (migrated s) next reply → OnState (turns world.shelf) s next reply
  unmigrated NotMade next reply step = step
  unmigrated (Made b) next reply step = step
  unmigrated (Old b) next reply step = step
  unmigrated (Spoiled held) next reply step = step

  pub step_to : (board : Option Board) (turn : Turn) → migrated world.state ≡ state_of board → turns world.shelf board turn → (on_board turns).Step world (stepped_to (here (state_of turn.board) world.shelf) turn.reply)
  step_to board turn is takes =
      (refl, unmigrated world.state (state_of turn.board) turn.reply (subst (λ (s : State). OnState (turns world.shelf) s (state_of turn.board) turn.reply) (sym is) (turns_to board turn takes)))

  says_damage : (held : _) (d : Damage) → world.state ≡ Spoiled held → board_damage held ≡ Some d → (on_board turns).Step world (stepped_to (migrated_world (on_board turns) world) (damaged d))
  says_damage held d is damage = (refl, subst (λ (s : State). OnState (turns world.shelf) s (migrated s) (damaged d)) (sym is) (refl, (d, damage, refl)))

  -- ---- the board wasn't read, or there is damage
  pub unfound : {Value : Type 0} {new : Disk} (text : Value → List ℕ) (kept : Option Loaded) (e : ReadError) → Finds Stores world.state (migrated world.state) old new (found (Err e)) → IsStateFound world.state kept (Err e)
      → Works Stores (on_board turns) world old new shelf (told text (Err (halt_of_read e)))
  unfound text kept (Damaged d) finds is = answers Stores (on_board turns) at refl finds (says_damage is.0 d is.1 is.2)
  unfound text kept DiskFault finds is = not_found Stores (on_board turns) at refl finds
  unfound text kept OutOfMemory finds is = not_found Stores (on_board turns) at refl finds

  -- ---- the board was found, or none, and then memory ran out or the shelf failed
  module _ {mid : Disk} (finds : Finds Stores world.state (migrated world.state) old mid (Ok (tt {0}))) where
    pub starved : Works Stores (on_board turns) world old mid shelf (Err stop.OutOfMemory)
    starved = halts Stores (on_board turns) at refl finds stop.OutOfMemory (λ never. absurd (cc never))

    pub shelf_fails : Works Stores (on_board turns) world old mid shelf (Err stop.ShelfFault)
    shelf_fails = halts Stores (on_board turns) at refl finds stop.ShelfFault (λ never. absurd (cc never))

  -- ---- the board was found, or none
  module _ {mid : Disk} {board : Option Board} (finds : Finds Stores world.state (migrated world.state) old mid (Ok (tt {0}))) (is : migrated world.state ≡ state_of board) where
    -- it changes nothing, and answers
    pub answered : (turn : Turn) → turns world.shelf board turn → turn.board ≡ board → Works Stores (on_board turns) world old mid shelf (Ok turn.reply)
    answered turn takes same =
        let state : state_of turn.board ≡ migrated world.state = ap state_of same ∙ sym is in
        answers Stores (on_board turns) at refl finds
        (subst (λ (s : State). (on_board turns).Step world (stepped_to (here s world.shelf) turn.reply)) state (step_to board turn is takes))

    -- it was to take a turn that changes the board
    module _ {new : Disk} (turn : Turn) (takes : turns world.shelf board turn) where
      pub turned : {T E : Type 0} {value : T} → Changes Stores {E = E} (migrated world.state) (state_of turn.board) mid new (Ok value) → Works Stores (on_board turns) world old new shelf (Ok turn.reply)
      turned changes = changes_board Stores (on_board turns) at refl finds changes at.shelf_is (step_to board turn is takes)

      pub unturned : {Value T : Type 0} (text : Value → List ℕ) (e : JournalError) → Changes Stores {T = T} (migrated world.state) (state_of turn.board) mid new (Err e) → (e ≡ journal.OutOfMemory → Unchanged mid new)
          → Works Stores (on_board turns) world old new shelf (told text (Err (of_journal e)))
      unturned text journal.DiskFault changes same = change_fails Stores (on_board turns) at refl finds changes (step_to board turn is takes)
      unturned text journal.OutOfMemory changes same =
          let still = found_still Stores at.board (Ok (tt {0})) finds (same refl) (λ never. absurd (cc never)) in
          halts Stores (on_board turns) at refl still stop.OutOfMemory (λ never. absurd (cc never))
