-- The exits of a command that changes the board and then writes the shelf: from what was found, changed and written to
-- what its contract gives.
use Rattle.std.proofs.Common.{◌≡◌, List, ℕ, Option, Some, None, Ok, Err, refl, sym, ◌∙◌, ap, subst}
use Rattle.cmd_board.specs.Damages.{damaged}
use Rattle.cmd_board.specs.Halts.{told, halt_of_read, of_journal}
use Rattle.cmd_board.specs.Kept.{IsStateFound, found}
use Rattle.cmd_board.specs.State.{State, NotMade, Made, Old, Spoiled, Stores, migrated, state_of}
use Rattle.board_layout.specs.Board.{Board}
use Rattle.board_layout.specs.Damage.{board_damage}
use Rattle.board_layout.specs.declared.error.ReadError.{ReadError}
use Rattle.board_layout.specs.declared.error.ReadError.TheVariants.{Damaged, DiskFault, OutOfMemory}
use Rattle.door_outside.specs.Disk.{Disk, Unchanged}
use Rattle.door_outside.specs.Shelf.{ShelfFiles, SameBut}
use Rattle.entry_runs.proofs.Boards.{found_still}
use Rattle.entry_runs.proofs.Commands.{answers, change_fails, changes_board, export_fails, halts, not_found}
use Rattle.entry_runs.specs.Door.{World, here, migrated_world}
use Rattle.entry_runs.specs.Entry.{Changes, Finds, IsAt, Reply, Works}
use Rattle.entry_runs.specs.Runs.{Stepped}
use Rattle.entry_runs.specs.declared.stop.Stop.TheVariants as stop
use Rattle.intent_journal.specs.declared.recovery.JournalError.{JournalError}
use Rattle.intent_journal.specs.declared.recovery.JournalError.TheVariants as journal
use Rattle.jam_records.specs.declared.damage.Damage.{Damage}
use Rattle.cmd_board.specs.mail_board.declared.loading.Loaded.{Loaded}
use Rattle.cmd_exchange.specs.Handing.{Handing, HandsOnState, on_board_then_shelf}

abbrev stepped_to : World State → Reply → Stepped (World State)
stepped_to world reply = record { world = world; reply = reply.text; class = reply.class }

module _ (names : List (List ℕ)) (hands : ShelfFiles → Option Board → Handing → Type 0) {world : World State} {old : Disk} {shelf : ShelfFiles} (at : IsAt Stores world old shelf) where
  -- ---- the steps
  hands_to : (board : Option Board) (h : Handing) → hands world.shelf board h → HandsOnState (hands world.shelf) (state_of board) world.shelf (state_of h.board) h.shelf h.reply
  hands_to None h takes = (h, takes, refl, refl, refl)
  hands_to (Some b) h takes = (h, takes, refl, refl, refl)

  -- from the migrated board, and so from the board
  unmigrated : (s next : State) (later : ShelfFiles) (reply : Reply) → HandsOnState (hands world.shelf) (migrated s) world.shelf next later reply → HandsOnState (hands world.shelf) s world.shelf next later reply
  unmigrated NotMade next later reply step = step
  unmigrated (Made b) next later reply step = step
  unmigrated (Old b) next later reply step = step
  unmigrated (Spoiled held) next later reply step = step

  step_to : (board : Option Board) (h : Handing) → migrated world.state ≡ state_of board → hands world.shelf board h → (on_board_then_shelf names hands).Step world (stepped_to (here (state_of h.board) h.shelf) h.reply)
  step_to board h is takes = unmigrated world.state (state_of h.board) h.shelf h.reply (subst (λ (s : State). HandsOnState (hands world.shelf) s world.shelf (state_of h.board) h.shelf h.reply) (sym is) (hands_to board h takes))

  says_damage : (files : _) (d : Damage) → world.state ≡ Spoiled files → board_damage files ≡ Some d → (on_board_then_shelf names hands).Step world (stepped_to (migrated_world (on_board_then_shelf names hands) world) (damaged d))
  says_damage files d is damage = subst (λ (s : State). HandsOnState (hands world.shelf) s world.shelf (migrated s) world.shelf (damaged d)) (sym is) (refl, refl, (d, damage, refl))

  -- ---- the board wasn't read, or there is damage
  pub unfound : {Value : Type 0} {new : Disk} (text : Value → List ℕ) (kept : Option Loaded) (e : ReadError) → Finds Stores world.state (migrated world.state) old new (found (Err e)) → IsStateFound world.state kept (Err e)
      → Works Stores (on_board_then_shelf names hands) world old new shelf (told text (Err (halt_of_read e)))
  unfound text kept (Damaged d) finds is = answers Stores (on_board_then_shelf names hands) at refl finds (says_damage is.0 d is.1 is.2)
  unfound text kept DiskFault finds is = not_found Stores (on_board_then_shelf names hands) at refl finds
  unfound text kept OutOfMemory finds is = not_found Stores (on_board_then_shelf names hands) at refl finds

  -- ---- the board was found, or none, and then memory ran out
  pub starved : {mid : Disk} → Finds Stores world.state (migrated world.state) old mid (Ok (tt {0})) → Works Stores (on_board_then_shelf names hands) world old mid shelf (Err stop.OutOfMemory)
  starved finds = halts Stores (on_board_then_shelf names hands) at refl finds stop.OutOfMemory (λ never. absurd (cc never))

  -- ---- the board was found, or none
  module _ {mid : Disk} {board : Option Board} (finds : Finds Stores world.state (migrated world.state) old mid (Ok (tt {0}))) (is : migrated world.state ≡ state_of board) where
    -- it changes nothing, and answers
    pub answered : (h : Handing) → hands world.shelf board h → h.board ≡ board → h.shelf ≡ world.shelf → Works Stores (on_board_then_shelf names hands) world old mid shelf (Ok h.reply)
    answered h takes same files =
        let state : state_of h.board ≡ migrated world.state = ap state_of same ∙ sym is in
        answers Stores (on_board_then_shelf names hands) at refl finds
        (subst (λ (f : ShelfFiles). (on_board_then_shelf names hands).Step world (stepped_to (here (migrated world.state) f) h.reply)) files
        (subst (λ (s : State). (on_board_then_shelf names hands).Step world (stepped_to (here s h.shelf) h.reply)) state (step_to board h is takes)))

    -- it was to hand something out
    module _ {new : Disk} (h : Handing) (takes : hands world.shelf board h) where
      pub handed : {T E : Type 0} {value : T} {later : ShelfFiles} → Changes Stores {E = E} (migrated world.state) (state_of h.board) mid new (Ok value) → later ≡ h.shelf
          → Works Stores (on_board_then_shelf names hands) world old new later (Ok h.reply)
      handed changes written = changes_board Stores (on_board_then_shelf names hands) at refl finds changes written (step_to board h is takes)

      -- the board was changed, and the shelf failed
      pub cut_short : {T E : Type 0} {value : T} {later : ShelfFiles} → Changes Stores {E = E} (migrated world.state) (state_of h.board) mid new (Ok value) → SameBut names shelf later
          → Works Stores (on_board_then_shelf names hands) world old new later (Err stop.ShelfFault)
      cut_short changes same = export_fails Stores (on_board_then_shelf names hands) at refl finds changes refl same (step_to board h is takes)

      pub unchanged : {Value T : Type 0} (text : Value → List ℕ) (e : JournalError) → Changes Stores {T = T} (migrated world.state) (state_of h.board) mid new (Err e) → (e ≡ journal.OutOfMemory → Unchanged mid new)
          → Works Stores (on_board_then_shelf names hands) world old new shelf (told text (Err (of_journal e)))
      unchanged text journal.DiskFault changes same = change_fails Stores (on_board_then_shelf names hands) at refl finds changes (step_to board h is takes)
      unchanged text journal.OutOfMemory changes same =
          let still = found_still Stores at.board (Ok (tt {0})) finds (same refl) (λ never. absurd (cc never)) in
          halts Stores (on_board_then_shelf names hands) at refl still stop.OutOfMemory (λ never. absurd (cc never))
