-- The exits of `adopt` once the board is found.
use Rattle.std.proofs.Common.{◌≡◌, ℕ, List, Option, Some, None, Result, Ok, Err, refl, sym, ◌∙◌, ap}
use Rattle.cmd_board.proofs.CauseLaws.{stops_by}
use Rattle.cmd_board.proofs.Exits.{shelf_fails, starved}
use Rattle.cmd_board.specs.Halts.{told, of_journal, of_shelf}
use Rattle.cmd_board.specs.Kept.{IsOutlined}
use Rattle.cmd_board.specs.State.{State, Made, Stores, migrated}
use Rattle.cmd_board.specs.Turns.{Turn, refuses}
use Rattle.cmd_board.specs.declared.halt.BoardHalt.{BoardHalt}
use Rattle.cmd_board.specs.declared.halt.BoardHalt.TheVariants as board_halt
use Rattle.board_layout.specs.Board.{Board}
use Rattle.board_layout.specs.Valid.{IsBoard}
use Rattle.board_layout.specs.Lookups.{place_of}
use Rattle.door_outside.specs.Disk.{Disk, Unchanged}
use Rattle.door_outside.specs.Shelf as Shelf
use Rattle.entry_runs.proofs.Commands.{works_same}
use Rattle.entry_runs.specs.Door.{World}
use Rattle.entry_runs.specs.Entry.{Changes, Finds, IsAt, Works}
use Rattle.intent_journal.specs.Recovered.{recovered}
use Rattle.intent_journal.specs.declared.recovery.JournalError.{JournalError}
use Rattle.intent_journal.specs.declared.recovery.JournalError.TheVariants.{OutOfMemory as Starved}
use Rattle.jam_adopt.specs.declared.found.Found.{Found}
use Rattle.cmd_board.specs.mail_board.Changes.{changed}
use Rattle.cmd_board.specs.mail_board.Held.{AreAlike}
use Rattle.cmd_board.proofs.ChangeExits.{carried, changed_by, refused_on, unchanged_by}
use Rattle.cmd_board.proofs.PlaceAlike.{place_alike}
use Rattle.shelf_files.specs.Halts.{Comes, done}
use Rattle.shelf_files.specs.declared.halt.Halt.{Halt}
use Rattle.shelf_files.specs.declared.halt.Halt.TheVariants.{Refused, ShelfFault, OutOfMemory}
use Rattle.shelf_files.specs.declared.refusal.Refusal.{Refusal}
use Rattle.shelf_files.specs.declared.refusal.Refusal.TheVariants.{NoConference}
use Rattle.cmd_adopt.proofs.AdoptAlike.{adopting_alike}
use Rattle.cmd_adopt.specs.Adopt.{adopt_at, adopt_turn, adopts, base_turn}
use Rattle.cmd_adopt.specs.Adopting.{MayAdopt, TakesOver}
use Rattle.cmd_adopt.specs.BaseFiles.{base_of}
use Rattle.cmd_adopt.specs.declared.adopting.Adopting.{Adopting}

-- the turns of an adoption
abbrev pub Turns : ℕ → List ℕ → Shelf.ShelfFiles → Option Board → Turn → Type 0
Turns conference prefix files board turn = turn ≡ adopt_turn conference prefix files board

-- what is said is the text that is answered
abbrev pub said : List ℕ → List ℕ
said text = text

module _ (conference : ℕ) (prefix : List ℕ) (shelf : Shelf.ShelfFiles) (b : Board) where
  pub unplaced : place_of conference b ≡ None → Turns conference prefix shelf (Some b) (refuses NoConference (Some b))
  unplaced none = sym (ap (adopt_at conference prefix shelf b) none)

  pub placed : (place : ℕ) → place_of conference b ≡ Some place → (read : Result (List Found) Refusal) → read ≡ base_of shelf prefix → (turn : Turn) → turn ≡ base_turn conference place b read → Turns conference prefix shelf (Some b) turn
  placed place is read read_is turn turn_is = turn_is ∙ (ap (base_turn conference place b) read_is ∙ sym (ap (adopt_at conference prefix shelf b) is))

module _ (conference : ℕ) (prefix : List ℕ) {world : World State} {old mid : Disk} {shelf later : Shelf.ShelfFiles} (at : IsAt Stores world old shelf) (kept : Option Board)
    (finds : Finds Stores world.state (migrated world.state) old mid (Ok (tt {0}))) (found : IsOutlined (migrated world.state) kept) (b : Board) (kept_is : kept ≡ Some b) (place : ℕ) (place_is : place_of conference b ≡ Some place) (same : later ≡ shelf) where
  -- a file of the base is refused, or couldn't be read
  pub no_base : (halt : Halt) → Comes {Value = List Found} (Err halt) (λ read. read ≡ base_of shelf prefix) → Works Stores (adopts conference prefix) world old mid later (told said (Err (of_shelf halt)))
  no_base (Refused why) comes = works_same Stores (adopts conference prefix) same
      (refused_on (Turns conference prefix) at kept finds found said b why (board_halt.Refused why) kept_is refl
      (λ real valid alike. placed conference prefix shelf real place (place_alike real b alike conference ∙ place_is) (Err why) comes (refuses why (Some real)) refl))
  no_base ShelfFault comes = works_same Stores (adopts conference prefix) same (shelf_fails (Turns conference prefix) at finds)
  no_base OutOfMemory comes = works_same Stores (adopts conference prefix) same (starved (Turns conference prefix) at finds)

  module _ (records : List Found) (read : Ok records ≡ base_of shelf prefix) where
    -- there is no memory for what becomes of the records
    pub unprepared : (e : BoardHalt) → MayAdopt conference place records b (Err e) → Works Stores (adopts conference prefix) world old mid later (told said (Err e))
    unprepared = stops_by (λ (e : BoardHalt). Works Stores (adopts conference prefix) world old mid later (told said (Err e)))
        (λ why may. absurd may) (works_same Stores (adopts conference prefix) same (starved (Turns conference prefix) at finds))

    module _ (a : Adopting) (may : MayAdopt conference place records b (Ok a)) (change : TakesOver conference place records b a) where
      takes : (real : Board) → IsBoard real → AreAlike real b → Turns conference prefix shelf (Some real) (carried a.change real a.reply)
      takes real valid alike =
          placed conference prefix shelf real place (place_alike real b alike conference ∙ place_is) (Ok records) read (carried a.change real a.reply) (sym (adopting_alike real b alike conference place records a.change a.reply change may.1))

      pub adopted : {new : Disk} {T E : Type 0} {value : T} → ((r : Board) → Stores (Made r) (recovered mid.files) → Changes Stores {E = E} (Made r) (Made (changed a.change r)) mid new (Ok value)) → Works Stores (adopts conference prefix) world old new later (Ok (done a.reply))
      adopted changes = works_same Stores (adopts conference prefix) same (changed_by (Turns conference prefix) at kept finds found b kept_is a.change a.reply takes changes)

      pub unadopted : {new : Disk} {T : Type 0} (error : JournalError) → ((r : Board) → Stores (Made r) (recovered mid.files) → Changes Stores {T = T} (Made r) (Made (changed a.change r)) mid new (Err error)) → (error ≡ Starved → Unchanged mid new)
          → Works Stores (adopts conference prefix) world old new later (told said (Err (of_journal error)))
      unadopted error changes still = works_same Stores (adopts conference prefix) same (unchanged_by (Turns conference prefix) at kept finds found b kept_is a.change a.reply takes said error changes still)
