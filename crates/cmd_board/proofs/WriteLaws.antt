-- A command that looks for the board and makes one change of it, which posts messages, writes no more than it may.
use Rattle.std.proofs.Common.{◌≡◌, ◌≢◌, ℕ, ◌+◌, ◌≤◌, List, [], ◌∷◌, Option, Some, Ok, refl, sym, ◌∙◌, ap, subst, arith}
use Rattle.std.specs.Prelude.{◌==◌, if◌then◌else◌}
use Rattle.std.proofs.lemmas.Bool.{cond-false, ne_eqb}
use Rattle.door_outside.specs.Disk.{Disk}
use Rattle.door_outside.specs.Shelf as Shelf
use Rattle.entry_runs.specs.Door.{Act, World, here}
use Rattle.entry_runs.specs.Entry.{Changes, Finds}
use Rattle.entry_runs.specs.Runs.{Stepped}
use Rattle.intent_journal.specs.Journal.{IsClosed, intent_of, open_patches}
use Rattle.intent_journal.specs.Patches.{HostFiles, are_within, byte_count}
use Rattle.intent_journal.specs.Recovered.{recovered}
use Rattle.intent_journal.specs.declared.recovery.JournalError.{JournalError}
use Rattle.intent_journal.specs.declared.recovery.JournalError.TheVariants as journal
use Rattle.board_layout.specs.Board.{Board}
use Rattle.board_layout.specs.Layout.{board_size}
use Rattle.board_layout.specs.Valid.{IsBoard}
use Rattle.mail_board.proofs.EachBound.{bound_alike}
use Rattle.mail_board.proofs.EachNext.{changed_alike}
use Rattle.mail_board.specs.Changes.{changed}
use Rattle.mail_board.specs.Held.{AreAlike}
use Rattle.mail_board.specs.Loading.{AreOld}
use Rattle.mail_board.specs.Written.{KeepsBoundOf, slot_total}
use Rattle.mail_board.specs.declared.change.Change.{Change}
use Rattle.cmd_board.proofs.BoardActs.{AreTurns}
use Rattle.cmd_board.proofs.LikeLaws.{real_stored, some_outlined}
use Rattle.cmd_board.proofs.StateLaws.{one_state}
use Rattle.cmd_board.specs.Halts.{of_journal}
use Rattle.cmd_board.specs.Kept.{IsOutlined}
use Rattle.cmd_board.specs.State.{State, NotMade, Made, Old, Spoiled, Stores, migrated, state_of}
use Rattle.cmd_board.specs.Turns.{Turn, on_board}
use Rattle.cmd_board.specs.declared.halt.BoardHalt.TheVariants as halt
use Rattle.cmd_board.specs.WriteBound.{FilesKeepBound, KeepsWriteBound, WritesWithin, size_of_board, slots_of_board}

-- behind a closed gate there is nothing to carry out
closed_patches : (journal : List ℕ) → IsClosed journal → open_patches journal ≡ []
closed_patches [] closed = refl
closed_patches (gate ∷ body) closed =
    let shut : gate ≢ 79 = λ is. closed (ap (λ (x : ℕ). x ∷ []) is) in
    cond-false (gate == 79) _ _ (ne_eqb gate 79 shut)

intent_closed : (files : HostFiles) → IsClosed (files 1) → intent_of files ≡ []
intent_closed files closed = λ i. if are_within (closed_patches (files 1) closed i) files then closed_patches (files 1) closed i else []

pub closed_found : (old : Disk) (now : ℕ) → IsClosed (old.files 1) → now ≤ old.wrote + byte_count (intent_of old.files) + 1 → now ≤ old.wrote + 1
closed_found old now closed found = omega (arith, found, ap byte_count (intent_closed old.files closed))

-- files that stand for a state that isn't to be migrated aren't those of a board in version 1
not_old : (state : State) (files : HostFiles) → Stores state files → migrated state ≡ state → ¬ AreOld files
not_old state files stores today old =
    let is : state ≡ Old old.board = one_state files state (Old old.board) stores (old.valid, old.layout) in
    let never : Made old.board ≡ Old old.board = sym (ap migrated is) ∙ (today ∙ is) in
    absurd (cc never)

-- what a call wrote that looked for the board
abbrev pub WritesFound : Disk → ℕ → Type 0
WritesFound old now = ¬ AreOld (recovered old.files) → now ≤ old.wrote + byte_count (intent_of old.files) + 1

-- only the board was looked for
pub found_within : (act : Act State) (old new : Disk) (shelf : Shelf.ShelfFiles) → IsClosed (old.files 1) → WritesFound old new.wrote → KeepsWriteBound act old new shelf
found_within act old new shelf closed found state stores today stepped step =
    omega (arith, closed_found old new.wrote closed (found (not_old state (recovered old.files) stores today)))

-- A turn was to make a change that keeps the bound of its board and the next.
module _ (turns : Shelf.ShelfFiles → Option Board → Turn → Type 0) (laws : AreTurns turns) (old mid new : Disk) (shelf : Shelf.ShelfFiles) (closed : IsClosed (old.files 1)) (found : WritesFound old mid.wrote) where
  next_is : (b next : Board) (turn : Turn) → turns shelf (Some b) turn → turn.board ≡ Some next → (stepped : Stepped (World State)) → (on_board turns).Step (here (Made b) shelf) stepped → stepped.world.state ≡ Made next
  next_is b next turn takes is stepped step = step.1.2 ∙ ap state_of (ap (λ (t : Turn). t.board) (laws.one_turn shelf (Some b) step.1.0 turn step.1.1 takes) ∙ is)

  of_made : (b next : Board) (turn : Turn) → turns shelf (Some b) turn → turn.board ≡ Some next → KeepsBoundOf b next mid.wrote new.wrote → ¬ AreOld (recovered old.files)
      → (stepped : Stepped (World State)) → (on_board turns).Step (here (Made b) shelf) stepped → WritesWithin (Made b) stepped.world.state old.wrote new.wrote
  of_made b next turn takes is kept today stepped step =
      subst (λ (end : State). WritesWithin (Made b) end old.wrote new.wrote) (sym (next_is b next turn takes is stepped step)) (omega (arith, kept, closed_found old mid.wrote closed (found today)))

  -- whichever board has the outline of the one that is kept, the turn is taken on it
  pub turned_within : (kept : Option Board) → ((state : State) → Stores state (recovered old.files) → IsOutlined (migrated state) kept) → (b : Board) → kept ≡ Some b → (next : Board → Board) → ((real : Board) → AreAlike real b → AreAlike (next real) (next b))
      → (turn : Board → Turn) → ((real : Board) → IsBoard real → AreAlike real b → turns shelf (Some real) (turn real) × ((turn real).board ≡ Some (next real))) → KeepsBoundOf b (next b) mid.wrote new.wrote → KeepsWriteBound (on_board turns) old new shelf
  turned_within kept stands b some next each turn takes bound state stores today =
      let real = some_outlined (migrated state) kept b some (stands state stores) in
      let made : state ≡ Made real.board = sym today ∙ real.is in
      let one = takes real.board real.valid real.alike in
      subst (λ (s : State). (stepped : Stepped (World State)) → (on_board turns).Step (here s shelf) stepped → WritesWithin s stepped.world.state old.wrote new.wrote) (sym made)
      (of_made real.board (next real.board) (turn real.board) one.0 one.1 (bound_alike real.board b (next real.board) (next b) mid.wrote new.wrote real.alike (each real.board real.alike) bound) (not_old state (recovered old.files) stores today))

-- ---- whatever the shelf holds
size_migrated : (s : State) → size_of_board (migrated s) ≡ size_of_board s
size_migrated NotMade = refl
size_migrated (Made b) = refl
size_migrated (Old b) = refl
size_migrated (Spoiled held) = refl

slots_migrated : (s : State) → slots_of_board (migrated s) ≡ slots_of_board s
slots_migrated NotMade = refl
slots_migrated (Made b) = refl
slots_migrated (Old b) = refl
slots_migrated (Spoiled held) = refl

module _ (old : Disk) (closed : IsClosed (old.files 1)) where
  -- only the board was looked for
  pub found_bound : (new : Disk) → WritesFound old new.wrote → FilesKeepBound old new
  found_bound new found state next stores today after =
      omega (arith, closed_found old new.wrote closed (found (not_old state (recovered old.files) stores today)))

  -- where memory ran out, nothing was written behind that
  pub unmade_bound : (mid new : Disk) (e : JournalError) → of_journal e ≢ halt.DiskFault → (e ≡ journal.OutOfMemory → new.wrote ≡ mid.wrote) → WritesFound old mid.wrote → FilesKeepBound old new
  unmade_bound mid new journal.DiskFault sound same found = absurd (sound refl)
  unmade_bound mid new journal.OutOfMemory sound same found = found_bound new (subst (WritesFound old) (sym (same refl)) found)

  module _ (mid new : Disk) (found : WritesFound old mid.wrote) (kept : Option Board) (stands : (state : State) → Stores state (recovered old.files) → IsOutlined (migrated state) kept) (b : Board) (kept_is : kept ≡ Some b) where
    -- a board with this outline came after the one that was kept, by what keeps the bound
    to_next : (next_b : Board) → KeepsBoundOf b next_b mid.wrote new.wrote → (state : State) → Stores state (recovered old.files) → migrated state ≡ state → (n : State) (c : Board) → migrated n ≡ Made c → AreAlike c next_b → WritesWithin state n old.wrote new.wrote
    to_next next_b bound state stores today n c is alike =
        let real = some_outlined (migrated state) kept b kept_is (stands state stores) in
        let made : state ≡ Made real.board = sym today ∙ real.is in
        let few = bound_alike real.board b c next_b mid.wrote new.wrote real.alike alike bound in
        let size : size_of_board n ≡ board_size c = sym (size_migrated n) ∙ ap size_of_board is in
        let slots : slots_of_board n ≡ slot_total c = sym (slots_migrated n) ∙ ap slots_of_board is in
        subst (λ (s : State). WritesWithin s n old.wrote new.wrote) (sym made)
        (omega (arith, few, size, slots, closed_found old mid.wrote closed (found (not_old state (recovered old.files) stores today))))

    -- the board that is kept then stands for what the files do
    pub kept_bound : (after : Option Board) → ((next : State) → Stores next (recovered new.files) → IsOutlined (migrated next) after) → (c : Board) → after ≡ Some c → KeepsBoundOf b c mid.wrote new.wrote → FilesKeepBound old new
    kept_bound after ends c after_is bound state next stores today reached =
        let real = some_outlined (migrated next) after c after_is (ends next reached) in
        to_next c bound state stores today next real.board real.is real.alike

    -- a change was made of whichever board has the outline of the one that is kept
    pub changed_bound : {T E : Type 0} {value : T} (change : Change) → ((state : State) → Stores state (recovered old.files) → Finds Stores state (migrated state) old mid (Ok (tt {0})))
        → ((real : Board) → Stores (Made real) (recovered mid.files) → Changes Stores {E = E} (Made real) (Made (changed change real)) mid new (Ok value))
        → KeepsBoundOf b (changed change b) mid.wrote new.wrote → FilesKeepBound old new
    changed_bound change finds changes bound state next stores today reached =
        let real = some_outlined (migrated state) kept b kept_is (stands state stores) in
        let made = (changes real.board (real_stored (finds state stores) real.board real.is)).done.0.stores in
        let end : next ≡ Made (changed change real.board) = one_state (recovered new.files) next (Made (changed change real.board)) reached made in
        to_next (changed change b) bound state stores today next (changed change real.board) (ap migrated end) (changed_alike real.board b real.alike change)
