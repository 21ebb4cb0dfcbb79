-- The exits of a command over the board and the shelf, one lemma each: what it leaves of its host, whatever the shelf holds.
use Rattle.std.proofs.Common.{◌≡◌, inl, Option, Some, None, Result, Ok, Err, refl, sym, subst}
use Rattle.board_layout.specs.declared.error.ReadError.{ReadError}
use Rattle.board_layout.specs.declared.error.ReadError.TheVariants as read
use Rattle.door_outside.specs.Disk.{Disk}
use Rattle.entry_runs.specs.Entry.{Finds}
use Rattle.entry_runs.specs.declared.class.Class.TheVariants as classes
use Rattle.entry_runs.specs.declared.stop.Stop.TheVariants as stops
use Rattle.intent_journal.proofs.Hosts.{calm_is_firm, calm_recovers}
use Rattle.intent_journal.specs.Hosts.{IsFirm}
use Rattle.intent_journal.specs.Patches.{HostFiles, data_files}
use Rattle.intent_journal.specs.Recovered.{recovered}
use Rattle.intent_journal.specs.declared.recovery.JournalError.{JournalError}
use Rattle.intent_journal.specs.declared.recovery.JournalError.TheVariants as journal
use Rattle.mail_board.specs.Loading.{StandsIn}
use Rattle.mail_board.specs.declared.loading.Loaded.{Loaded}
use Rattle.mail_board.specs.declared.loading.Loaded.TheVariants.{NotMade, Ready}
use Rattle.shelf_files.specs.declared.halt.Halt.{Halt}
use Rattle.shelf_files.specs.declared.halt.Halt.TheVariants as halt
use Rattle.shelf_files.specs.declared.refusal.Refusal.{Refusal}
use Rattle.cmd_board.specs.Halts.{StopsBy, halt_of_read, of_journal, of_shelf}
use Rattle.cmd_board.specs.Keeping.{KeepsFiles, went, went_halted}
use Rattle.cmd_board.specs.Kept.{IsBoardRead, IsKept, IsStateFound, found}
use Rattle.cmd_board.specs.State.{AreSpoiled, State, Spoiled, Stores, migrated}
use Rattle.cmd_board.specs.declared.halt.BoardHalt.{BoardHalt}
use Rattle.cmd_board.specs.declared.halt.BoardHalt.TheVariants.{Refused, Damaged, DiskFault, ShelfFault, OutOfMemory}
use Rattle.cmd_board.proofs.FindLaws.{kept_calm, kept_stands, stands_in_data}
use Rattle.cmd_board.proofs.StateLaws.{some_state}

-- ---- a host that holds a board, or none
pub record IsSound (disk : Disk) : Type 0 where
  pub firm : IsFirm disk
  pub unspoiled : ¬ AreSpoiled (recovered disk.files)

stands_unspoiled : (loaded : Loaded) (files : HostFiles) → StandsIn files loaded → ¬ AreSpoiled files
stands_unspoiled NotMade files stands spoiled = spoiled.some stands
stands_unspoiled (Ready held) files stands spoiled = spoiled.other stands.board stands.valid (inl stands.layout)

-- where the board was read, or that there is none
pub read_sound : (kept : Option Loaded) (disk : Disk) → IsBoardRead kept → IsKept kept disk → IsSound disk
read_sound None disk was_read is = absurd was_read
read_sound (Some loaded) disk was_read is =
    let calm = kept_calm loaded disk is in
    record {
      firm = calm_is_firm disk calm;
      unspoiled = λ spoiled. stands_unspoiled loaded (data_files disk.files) (stands_in_data loaded disk.files (kept_stands loaded disk is)) (subst AreSpoiled (calm_recovers disk calm) spoiled);
    }

-- ---- what each answer leaves
module _ {old new : Disk} where
  pub value_keeps : IsSound new → KeepsFiles old new (Ok classes.Done)
  value_keeps sound = record { firm = λ other before. sound.firm; rests = λ done. sound.firm; still_spoiled = λ after. absurd (sound.unspoiled after); only_spoiled = λ damaged. absurd (cc damaged) }

  pub refused_keeps : IsSound new → KeepsFiles old new (Ok classes.Refused)
  refused_keeps sound = record { firm = λ other before. sound.firm; rests = λ done. sound.firm; still_spoiled = λ after. absurd (sound.unspoiled after); only_spoiled = λ damaged. absurd (cc damaged) }

  damaged_keeps : IsFirm new → AreSpoiled (recovered old.files) → KeepsFiles old new (Ok classes.Damaged)
  damaged_keeps firm spoiled = record { firm = λ other before. firm; rests = λ done. firm; still_spoiled = λ after. spoiled; only_spoiled = λ damaged. spoiled }

  pub starved_keeps : (IsFirm old → IsFirm new) → KeepsFiles old new (Err stops.OutOfMemory)
  starved_keeps firm = record { firm = λ other before. firm before; rests = λ done. absurd done; still_spoiled = tt; only_spoiled = tt }

  pub shelf_keeps : IsFirm new → KeepsFiles old new (Err stops.ShelfFault)
  shelf_keeps firm = record { firm = λ other before. firm; rests = λ done. absurd done; still_spoiled = tt; only_spoiled = tt }

  pub fault_keeps : KeepsFiles old new (Err stops.DiskFault)
  fault_keeps = record { firm = λ sound before. absurd (sound refl); rests = λ done. absurd done; still_spoiled = tt; only_spoiled = tt }

-- ---- exits
spoiled_is : (s : State) (held files : HostFiles) → s ≡ Spoiled held → Stores s files → AreSpoiled files
spoiled_is s held files is stores = (subst (λ (state : State). Stores state files) is stores).1

module _ {old new : Disk} where
  pub keeps_as : {Value : Type 0} {result other : Result Value BoardHalt} → result ≡ other → KeepsFiles old new (went other) → KeepsFiles old new (went result)
  keeps_as {Value} is keeps = subst (λ (r : Result Value BoardHalt). KeepsFiles old new (went r)) (sym is) keeps

  -- the board wasn't read, or there is damage
  pub unfound_keeps : (kept : Option Loaded) (e : ReadError) → ((s : State) → Stores s (recovered old.files) → Finds Stores s (migrated s) old new (found (Err e)))
      → ((s : State) → Stores s (recovered old.files) → IsStateFound s kept (Err e)) → KeepsFiles old new (went_halted (halt_of_read e))
  unfound_keeps kept (read.Damaged d) finds is =
      let start = some_state (recovered old.files) in
      let damage = is start.0 start.1 in
      damaged_keeps (finds start.0 start.1).done.1 (spoiled_is start.0 damage.0 (recovered old.files) damage.1 start.1)
  unfound_keeps kept read.DiskFault finds is = fault_keeps
  unfound_keeps kept read.OutOfMemory finds is =
      let start = some_state (recovered old.files) in
      starved_keeps ((finds start.0 start.1).firm (λ fault. absurd (cc fault)))

  -- the command was refused
  pub refused_as : (e : BoardHalt) (why : Refusal) → e ≡ Refused why → IsSound new → KeepsFiles old new (went_halted e)
  refused_as e why is sound = subst (λ (halt : BoardHalt). KeepsFiles old new (went_halted halt)) (sym is) (refused_keeps sound)

  -- a file of the shelf was refused or not read
  pub unopened_keeps : (e : Halt) → IsSound new → KeepsFiles old new (went_halted (of_shelf e))
  unopened_keeps (halt.Refused why) sound = refused_keeps sound
  unopened_keeps halt.ShelfFault sound = shelf_keeps sound.firm
  unopened_keeps halt.OutOfMemory sound = starved_keeps (λ before. sound.firm)

  -- the command was refused, or memory ran out
  pub stopped_keeps : (Why : Refusal → Type 0) (e : BoardHalt) → StopsBy Why e → IsSound new → KeepsFiles old new (went_halted e)
  stopped_keeps Why (Refused why) stops sound = refused_keeps sound
  stopped_keeps Why OutOfMemory stops sound = starved_keeps (λ before. sound.firm)
  stopped_keeps Why (Damaged d) stops sound = absurd stops
  stopped_keeps Why DiskFault stops sound = absurd stops
  stopped_keeps Why ShelfFault stops sound = absurd stops

  -- the change wasn't made
  pub unmade_keeps : (e : JournalError) → (e ≡ journal.OutOfMemory → IsFirm new) → KeepsFiles old new (went_halted (of_journal e))
  unmade_keeps journal.DiskFault firm = fault_keeps
  unmade_keeps journal.OutOfMemory firm = starved_keeps (λ before. firm refl)
