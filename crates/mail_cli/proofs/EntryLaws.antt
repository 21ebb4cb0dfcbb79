-- Every entry is lawful, answers damage on no files but those that are no board's, and migrates the board in the one way.
use Rattle.std.proofs.Common.{◌≡◌, ◌≢◌, ℕ, [], Option, refl, sym, subst}
use Rattle.std.specs.Prelude.{IsTrue}
use Rattle.std.proofs.lemmas.Bool.{true≢false}
use Rattle.board_laws.proofs.cmd_adopt.AdoptActs.{adopt_turns}
use Rattle.board_layout.specs.Board.{Board}
use Rattle.door_outside.specs.Shelf as Shelf
use Rattle.entry_runs.specs.Door.{Act, AreLawful, IsLawful}
use Rattle.entry_runs.proofs.ShelfLaws.{IsLawfulOnShelf, lawful_look, lawful_on_shelf, lawful_saying}
use Rattle.entry_runs.specs.Entry.{ShelfAct, on_shelf}
use Rattle.board_laws.proofs.cmd_exchange.ExportActs.{ack_turns, keeps_exports, lawful_exports}
use Rattle.board_laws.proofs.cmd_messages.MessageActs.{import_turns, kill_turns}
use Rattle.board_laws.proofs.cmd_pack.PackActs.{pack_turns}
use Rattle.cmd_packets.proofs.PacketLaws.{lawful_lists, lawful_reads, lawful_scans, lawful_shows}
use Rattle.cmd_packets.specs.List.{lists}
use Rattle.cmd_packets.specs.Read.{reads, shows}
use Rattle.cmd_packets.specs.Scan.{scans}
use Rattle.cmd_replies.proofs.ReplyLaws.{lawful_composes, lawful_replies}
use Rattle.cmd_replies.specs.Compose.{composes}
use Rattle.cmd_replies.specs.Reply.{replies}
use Rattle.board_laws.proofs.cmd_messages.SampleActs.{sample_turns}
use Rattle.cmd_board.proofs.shelf_files.Replies.{some_refusal}
use Rattle.cmd_board.specs.shelf_files.Halts.{refused}
use Rattle.board_laws.proofs.cmd_exchange.UploadActs.{upload_turns}
use Rattle.board_laws.proofs.cmd_toss.TossActs.{toss_turns}
use Rattle.cmd_entries.specs.Answers.{usage, usage_line}
use Rattle.cmd_board.proofs.BoardActs.{AreTurns, KeepsState, check_turns, enroll_turns, init_turns, keeps_state, lawful_on_board}
use Rattle.cmd_board.specs.State.{State, IsSpoiled, migrated}
use Rattle.cmd_board.specs.Turns.{Turn, on_board}
use Rattle.mail_cli.specs.Step.{act, says, door, nothing}
use Rattle.cmd_entries.specs.declared.command.Command.TheVariants as command
use Rattle.cmd_entries.specs.declared.entry.Entry.{Entry}
use Rattle.cmd_entries.specs.declared.entry.Entry.TheVariants.{Run, Wrong, Refuse}
use Rattle.cmd_entries.specs.declared.entry.Usage.{Usage}
use Rattle.cmd_entries.specs.declared.entry.Usage.TheVariants.{Words, Line}

some_usage : (words : Usage) → usage_line words ≢ []
some_usage Words is = absurd (cc is)
some_usage (Line line) is = absurd (cc is)

lawful_nothing : IsLawfulOnShelf nothing
lawful_nothing = lawful_look _ (λ shelf answer is. absurd is) (λ shelf answer is. absurd is) (λ shelf one other is. absurd is)

-- all that a run takes of an entry
record Suits (act : Act State) : Type 0 where
  pub lawful : IsLawful act
  -- damage is answered on spoiled files alone, and none spoils them
  pub keeps : KeepsState act
  -- it migrates the board in the one way, where it touches it
  pub migrates : (state : State) → IsTrue act.reach.board → act.migrated state ≡ migrated state

-- a command that reaches the board alone
by_turns : {turns : Shelf.ShelfFiles → Option Board → Turn → Type 0} → AreTurns turns → Suits (on_board turns)
by_turns {turns = turns} laws = record { lawful = lawful_on_board turns laws; keeps = keeps_state turns laws; migrates = λ state on. refl }

-- a command that reaches the shelf alone leaves the state, and answers no damage
by_shelf : (shelf_act : ShelfAct) → IsLawfulOnShelf shelf_act → Suits (on_shelf shelf_act)
by_shelf shelf_act laws = record {
  lawful = lawful_on_shelf shelf_act laws;
  keeps = record {
    only_spoiled = λ world stepped step damaged. absurd (true≢false (sym ((lawful_on_shelf shelf_act laws).damage_of_board world stepped step damaged)));
    still_spoiled = λ world stepped step spoiled. subst IsSpoiled step.1 spoiled;
  };
  migrates = λ state on. absurd (true≢false (sym on));
}

-- one line for each command
suits : (now : ℕ) (entry : Entry) → Suits (act now entry)
suits now (Run (command.Ack user packet)) = by_turns (ack_turns user packet now)
suits now (Run (command.Adopt conference prefix)) = by_turns (adopt_turns conference prefix)
suits now (Run (command.Batch file)) = by_shelf nothing lawful_nothing
suits now (Run command.Check) = by_turns check_turns
suits now (Run (command.Compose folder conference sheet rep)) = by_shelf (composes folder conference sheet rep now) (lawful_composes folder conference sheet rep now)
suits now (Run (command.Enroll name flags conferences)) = by_turns (enroll_turns name flags conferences)
suits now (Run (command.Export user limit folder)) = record { lawful = lawful_exports user limit folder now; keeps = keeps_exports user limit folder now; migrates = λ state on. refl }
suits now (Run (command.Import conference file)) = by_turns (import_turns conference file now)
suits now (Run (command.Init file)) = by_turns (init_turns file now)
suits now (Run (command.Kill conference number)) = by_turns (kill_turns conference number)
suits now (Run (command.Pack conference)) = by_turns (pack_turns conference)
suits now (Run (command.List file)) = by_shelf (lists file) (lawful_lists file)
suits now (Run (command.Read folder)) = by_shelf (reads folder) (lawful_reads folder)
suits now (Run (command.Reply folder place text rep)) = by_shelf (replies folder place text rep now) (lawful_replies folder place text rep now)
suits now (Run (command.Sample seed count)) = by_turns (sample_turns seed count now)
suits now (Run (command.Show folder place)) = by_shelf (shows folder place) (lawful_shows folder place)
suits now (Run (command.Scan file)) = by_shelf (scans file) (lawful_scans file)
suits now (Run (command.Toss file)) = by_turns (toss_turns file now)
suits now (Run (command.Upload user file)) = by_turns (upload_turns user file now)
suits now (Wrong which) = by_shelf (says (usage which)) (lawful_saying (usage which) (some_usage which) (λ is. absurd (cc is)))
suits now (Refuse why) = by_shelf (says (refused why)) (lawful_saying (refused why) (some_refusal why) (λ is. absurd (cc is)))

pub lawful : (now : ℕ) → AreLawful (door now)
lawful now entry = (suits now entry).lawful

pub entry_keeps_state : (now : ℕ) (entry : Entry) → KeepsState (act now entry)
entry_keeps_state now entry = (suits now entry).keeps

-- every entry that touches the board migrates it in the one way
pub one_migration : (now : ℕ) (entry : Entry) (state : State) → IsTrue (act now entry).reach.board → (act now entry).migrated state ≡ migrated state
one_migration now entry state on = (suits now entry).migrates state on
