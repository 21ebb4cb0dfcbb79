-- Messages fit in a place just where the board with them is valid.
use Rattle.std.proofs.Common.{◌≡◌, ℕ, ◌+◌, ◌^◌, ◌<◌, ◌≤◌, List, length, sym, subst, arith}
use Rattle.std.specs.Prelude.{All, slice_get, Some}
use Rattle.board_changes.proofs.OneBase.{all_at}
use Rattle.board_changes.specs.Changed.{base_at}
use Rattle.board_layout.specs.Board.{Board}
use Rattle.board_layout.specs.Layout.{board_size}
use Rattle.board_layout.specs.Valid.{IsBoard, board_limit}
use Rattle.board_layout.specs.jam_base.Contents.{Contents}
use Rattle.jam_layout.specs.Limits.{slot_limit}
use Rattle.jam_layout.specs.Messages.{IsMessage}
use Rattle.jam_records.specs.declared.message.Kind.{Kind}
use Rattle.jam_records.specs.declared.message.Message.{Message}
use Rattle.board_ledger.specs.setup_file.Valid.{IsSetupConference}
use Rattle.board_ledger.specs.setup_file.declared.conference.Conference.{Conference as SetupConference}
use Rattle.slot_changes.proofs.AppendLaws.{appended_board, appended_messages, named}
use Rattle.slot_changes.proofs.MsgidLaws.{generated_is}
use Rattle.slot_changes.proofs.PlaceKinds.{kind_at}
use Rattle.slot_changes.proofs.ValueLaws.{all_held, all_hold}
use Rattle.slot_changes.specs.Changed.{appended}
use Rattle.slot_changes.specs.Msgids.{IsMsgid, all_identified, msgid_in}
use Rattle.slot_changes.specs.Values.{MayHold}

module _ (b : Board) (place : ℕ) (messages : List Message) (base : Contents) (c : SetupConference) (ok : IsBoard b) (here : base_at place b ≡ Some base) (is : slice_get b.ledger.setup.conferences place ≡ Some c) where
  kind : base.shape.kind ≡ c.kind
  kind = kind_at b place base c here is

  ids : (number : ℕ) → number < 10 ^ 5 → IsMsgid (msgid_in place b number)
  ids number few =
      let small = (all_at IsSetupConference b.ledger.setup.conferences place c is ok.ledger.setup.conferences.each).number in
      generated_is _ b.ledger.setup.bbsid number (omega (arith, small, named b place c is)) ok.ledger.setup.bbsid few

  pub fits_then : All (MayHold c.kind) messages → length base.conference.slots + length messages ≤ slot_limit → board_size (appended place messages b) ≤ board_limit → IsBoard (appended place messages b)
  fits_then may few small =
      let all : All (IsMessage c.kind) (all_identified (msgid_in place b) (length base.conference.slots + 1) messages) =
      all_hold c.kind (msgid_in place b) (length base.conference.slots + 1) messages (λ n less. ids n (omega (arith, less, few))) may in
      appended_board b place messages base ok here (subst (λ (k : Kind). All (IsMessage k) (all_identified (msgid_in place b) (length base.conference.slots + 1) messages)) (sym kind) all) few small

  pub then_may : IsBoard (appended place messages b) → All (MayHold c.kind) messages
  then_may next =
      subst (λ (k : Kind). All (MayHold k) messages) kind (all_held base.shape.kind (msgid_in place b) (length base.conference.slots + 1) messages (appended_messages b place messages base ok here next))
