-- The change and the turn of an import, from what was looked at one by one.
use Rattle.std.proofs.Common.{◌≡◌, ℕ, ◌+◌, ◌^◌, ◌<◌, ◌≤◌, Bool, true, false, ltb, List, [], ◌∷◌, length, Option, Some, None, Ok, refl, sym, ◌∙◌, ap, subst}
use Rattle.std.proofs.lemmas.Bool.{ltb-false}
use Rattle.std.specs.Prelude.{All}
use Rattle.cmd_board.specs.Enroll.{first_refusal}
use Rattle.cmd_board.specs.Turns.{refuses}
use Rattle.board_layout.specs.Board.{Board}
use Rattle.board_layout.specs.Layout.{board_size}
use Rattle.board_layout.specs.Valid.{IsBoard, board_limit}
use Rattle.import_sheet.specs.declared.sheet.Sheet.{Sheet}
use Rattle.jam_records.specs.declared.message.Message.{Message}
use Rattle.cmd_board.specs.mail_board.Changes.{Fits}
use Rattle.cmd_board.specs.mail_board.declared.change.Change.TheVariants.{Append}
use Rattle.cmd_board.specs.shelf_files.Sheets.{AreSheets}
use Rattle.cmd_board.specs.shelf_files.declared.refusal.Refusal.{Refusal}
use Rattle.cmd_board.specs.shelf_files.declared.refusal.Refusal.TheVariants.{Slots, Size}
use Rattle.post_changes.specs.slot_changes.Changed.{appended}
use Rattle.jam_layout.specs.Limits.{slot_limit}
use Rattle.jam_layout.specs.Messages.{IsTyped}
use Rattle.post_changes.specs.slot_changes.Values.{MayHold}
use Rattle.cmd_messages.proofs.EntryLaws.{entries_hold}
use Rattle.cmd_board.proofs.ChangeExits.{carried}
use Rattle.cmd_messages.proofs.FitLaws.{append_fits, append_short}
use Rattle.cmd_board.specs.Places.{kind_of_place, slot_count}
use Rattle.cmd_messages.specs.Import.{append_turn, appending, import_refusals, imported_line, imported_messages, sheet_turn}

-- ---- two refusals
first_of : (one other : Bool) (why later : Refusal) (found : Refusal) → first_refusal ((one, why) ∷ []) ≡ Some found → first_refusal ((one, why) ∷ (other, later) ∷ []) ≡ Some found
first_of true other why later found is = is
first_of false other why later found is = absurd (cc is)

second_of : (one other : Bool) (why later : Refusal) (found : Option Refusal) → first_refusal ((one, why) ∷ []) ≡ None → first_refusal ((other, later) ∷ []) ≡ found → first_refusal ((one, why) ∷ (other, later) ∷ []) ≡ found
second_of true other why later found none is = absurd (cc none)
second_of false other why later found none is = is

unrefused : (one : Bool) (why : Refusal) → first_refusal ((one, why) ∷ []) ≡ None → one ≡ false
unrefused true why none = absurd (cc none)
unrefused false why none = refl

-- ---- what was looked at
-- the slots of the conference with the messages, and the size of the files then, were found so
abbrev pub SlotsTold : ℕ → Board → List Message → Option Refusal → Type 0
SlotsTold place b messages found = first_refusal ((ltb slot_limit (slot_count place b + length messages), Slots (slot_count place b + length messages)) ∷ []) ≡ found

abbrev pub SizeTold : ℕ → Board → List Message → Option Refusal → Type 0
SizeTold place b messages found = first_refusal ((ltb board_limit (board_size (appended place messages b)), Size (board_size (appended place messages b))) ∷ []) ≡ found

few_slots : (place : ℕ) (b : Board) (messages : List Message) → SlotsTold place b messages None → slot_count place b + length messages ≤ slot_limit
few_slots place b messages none = ltb-false slot_limit (slot_count place b + length messages) (unrefused (ltb slot_limit (slot_count place b + length messages)) (Slots (slot_count place b + length messages)) none)

short_files : (place : ℕ) (b : Board) (messages : List Message) → SizeTold place b messages None → board_size (appended place messages b) ≤ board_limit
short_files place b messages none =
    let size : ℕ = board_size (appended place messages b) in
    ltb-false board_limit size (unrefused (ltb board_limit size) (Size size) none)

module _ (now place : ℕ) (b : Board) (entries : List Sheet) (messages : List Message) (made : messages ≡ imported_messages now place b entries) where
  -- ---- the change
  module _ (ok : IsBoard b) (within : place < length b.conferences) (read : AreSheets entries) (typed : All IsTyped messages) (few : SlotsTold place b messages None) where
    may : All (MayHold (kind_of_place place b)) messages
    may = subst (All (MayHold (kind_of_place place b))) (sym made) (entries_hold (kind_of_place place b) now entries read (subst (All IsTyped) made typed))

    pub import_short : board_size (appended place messages b) < 2 ^ 64
    import_short = append_short b place messages ok within may (few_slots place b messages few)

    pub import_fits : SizeTold place b messages None → Fits (Append place messages) b
    import_fits short = (within, append_fits b place messages ok within may (few_slots place b messages few) (short_files place b messages short))

  -- ---- the turn
  module _ (conference : ℕ) where
    turn_of : (found : Option Refusal) → first_refusal (import_refusals place messages b) ≡ found → sheet_turn conference now place b (Ok entries) ≡ appending conference place messages b found
    turn_of found is = ap (λ (ms : List Message). append_turn conference place ms b) (sym made) ∙ ap (appending conference place messages b) is

    pub slots_refuse : (why : Refusal) → SlotsTold place b messages (Some why) → sheet_turn conference now place b (Ok entries) ≡ refuses why (Some b)
    slots_refuse why is = turn_of (Some why) (first_of _ _ _ _ why is)

    pub size_refuses : (why : Refusal) → SlotsTold place b messages None → SizeTold place b messages (Some why) → sheet_turn conference now place b (Ok entries) ≡ refuses why (Some b)
    size_refuses why few is = turn_of (Some why) (second_of _ _ _ _ (Some why) few is)

    pub appends : (count : ℕ) → count ≡ length messages → SlotsTold place b messages None → SizeTold place b messages None → sheet_turn conference now place b (Ok entries) ≡ carried (Append place messages) b (imported_line conference count)
    appends count counted few short = turn_of None (second_of _ _ _ _ None few short) ∙ ap (λ (n : ℕ). carried (Append place messages) b (imported_line conference n)) (sym counted)
