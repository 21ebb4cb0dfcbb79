-- An import is decided alike on boards with one outline.
use Rattle.std.proofs.Common.{◌≡◌, ℕ, ◌+◌, Bool, List, [], ◌∷◌, length, map, Option, Some, None, Ok, refl, sym, ap, ◌∙◌}
use Rattle.std.specs.Prelude.{nat_lt}
use Rattle.cmd_board.proofs.LikeTurns.{deciding, decided_on, refuses_on}
use Rattle.cmd_board.specs.Enroll.{first_refusal}
use Rattle.cmd_board.specs.Turns.{refuses}
use Rattle.board_layout.proofs.OneOutline.{alike_size}
use Rattle.board_layout.specs.Board.{Board}
use Rattle.board_layout.specs.Valid.{board_limit}
use Rattle.import_sheet.specs.declared.sheet.Sheet.{Sheet}
use Rattle.jam_layout.specs.Limits.{slot_limit}
use Rattle.jam_records.specs.declared.message.Kind.{Kind}
use Rattle.jam_records.specs.declared.message.Message.{Message}
use Rattle.cmd_board.proofs.mail_board.EachNext.{changed_alike}
use Rattle.cmd_board.specs.mail_board.Changes.{changed}
use Rattle.cmd_board.specs.mail_board.Held.{AreAlike}
use Rattle.cmd_board.specs.mail_board.declared.change.Change.{Change}
use Rattle.cmd_board.specs.mail_board.declared.change.Change.TheVariants.{Append}
use Rattle.cmd_board.specs.shelf_files.declared.refusal.Refusal.{Refusal}
use Rattle.cmd_board.specs.shelf_files.declared.refusal.Refusal.TheVariants.{Slots, Size}
use Rattle.post_changes.specs.slot_changes.Changed.{appended}
use Rattle.cmd_board.proofs.ChangeExits.{carried}
use Rattle.cmd_board.proofs.PlaceAlike.{count_alike, kind_alike}
use Rattle.cmd_messages.specs.Import.{append_turn, appending, import_refusals, imported_line, imported_message, imported_messages, sheet_turn}

-- ---- messages appended in a place
-- the refusals, by how many slots there are and the size of the next board
abbrev refusals_by : ℕ → ℕ → ℕ → List (Bool × Refusal)
refusals_by count more size = (nat_lt slot_limit (count + more), Slots (count + more)) ∷ (nat_lt board_limit size, Size size) ∷ []

module _ (conference place : ℕ) (messages : List Message) where
  line : List ℕ
  line = imported_line conference (length messages)

  decides : (b : Board) (found : Option Refusal) → appending conference place messages b found ≡ deciding (appended place messages) line b found
  unfolding line
  decides b None = refl
  decides b (Some why) = refl

  module _ (a b : Board) (alike : AreAlike a b) where
    first_same : first_refusal (import_refusals place messages a) ≡ first_refusal (import_refusals place messages b)
    first_same = λ i. first_refusal (refusals_by (count_alike a b alike place i) (length messages) (alike_size (appended place messages a) (appended place messages b) (changed_alike a b alike (Append place messages)) i))

    -- the turn of the one by the refusal of the other
    turn_is : append_turn conference place messages a ≡ deciding (appended place messages) line a (first_refusal (import_refusals place messages b))
    turn_is = ap (appending conference place messages a) first_same ∙ decides a (first_refusal (import_refusals place messages b))

    was_is : append_turn conference place messages b ≡ deciding (appended place messages) line b (first_refusal (import_refusals place messages b))
    was_is = decides b (first_refusal (import_refusals place messages b))

    pub append_refused : (why : Refusal) → append_turn conference place messages b ≡ refuses why (Some b) → append_turn conference place messages a ≡ refuses why (Some a)
    append_refused why e = turn_is ∙ refuses_on (appended place messages) line a b (first_refusal (import_refusals place messages b)) why (sym was_is ∙ e)

    pub append_taken : (change : Change) (text : List ℕ) → change ≡ Append place messages → append_turn conference place messages b ≡ carried change b text → append_turn conference place messages a ≡ carried change a text
    append_taken change text is e =
        turn_is ∙ decided_on (appended place messages) (changed change) line text a b (first_refusal (import_refusals place messages b)) (ap (λ (k : Change). changed k a) is) (sym was_is ∙ e)

-- ---- the messages of a sheet
module _ (conference now place : ℕ) (entries : List Sheet) (a b : Board) (alike : AreAlike a b) where
  messages_alike : imported_messages now place a entries ≡ imported_messages now place b entries
  messages_alike = ap (λ (kind : Kind). map (imported_message kind now) entries) (kind_alike a b alike place)

  turn_alike : sheet_turn conference now place a (Ok entries) ≡ append_turn conference place (imported_messages now place b entries) a
  turn_alike = ap (λ (messages : List Message). append_turn conference place messages a) messages_alike

  pub sheet_refused : (why : Refusal) → sheet_turn conference now place b (Ok entries) ≡ refuses why (Some b) → sheet_turn conference now place a (Ok entries) ≡ refuses why (Some a)
  sheet_refused why e = turn_alike ∙ append_refused conference place (imported_messages now place b entries) a b alike why e

  pub sheet_taken : (change : Change) (text : List ℕ) → change ≡ Append place (imported_messages now place b entries) → sheet_turn conference now place b (Ok entries) ≡ carried change b text → sheet_turn conference now place a (Ok entries) ≡ carried change a text
  sheet_taken change text is e = turn_alike ∙ append_taken conference place (imported_messages now place b entries) a b alike change text is e
