-- What becomes of another tool's records is the same on boards with one outline.
use Rattle.std.proofs.Common.{◌≡◌, ℕ, ◌+◌, cond, List, [], ◌∷◌, ◌++◌, length, Some, refl, sym, ap, ◌∙◌}
use Rattle.std.specs.Prelude.{codes, fold}
use Rattle.cmd_board.specs.Turns.{Turn}
use Rattle.board_layout.specs.Board.{Board}
use Rattle.jam_adopt.specs.declared.found.Found.{Found}
use Rattle.jam_adopt.specs.declared.found.FoundVerdict.{FoundVerdict}
use Rattle.jam_adopt.specs.declared.found.FoundVerdict.TheVariants.{Taken, Refused}
use Rattle.jam_records.specs.declared.message.Kind.{Kind}
use Rattle.jam_records.specs.declared.message.Message.{Message}
use Rattle.cmd_board.specs.mail_board.Changes.{changed}
use Rattle.cmd_board.specs.mail_board.Held.{AreAlike}
use Rattle.cmd_board.specs.mail_board.declared.change.Change.{Change}
use Rattle.cmd_board.specs.mail_board.declared.change.Change.TheVariants.{Spread}
use Rattle.mail_intake.proofs.RoomAlike.{count_alike, full_alike}
use Rattle.mail_intake.specs.Lines.{intake_text, posted_line, refused_line}
use Rattle.mail_intake.specs.Room.{is_full}
use Rattle.cmd_board.proofs.ChangeExits.{carried}
use Rattle.cmd_board.proofs.PlaceAlike.{kind_alike}
use Rattle.board_layout.specs.Lookups.{slots_in}
use Rattle.post_changes.specs.Posted.{spread}
use Rattle.shelf_files.specs.Halts.{done}
use Rattle.cmd_adopt.specs.Adopt.{adopting}
use Rattle.cmd_adopt.specs.Adopted.{adopted, adopted_as, kept_in, post_of}

module _ (a b : Board) (alike : AreAlike a b) where
  -- ---- one record more
  module _ (conference place : ℕ) where
    taken_alike : (so_far : List ℕ × List (ℕ × Message)) (at : ℕ) (m : Message) → adopted_as conference place a so_far at (Taken m) ≡ adopted_as conference place b so_far at (Taken m)
    taken_alike so_far at m =
        let post : post_of place a m ≡ post_of place b m = ap (λ (kind : Kind). (place, kept_in kind m)) (kind_alike a b alike place) in
        (λ i. cond (is_full a so_far.1 (post i)) (so_far.0 ++ refused_line at (codes "full"), so_far.1) (so_far.0 ++ posted_line at conference (count_alike a b alike so_far.1 place i + 1), so_far.1 ++ post i ∷ []))
        ∙ ap (λ full. cond full (so_far.0 ++ refused_line at (codes "full"), so_far.1) (so_far.0 ++ posted_line at conference (length (slots_in (spread so_far.1 b) place) + 1), so_far.1 ++ post_of place b m ∷ [])) (full_alike a b alike so_far.1 (post_of place b m))

    next_as : (so_far : List ℕ × List (ℕ × Message)) (at : ℕ) (verdict : FoundVerdict) → adopted_as conference place a so_far at verdict ≡ adopted_as conference place b so_far at verdict
    next_as so_far at (Refused rule) = refl
    next_as so_far at (Taken m) = taken_alike so_far at m

    adopted_alike : (records : List Found) → adopted conference place a records ≡ adopted conference place b records
    unfolding adopted
    adopted_alike records = λ i. fold (λ so_far found. next_as so_far found.place found.verdict i) ([], []) records

    -- ---- the turn
    pub adopting_alike : (records : List Found) (change : Change) (text : List ℕ) → change ≡ Spread (adopted conference place b records).1 → adopting conference place b records ≡ carried change b text → adopting conference place a records ≡ carried change a text
    adopting_alike records change text is e =
        let board : spread (adopted conference place a records).1 a ≡ changed change a =
        ap (λ (all : List ℕ × List (ℕ × Message)). spread all.1 a) (adopted_alike records) ∙ sym (ap (λ (k : Change). changed k a) is) in
        let reply = ap (λ (all : List ℕ × List (ℕ × Message)). done (intake_text (length records) all)) (adopted_alike records) ∙ ap (λ (t : Turn). t.reply) e in
        λ i. record { board = Some (board i); reply = reply i }

-- the change posts what was taken
pub posts_change : (conference place : ℕ) (b : Board) (records : List Found) (lines : List ℕ) (posts : List (ℕ × Message)) → (lines, posts) ≡ adopted conference place b records → Spread posts ≡ Spread (adopted conference place b records).1
posts_change conference place b records lines posts is = ap (λ (all : List ℕ × List (ℕ × Message)). Spread all.1) is
