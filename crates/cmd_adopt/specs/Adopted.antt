-- What becomes of the records of another tool's base, one after the other.
use Rattle.std.specs.Prelude.{ℕ, List, [], ◌∷◌, ◌++◌, codes, fold, ◌||◌, if◌then◌else◌}
use Rattle.board_layout.specs.Board.{Board}
use Rattle.jam_adopt.specs.RuleWord.{foreign_word}
use Rattle.jam_adopt.specs.declared.found.Found.{Found}
use Rattle.jam_adopt.specs.declared.found.FoundVerdict.{FoundVerdict}
use Rattle.jam_adopt.specs.declared.found.FoundVerdict.TheVariants.{Taken, Refused}
use Rattle.jam_layout.specs.Marks.{is_net}
use Rattle.jam_records.specs.declared.message.Kind.{Kind}
use Rattle.jam_records.specs.declared.message.Message.{Message}
use Rattle.mail_intake.specs.Lines.{posted_line, refused_line}
use Rattle.mail_intake.specs.Room.{is_full}
use Rattle.cmd_board.specs.Places.{kind_of_place}
use Rattle.mail_intake.specs.packet_verdicts.Views.{next_number}
use Rattle.post_changes.specs.Posted.{spread}

-- a message as a conference of a kind keeps it: always private in a net conference
abbrev pub kept_in : Kind → Message → Message
kept_in kind m = record m { private = m.private || is_net kind }

-- the post that a message becomes in a place
abbrev pub post_of : ℕ → Board → Message → ℕ × Message
post_of place b m = (place, kept_in (kind_of_place place b) m)

-- The lines and the posts so far, and those with one record more. A message is posted where there is room for it behind
-- the posts, and is refused as `full` where there isn't.
abbrev pub adopted_as : ℕ → ℕ → Board → List ℕ × List (ℕ × Message) → ℕ → FoundVerdict → List ℕ × List (ℕ × Message)
adopted_as conference place b so_far at (Refused rule) = (so_far.0 ++ refused_line at (foreign_word rule), so_far.1)
adopted_as conference place b so_far at (Taken m) =
    if is_full b so_far.1 (post_of place b m) then (so_far.0 ++ refused_line at (codes "full"), so_far.1)
    else (so_far.0 ++ posted_line at conference (next_number (spread so_far.1 b) place), so_far.1 ++ post_of place b m ∷ [])

abbrev pub adopted_next : ℕ → ℕ → Board → List ℕ × List (ℕ × Message) → Found → List ℕ × List (ℕ × Message)
adopted_next conference place b so_far found = adopted_as conference place b so_far found.place found.verdict

-- those of all records, for the conference of a number in a place
unfoldable pub adopted : ℕ → ℕ → Board → List Found → List ℕ × List (ℕ × Message)
adopted conference place b records = fold (adopted_next conference place b) ([], []) records
