-- The command `kill`.
use Rattle.std.specs.Prelude.{◌≡◌, ℕ, List, ◌++◌, codes, decimal, Bool, false, if◌then◌else◌, Option, Some, None}
use Rattle.std.specs.Option.{option_map_or}
use Rattle.post_changes.specs.board_changes.Changed.{base_at}
use Rattle.cmd_board.specs.State.{State}
use Rattle.cmd_board.specs.Turns.{Turn, refuses, on_board}
use Rattle.board_layout.specs.Board.{Board}
use Rattle.board_layout.specs.Lookups.{place_of}
use Rattle.entry_runs.specs.Door.{Act}
use Rattle.board_layout.specs.jam_base.Slots.{has_live}
use Rattle.cmd_board.specs.shelf_files.Halts.{done}
use Rattle.cmd_board.specs.shelf_files.declared.refusal.Refusal.TheVariants.{NotMade, NoConference, NoMessage}
use Rattle.post_changes.specs.slot_changes.Changed.{deleted}

-- the conference in a place has a message of the number that isn't deleted
abbrev pub has_message : ℕ → ℕ → Board → Bool
has_message place number b = option_map_or (λ base. has_live number base.conference.slots) (base_at place b) false

-- the conference and the number of the message
abbrev pub killed_line : ℕ → ℕ → List ℕ
killed_line conference number = codes "killed " ++ (decimal conference ++ (codes " " ++ (decimal number ++ codes "\n")))

-- the message in a place is deleted, where there is one
abbrev pub killing : ℕ → ℕ → ℕ → Board → Turn
killing conference number place b =
    if has_message place number b
    then record { board = Some (deleted place number b); reply = done (killed_line conference number) }
    else refuses NoMessage (Some b)

-- the place of the conference
abbrev pub kill_at : ℕ → ℕ → Board → Option ℕ → Turn
kill_at conference number b None = refuses NoConference (Some b)
kill_at conference number b (Some place) = killing conference number place b

abbrev pub kill_turn : ℕ → ℕ → Option Board → Turn
kill_turn conference number None = refuses NotMade None
kill_turn conference number (Some b) = kill_at conference number b (place_of conference b)

abbrev pub kills : ℕ → ℕ → Act State
kills conference number = on_board (λ shelf board turn. turn ≡ kill_turn conference number board)
