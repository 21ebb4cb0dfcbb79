-- The command `check`.
use Rattle.std.specs.Prelude.{◌≡◌, ℕ, List, [], ◌∷◌, ◌++◌, length, codes, decimal, Option, Some, None}
use Rattle.entry_runs.specs.Door.{Act}
use Rattle.board_layout.specs.Board.{Board}
use Rattle.board_layout.specs.Layout.{board_size}
use Rattle.board_layout.specs.jam_layout.Conference.{live_count}
use Rattle.board_layout.specs.jam_layout.declared.conference.ConferenceContents.{ConferenceContents}
use Rattle.setup_file.specs.declared.conference.Conference.{Conference as SetupConference}
use Rattle.shelf_files.specs.Halts.{done}
use Rattle.shelf_files.specs.declared.refusal.Refusal.TheVariants.{NotMade}
use Rattle.cmd_board.specs.State.{State}
use Rattle.cmd_board.specs.Turns.{Turn, refuses, on_board}

-- the number and the name of a conference
abbrev pub conference_label : SetupConference → List ℕ
conference_label named = decimal named.number ++ (codes " " ++ (named.name ++ codes ": "))

-- how many slots there are, and how many live messages
abbrev pub slots_text : ℕ → ℕ → List ℕ
slots_text slots live = decimal slots ++ (codes " slots, " ++ (decimal live ++ codes " live\n"))

abbrev pub conference_line : SetupConference → ℕ → ℕ → List ℕ
conference_line named slots live = conference_label named ++ slots_text slots live

abbrev pub checked_lines : List SetupConference → List ConferenceContents → List ℕ
checked_lines [] conferences = []
checked_lines (named ∷ others) [] = []
checked_lines (named ∷ others) (c ∷ conferences) = conference_line named (length c.slots) (live_count c.slots) ++ checked_lines others conferences

abbrev pub board_line : Board → List ℕ
board_line b = codes "board " ++ (b.ledger.setup.bbsid ++ codes "\n")

-- how many users and upload records there are, and how many bytes all data files have
abbrev pub board_counts : Board → List ℕ
board_counts b =
    decimal (length b.ledger.users) ++ (codes " users, " ++ (decimal (length b.ledger.uploads) ++ (codes " uploads, "
    ++ (decimal (board_size b) ++ codes " bytes\n"))))

abbrev pub report : Board → List ℕ
report b = board_line b ++ (checked_lines b.ledger.setup.conferences b.conferences ++ board_counts b)

abbrev pub checked : Option Board → Turn
checked None = refuses NotMade None
checked (Some b) = record { board = Some b; reply = done (report b) }

abbrev pub checks : Act State
checks = on_board (λ shelf board turn. turn ≡ checked board)
