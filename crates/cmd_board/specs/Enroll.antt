-- The command `enroll`.
use Rattle.std.specs.Prelude.{◌≡◌, ℕ, ◌+◌, List, [], ◌∷◌, ◌++◌, length, codes, decimal, Bool, not, nat_le, nat_lt, is_some, if◌then◌else◌, Option, Some, None}
use Rattle.std.specs.Str.{bytes_eq}
use Rattle.board_ledger.specs.Limits.{user_limit}
use Rattle.entry_runs.specs.Door.{Act}
use Rattle.mail_board.specs.board_changes.Changed.{enrolled}
use Rattle.board_layout.specs.Board.{Board}
use Rattle.board_layout.specs.Layout.{board_size}
use Rattle.board_layout.specs.Valid.{board_limit}
use Rattle.cmd_words.specs.Choice.{ChoiceReads, has_unknown, chosen_from}
use Rattle.cmd_words.specs.declared.choice.Choice.{Choice}
use Rattle.mail_board.specs.Readers.{user_id}
use Rattle.setup_file.specs.Texts.{is_user_name}
use Rattle.shelf_files.specs.Halts.{done}
use Rattle.shelf_files.specs.declared.refusal.Refusal.{Refusal}
use Rattle.shelf_files.specs.declared.refusal.Refusal.TheVariants.{NotMade, Name, DupUser, NoConference, Users, Size}
use Rattle.cmd_board.specs.State.{State}
use Rattle.cmd_board.specs.declared.enrollment.Enrolled.{Enrolled}
use Rattle.cmd_board.specs.Turns.{Turn, refuses, on_board}

-- the first refusal whose case this is
abbrev pub first_refusal : List (Bool × Refusal) → Option Refusal
first_refusal [] = None
first_refusal (r ∷ refusals) = if r.0 then Some r.1 else first_refusal refusals

-- `n`: the user may write net mail
abbrev pub is_net_flag : List ℕ → Bool
is_net_flag flags = bytes_eq flags (codes "n")

-- the board with the user, a member of the chosen conferences
abbrev pub board_with_user : List ℕ → Bool → Choice → Board → Board
board_with_user name net choice b = enrolled name net (chosen_from choice 0 b.ledger.setup.conferences) b

-- why a user isn't enrolled, in order
abbrev pub enroll_refusals : List ℕ → Bool → Choice → Board → List (Bool × Refusal)
enroll_refusals name net choice b =
    (not (is_user_name name), Name)
    ∷ (is_some (user_id name b), DupUser)
    ∷ (has_unknown choice b.ledger.setup.conferences, NoConference)
    ∷ (nat_le user_limit (length b.ledger.users), Users)
    ∷ (nat_lt board_limit (board_size (board_with_user name net choice b)), Size (board_size (board_with_user name net choice b)))
    ∷ []

-- the id and the name of a user
abbrev pub user_line : ℕ → List ℕ → List ℕ
user_line id name = codes "user " ++ (decimal id ++ (codes " " ++ (name ++ codes "\n")))

abbrev pub enrolled_line : Enrolled → List ℕ
enrolled_line user = user_line user.id user.name

-- the user is enrolled behind the others, unless that is refused
abbrev pub enrolling : List ℕ → Bool → Choice → Board → Option Refusal → Turn
enrolling name net choice b (Some why) = refuses why (Some b)
enrolling name net choice b None = record {
  board = Some (board_with_user name net choice b);
  reply = done (user_line (length b.ledger.users + 1) name);
}

abbrev pub enroll_turn : List ℕ → Bool → Choice → Option Board → Turn
enroll_turn name net choice None = refuses NotMade None
enroll_turn name net choice (Some b) = enrolling name net choice b (first_refusal (enroll_refusals name net choice b))

-- the words FLAGS and CONFS, and the turn
abbrev pub Enrolls : List ℕ → List ℕ → List ℕ → Option Board → Turn → Type 0
Enrolls name flags conferences board turn = (choice : Choice) × ChoiceReads conferences choice × (turn ≡ enroll_turn name (is_net_flag flags) choice board)

abbrev pub enrolls : List ℕ → List ℕ → List ℕ → Act State
enrolls name flags conferences = on_board (λ shelf. Enrolls name flags conferences)
