-- The command `sample`.
use Rattle.std.specs.Prelude.{◌≡◌, ℕ, zero, suc, ◌+◌, List, [], ◌∷◌, ◌++◌, length, map, codes, decimal, Bool, false, ◌||◌, ◌==◌, nat_lt, if◌then◌else◌, Option, Some, None}
use Rattle.std.specs.Option.{option_map_or}
use Rattle.cmd_board.specs.Enroll.{first_refusal}
use Rattle.cmd_board.specs.State.{State}
use Rattle.cmd_board.specs.Turns.{Turn, refuses, on_board}
use Rattle.board_layout.specs.Board.{Board}
use Rattle.board_layout.specs.Layout.{board_size}
use Rattle.board_layout.specs.Lookups.{user_of, slots_in}
use Rattle.board_layout.specs.Valid.{board_limit}
use Rattle.entry_runs.specs.Door.{Act}
use Rattle.jam_layout.specs.Limits.{slot_limit}
use Rattle.jam_layout.specs.Marks.{is_net}
use Rattle.jam_records.specs.declared.message.Message.{Message}
use Rattle.cmd_board.specs.Places.{kind_of_place}
use Rattle.packet_verdicts.specs.Views.{msgid_at}
use Rattle.post_changes.specs.Posted.{spread}
use Rattle.cmd_messages.specs.Draws.{draws_of}
use Rattle.cmd_messages.specs.declared.draws.Draws.{Draws}
use Rattle.cmd_board.specs.shelf_files.Halts.{done}
use Rattle.cmd_board.specs.shelf_files.declared.refusal.Refusal.{Refusal}
use Rattle.cmd_board.specs.shelf_files.declared.refusal.Refusal.TheVariants.{NotMade, Count, Slots, Size}

-- ---- one message
-- the name of the user of an id, and `All` for 0
abbrev pub recipient_name : ℕ → Board → List ℕ
recipient_name id b = option_map_or (λ u. u.name) (user_of id b) (codes "All")

-- the msgid of the message that the last slot of a place holds, nothing where there is none
abbrev pub last_msgid : ℕ → Board → List ℕ
last_msgid place b = msgid_at b place (length (slots_in b place))

-- where the third draw is 0, the message answers the last one of its conference
abbrev pub drawn_replyid : Draws → Board → List ℕ
drawn_replyid d b = if d.reply == 0 then last_msgid d.place b else []

abbrev pub subject_of : ℕ → List ℕ
subject_of number = codes "Sample " ++ decimal number

-- a line of the message of a number, as it is stored
abbrev pub numbered_line : ℕ → ℕ → List ℕ
numbered_line seed number = codes "Line " ++ (decimal number ++ (codes " of seed " ++ (decimal seed ++ 0x0D ∷ [])))

-- a line so many times
abbrev pub repeated : List ℕ → ℕ → List ℕ
repeated line zero = []
repeated line (suc n) = repeated line n ++ line

-- the message of a number, from 1, by its draws, on a board
abbrev pub sampled_message : ℕ → ℕ → ℕ → Draws → Board → Message
sampled_message seed now number d b = record {
  from = codes "Sampler";
  to = recipient_name d.recipient b;
  subject = subject_of number;
  msgid = [];
  replyid = drawn_replyid d b;
  origin = [];
  destination = [];
  body = repeated (numbered_line seed number) d.lines;
  written = 1000000000 + number;
  received = 0;
  processed = now;
  local = false;
  private = is_net (kind_of_place d.place b);
  seen = false;
  deleted = false;
}

-- ---- all messages
-- the message that comes behind so many others, for the place that is drawn, on the board with those
abbrev pub sampled_post : ℕ → ℕ → ℕ → Board → ℕ × Message
sampled_post seed now behind b = ((draws_of seed behind b).place, sampled_message seed now (behind + 1) (draws_of seed behind b) b)

-- so many messages, each on the board with those before it at the ends of their conferences
unfoldable pub sampled_posts : ℕ → ℕ → Board → ℕ → List (ℕ × Message)
sampled_posts seed now b zero = []
sampled_posts seed now b (suc n) = sampled_posts seed now b n ++ sampled_post seed now n (spread (sampled_posts seed now b n) b) ∷ []

-- the board with a sample
abbrev pub sampled : ℕ → ℕ → ℕ → Board → Board
sampled seed count now b = spread (sampled_posts seed now b count) b

-- ---- the turn
-- how many slots each conference has, by place
abbrev pub slot_counts : Board → List ℕ
slot_counts b = map (λ c. length c.slots) b.conferences

-- a conference has too many slots
abbrev pub slots_case : ℕ → Bool × Refusal
slots_case slots = (nat_lt slot_limit slots, Slots slots)

-- why there is no sample, in order; of the conferences the first by place
abbrev pub sample_refusals : ℕ → ℕ → ℕ → Board → List (Bool × Refusal)
sample_refusals seed count now b =
    (count == 0 || nat_lt 5000 count, Count)
    ∷ (map slots_case (slot_counts (sampled seed count now b))
    ++ (nat_lt board_limit (board_size (sampled seed count now b)), Size (board_size (sampled seed count now b))) ∷ [])

-- how many messages were appended
abbrev pub sampled_line : ℕ → List ℕ
sampled_line count = codes "sampled " ++ (decimal count ++ codes "\n")

-- the sample is appended, unless that is refused
abbrev pub sampling : ℕ → ℕ → ℕ → Board → Option Refusal → Turn
sampling seed count now b (Some why) = refuses why (Some b)
sampling seed count now b None = record { board = Some (sampled seed count now b); reply = done (sampled_line count) }

abbrev pub sample_turn : ℕ → ℕ → ℕ → Option Board → Turn
sample_turn seed count now None = refuses NotMade None
sample_turn seed count now (Some b) = sampling seed count now b (first_refusal (sample_refusals seed count now b))

abbrev pub samples : ℕ → ℕ → ℕ → Act State
samples seed count now = on_board (λ shelf board turn. turn ≡ sample_turn seed count now board)
