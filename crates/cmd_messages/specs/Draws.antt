-- The numbers of a sample, and what is drawn from them.
use Rattle.std.specs.Prelude.{ℕ, zero, suc, ◌+◌, ◌*◌, ◌/◌, ◌%◌, ◌^◌, length}
use Rattle.board_layout.specs.Board.{Board}
use Rattle.cmd_messages.specs.declared.draws.Draws.{Draws}

-- the number that comes behind another
abbrev pub next_drawn_number : ℕ → ℕ
next_drawn_number x = (1664525 * x + 1013904223) % 2 ^ 32

-- the number x(k) of a seed, which is x(0)
unfoldable pub drawn_number : ℕ → ℕ → ℕ
drawn_number seed zero = seed
drawn_number seed (suc k) = next_drawn_number (drawn_number seed k)

-- the draw below m that x(k) gives
abbrev pub draw_of : ℕ → ℕ → ℕ → ℕ
draw_of seed k m = (drawn_number seed k / 65536) % m

-- the four draws for the message that comes behind so many others, on a board
abbrev pub draws_of : ℕ → ℕ → Board → Draws
draws_of seed behind b = record {
  place = draw_of seed (4 * behind + 1) (length b.ledger.setup.conferences);
  recipient = draw_of seed (4 * behind + 2) (length b.ledger.users + 1);
  reply = draw_of seed (4 * behind + 3) 4;
  lines = draw_of seed (4 * behind + 4) 8 + 1;
}
