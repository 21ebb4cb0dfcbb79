-- The command `pack`.
use Rattle.std.specs.Prelude.{◌≡◌, ℕ, List, ◌++◌, codes, decimal, Option, Some, None}
use Rattle.cmd_board.specs.State.{State}
use Rattle.cmd_board.specs.Turns.{Turn, refuses, on_board}
use Rattle.board_layout.specs.Board.{Board}
use Rattle.board_layout.specs.Lookups.{place_of}
use Rattle.entry_runs.specs.Door.{Act}
use Rattle.cmd_board.specs.shelf_files.Halts.{done}
use Rattle.cmd_board.specs.shelf_files.declared.refusal.Refusal.TheVariants.{NotMade, NoConference}
use Rattle.jam_pack.specs.slot_changes.Packed.{packed, packed_count}

-- the conference, and how many of its slots became Gone
abbrev pub packed_line : ℕ → ℕ → List ℕ
packed_line conference count = codes "packed " ++ (decimal conference ++ (codes ": " ++ (decimal count ++ codes "\n")))

-- its place is packed
abbrev pub pack_at : ℕ → Board → Option ℕ → Turn
pack_at conference b None = refuses NoConference (Some b)
pack_at conference b (Some place) = record { board = Some (packed place b); reply = done (packed_line conference (packed_count place b)) }

abbrev pub pack_turn : ℕ → Option Board → Turn
pack_turn conference None = refuses NotMade None
pack_turn conference (Some b) = pack_at conference b (place_of conference b)

abbrev pub packs : ℕ → Act State
packs conference = on_board (λ shelf board turn. turn ≡ pack_turn conference board)
