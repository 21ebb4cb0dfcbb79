-- The outline of a board: what is left of it where the length of each body is known, and no body.
use Rattle.std.specs.Prelude.{All, map}
use Rattle.jam_records.specs.byte_lists.Byte.{IsByte}
use Rattle.jam_base.specs.jam_layout.Messages.{IsBody}
use Rattle.jam_base.specs.jam_layout.Outlines.{outline}
use Rattle.jam_records.specs.declared.message.Slot.{Slot}
use Rattle.jam_records.specs.declared.message.Slot.TheVariants.{Gone, Held}
use Rattle.board_layout.specs.Board.{Board}

-- the board of the outlines of its conferences
abbrev pub board_outline : Board → Board
board_outline b = record b { conferences = map outline b.conferences }

-- the body of the message that a slot holds, where it holds one, is of bytes, and empty or ended by 0Dh
abbrev pub HasBody : Slot → Type 0
HasBody Gone = Unit {0}
HasBody (Held message) = All IsByte message.body × IsBody message.body
