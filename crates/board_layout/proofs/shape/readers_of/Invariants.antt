use Rattle.std.proofs.Common.{◌≡◌, ◌+◌, ◌++◌, drop}
use Rattle.board_layout.specs.Board.{readers_from}
use Rattle.board_layout.proofs.shape.readers_of.Given as goal

-- the readers so far, and those of the users that are left
abbrev pub invariant-loop-i : goal.invariant-loop-i
invariant-loop-i l = l.readers ++ readers_from l.place (l.i + 1) (drop l.i l.users) ≡ readers_from l.place 1 l.users
