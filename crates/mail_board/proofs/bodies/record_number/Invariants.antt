use Rattle.std.proofs.Common.{◌≡◌, ◌+◌, take}
use Rattle.std.specs.Prelude.{sum_by}
use Rattle.mail_board.specs.Bodies.{one_held}
use Rattle.mail_board.proofs.bodies.record_number.Given as goal

-- the messages of the slots so far, and one more
abbrev pub invariant-loop-before : goal.invariant-loop-before
invariant-loop-before l = l.count ≡ sum_by one_held (take l.before l.base.conference.slots) + 1
