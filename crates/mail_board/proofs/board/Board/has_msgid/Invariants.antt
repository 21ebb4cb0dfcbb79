use Rattle.std.proofs.Common.{◌≡◌, false, take}
use Rattle.std.specs.List.{list_any}
use Rattle.jam_layout.specs.jam_threads.Children.{has_msgid}
use Rattle.mail_board.proofs.board.Board.has_msgid.Given as goal

-- no slot so far holds a message with the msgid
abbrev pub invariant-loop-before : goal.invariant-loop-before
invariant-loop-before l = list_any (has_msgid l.msgid) (take l.before l.base.conference.slots) ≡ false
