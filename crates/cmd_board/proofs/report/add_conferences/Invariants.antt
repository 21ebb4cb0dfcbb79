use Rattle.std.proofs.Common.{◌≡◌, ◌++◌, drop, length}
use Rattle.cmd_board.specs.Check.{checked_lines}
use Rattle.cmd_board.proofs.report.add_conferences.Given as goal

-- the lines so far, and those of the other conferences
abbrev pub invariant-loop-place : goal.invariant-loop-place
invariant-loop-place l = record {
  lines : l.text ++ checked_lines (drop l.place l.board.board.ledger.setup.conferences) (drop l.place l.board.board.conferences)
      ≡ l.fn.text ++ checked_lines l.board.board.ledger.setup.conferences l.board.board.conferences;
  all : l.conferences ≡ l.board.board.ledger.setup.conferences;
  end : l.place-end ≡ length l.board.board.ledger.setup.conferences;
}
