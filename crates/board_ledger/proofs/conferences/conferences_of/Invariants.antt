use Rattle.std.proofs.Common.{◌≡◌, ◌-◌, [], length}
use Rattle.board_ledger.specs.Records.{records_at}
use Rattle.board_ledger.specs.Conferences.{conference_at}
use Rattle.board_ledger.proofs.conferences.conferences_of.Given as goal

-- the conferences so far, and those that are still read, are those of the bytes
abbrev pub invariant-loop : goal.invariant-loop
invariant-loop l = record {
  read : records_at conference_at (l.count - l.counter) l.conferences l.rest ≡ records_at conference_at l.count [] l.bytes;
  many : length l.conferences ≡ l.counter;
}
