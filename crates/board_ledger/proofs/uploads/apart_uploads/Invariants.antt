use Rattle.std.proofs.Common.{◌≡◌, ◌-◌, ◌++◌, [], eqb, length, map}
use Rattle.std.specs.List.{IsDistinct}
use Rattle.board_ledger.specs.Apart.{digest_number, digest_numbers}
use Rattle.board_ledger.specs.Records.{records_at}
use Rattle.board_ledger.specs.Uploads.{upload_at}
use Rattle.board_ledger.proofs.uploads.apart_uploads.Given as goal

-- the upload records so far, and those that are still read, are those of the bytes, and all of them begin unlike
abbrev pub invariant-loop : goal.invariant-loop
invariant-loop l = record {
  read : records_at (upload_at l.first l.users) (l.count - l.counter) l.uploads l.rest ≡ records_at (upload_at l.first l.users) l.count [] l.bytes;
  many : length l.uploads ≡ l.counter;
  apart : IsDistinct eqb (map digest_number l.uploads ++ digest_numbers (l.count - l.counter) l.rest);
}
