use Rattle.std.proofs.Common.{◌≡◌, ◌-◌, ◌^◌, ◌<◌, ℕ, List, [], length}
use Rattle.std.specs.Prelude.{All}
use Rattle.std.specs.List.{list_any}
use Rattle.std.specs.Str.{bytes_eq}
use Rattle.board_ledger.specs.Met.{is_met}
use Rattle.board_ledger.specs.Records.{records_at}
use Rattle.board_ledger.specs.Uploads.{upload_at}
use Rattle.board_ledger.proofs.UploadTests.{pair_of}
use Rattle.board_ledger.proofs.uploads.met_uploads.Given as goal

-- the upload records so far, and those that are still read, are those of the bytes, and the pairs so far were met
abbrev pub invariant-loop : goal.invariant-loop
invariant-loop l = record {
  read : records_at (upload_at l.first l.users) (l.count - l.counter) l.uploads l.rest ≡ records_at (upload_at l.first l.users) l.count [] l.bytes;
  many : length l.uploads ≡ l.counter;
  fit : All (λ e. e.user < 2 ^ 16) l.uploads;
  met : (key : List ℕ) → is_met l.pairs key ≡ list_any (λ e. bytes_eq (pair_of e) key) l.uploads;
}
