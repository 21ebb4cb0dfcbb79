use Rattle.std.proofs.Common.{◌≡◌, ◌-◌, ℕ, List, [], length}
use Rattle.std.specs.List.{list_any}
use Rattle.std.specs.Str.{bytes_eq}
use Rattle.board_ledger.specs.Met.{is_met}
use Rattle.board_ledger.specs.Records.{records_at}
use Rattle.board_ledger.specs.Users.{lowered, user_at}
use Rattle.board_ledger.proofs.users.users_of.Given as goal

-- the users so far, and those that are still read, are those of the bytes, and the names so far were met
abbrev pub invariant-loop : goal.invariant-loop
invariant-loop l = record {
  read : records_at (user_at l.version l.conferences) (l.count - l.counter) l.users l.rest ≡ records_at (user_at l.version l.conferences) l.count [] l.bytes;
  many : length l.users ≡ l.counter;
  met : (key : List ℕ) → is_met l.names key ≡ list_any (λ u. bytes_eq (lowered u.name) key) l.users;
}
