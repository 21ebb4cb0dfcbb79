use Rattle.std.proofs.Common.{◌≡◌, ◌*◌, ◌≤◌, length, take}
use Rattle.board_ledger.specs.Users.{users_text}
use Rattle.open_offers.specs.declared.version.Version.TheVariants.{Second}
use Rattle.board_ledger.proofs.size.users_size.Given as goal

-- the length of the records so far
abbrev pub invariant-loop-user : goal.invariant-loop-user
invariant-loop-user l = record {
  so_far : l.size ≡ length (users_text Second l.conferences (take l.user-index l.users));
  small : l.size ≤ 1080 * l.user-index;
}
