use Rattle.std.proofs.Common.{◌≡◌, ◌++◌, take}
use Rattle.board_ledger.specs.Users.{users_text}
use Rattle.open_offers.specs.declared.version.Version.TheVariants.{Second}
use Rattle.board_ledger.proofs.users.add_users.Given as goal

-- the records so far were added
abbrev pub invariant-loop-user : goal.invariant-loop-user
invariant-loop-user l = l.out ≡ l.initial.out ++ users_text Second l.conferences (take l.user-index l.users)
