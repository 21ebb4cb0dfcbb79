-- What a board asks of a user more, and how many conferences the user joins.
use Rattle.std.specs.Prelude.{ℕ, zero, suc, ◌+◌, List, length, Bool, not, ◌&&◌, ◌==◌, nat_lt, if◌then◌else◌}
use Rattle.std.specs.Int.{bit_at}
use Rattle.board_ledger.specs.Limits.{user_limit}
use Rattle.board_ledger.specs.Users.{is_taken, right_members}
use Rattle.board_ledger.specs.declared.ledger.Ledger.{Ledger}
use Rattle.board_ledger.specs.setup_file.Texts.{is_user_name}

-- there are fewer than 500 users, and none has the name, ignoring ASCII case
abbrev pub is_free : Ledger → List ℕ → Bool
is_free l name = nat_lt (length l.users) user_limit && not (is_taken l.users name)

-- the ledger may have a user of this name behind the others, a member of these places
abbrev pub may_enroll : Ledger → List ℕ → ℕ → Bool
may_enroll l name members = (is_user_name name && right_members (length l.setup.conferences) members) && is_free l name

-- 1 where a place is in the member set
abbrev pub one_if_joined : ℕ → ℕ → ℕ
one_if_joined members place = if bit_at members place == 1 then 1 else 0

-- of so many places from one on, how many are in the member set
abbrev pub joined_count : ℕ → ℕ → ℕ → ℕ
joined_count members place zero = 0
joined_count members place (suc n) = one_if_joined members place + joined_count members (place + 1) n
