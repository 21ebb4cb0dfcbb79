-- How much a ledger may hold.
use Rattle.std.specs.Prelude.{ℕ}

-- how many users a board may have
abbrev pub user_limit : ℕ
user_limit = 500

-- how many upload records it may keep
abbrev pub upload_limit : ℕ
upload_limit = 100000

-- how many messages an upload record may count
abbrev pub verdict_limit : ℕ
verdict_limit = 8191
